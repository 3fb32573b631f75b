-- Each way out of the builder answers what the definition says there. Assumes nothing.
use mathlib.Core.Path.{◌≡◌, sym, ◌∙◌, ap}
use mathlib.Core.Bool.{true, false}
use lib.ListN.{take}
use Prim.Native.Nat.{ℕ}
use native.Mathlib.Omega.{arith}
use mathlib.Core.Logic.{inl, inr}
use Rattle.std.specs.Prelude.{Result, Ok, Err, None, IsErrAnd}
use Rattle.std.specs.Result.{result_ok}
use Rattle.shape_definitions.specs.declared.b2_polygon_shape.B2polygonShape.{B2polygonShape}
use Rattle.shape_definitions.specs.declared.refusal.Refusal.{Refusal}
use Rattle.shape_definitions.specs.Answers.{polygon_answered}
use Rattle.shape_definitions.specs.Outline.{edges}
use Rattle.shapes.specs.Coordinates.{points_in}
use Rattle.shapes.proofs.Tests.{at_first_place}
use Rattle.shapes.proofs.Known.{eight_points, inside_is, at_weld, walked, faced}
use Rattle.shapes.proofs.Built.{too_few_points, too_many_points, out_of_range, too_few_kept, walk_not_back, walk_too_short, after_walk}
use Rattle.shapes.proofs.Built.{edge_too_short, long_edges, area_too_small, outline_built}
use Rattle.shapes.proofs.b2_polygon_shape.b2_polygon_shape_set_core.Goals as goal

-- what an Err carries
abbrev reason : Result ℕ Refusal → Refusal
reason (Ok m) = Refusal.WalkNotClosed
reason (Err why) = why

turned_back : (answer : Result B2polygonShape Refusal) (why : Refusal) → IsErrAnd answer (λ e. e ≡ why)
    → answer ≡ Err why
turned_back (Ok shape) why so = absurd so
turned_back (Err e) why so = ap Err so

pub returns-then-count-lt3 : goal.returns-then-count-lt3
returns-then-count-lt3 c = elim c.then-count-lt3.either [
  | inl few ↦ too_few_points _ _ _ few
  | inr many ↦ too_many_points _ _ _ many.1
]

pub returns-then-not-in_range : goal.returns-then-not-in_range
returns-then-not-in_range c =
    let given = c.of-given.ensures in
    let eight = c.of-given.result.eight in
    out_of_range _ _ c.args.count (omega arith) (omega arith) (eight_points _ c.args.count _ eight given)
    (inside_is _ c.args.count _ eight given _ c.in_range.ensures ∙ c.if-not-in_range.true)

pub returns-then-n-lt3 : goal.returns-then-n-lt3
returns-then-n-lt3 c =
    let given = c.of-given.ensures in
    let eight = c.of-given.result.eight in
    let weld = c.weld-n.ensures in
    let kept = at_weld _ _ _ eight given c.args.old _ _ _ (omega arith) (omega arith) c.in_range.ensures
    c.if-not-in_range.false weld.0 c.weld-n.new.ps.eight weld.1 in
    let same = kept.kept_length in
    too_few_kept _ _ (omega arith) ∙ kept.kept_so

pub returns-in_err-m : goal.returns-in_err-m
returns-in_err-m c =
    let given = c.of-given.ensures in
    let eight = c.of-given.result.eight in
    let weld = c.weld-n.ensures in
    let kept = at_weld _ _ _ eight given c.args.old _ _ _ (omega arith) (omega arith) c.in_range.ensures
    c.if-not-in_range.false weld.0 c.weld-n.new.ps.eight weld.1 in
    let answer : c.walk.result ≡ None = c.ok_or.ensures.ok_part ∙ ap result_ok c.in_err-m.was in
    let turned : c.ok_or.result ≡ Err Refusal.WalkNotClosed = rw answer at c.ok_or.ensures.value in
    ap (polygon_answered c.args.old)
    (turned_back _ _ c.from_residual.ensures.1 ∙ ap (λ a. Err (reason a)) (sym c.in_err-m.was ∙ turned))
    ∙ walk_not_back _ _ _ _ _ kept c.if-n-lt3.false _
    (walked _ _ _ _ _ _ c.of-vs.ensures answer c.walk.ensures.1)

pub returns-then-m-lt3 : goal.returns-then-m-lt3
returns-then-m-lt3 c =
    let given = c.of-given.ensures in
    let eight = c.of-given.result.eight in
    let weld = c.weld-n.ensures in
    let kept = at_weld _ _ _ eight given c.args.old _ _ _ (omega arith) (omega arith) c.in_range.ensures
    c.if-not-in_range.false weld.0 c.weld-n.new.ps.eight weld.1 in
    walk_too_short _ _ _ _ _ kept c.if-n-lt3.false _ _
    (walked _ _ _ _ _ _ c.of-vs.ensures (c.ok_or.ensures.ok_part ∙ ap result_ok c.in_ok-m.was) c.walk.ensures.1) c.if-m-lt3.true

pub returns-then-not-normals : goal.returns-then-not-normals
returns-then-not-normals c =
    let given = c.of-given.ensures in
    let eight = c.of-given.result.eight in
    let weld = c.weld-n.ensures in
    let kept = at_weld _ _ _ eight given c.args.old _ _ _ (omega arith) (omega arith) c.in_range.ensures
    c.if-not-in_range.false weld.0 c.weld-n.new.ps.eight weld.1 in
    let corners = after_walk _ _ _ _ _ kept c.if-n-lt3.false _ _
    (walked _ _ _ _ _ _ c.of-vs.ensures (c.ok_or.ensures.ok_part ∙ ap result_ok c.in_ok-m.was) c.walk.ensures.1) c.if-m-lt3.false in
    edge_too_short c.args.old _ _ _
    (faced _ _ _ _ _ false c.of-ns.ensures c.if-not-normals.true c.normals.ensures) ∙ corners.corners_so

pub returns-then-not-sum : goal.returns-then-not-sum
returns-then-not-sum c =
    let old = c.args.old in
    let row = take c.in_ok-m.m (points_in c.walk.new.corners.xs) in
    let given = c.of-given.ensures in
    let eight = c.of-given.result.eight in
    let weld = c.weld-n.ensures in
    let kept = at_weld _ _ _ eight given old _ _ _ (omega arith) (omega arith) c.in_range.ensures
    c.if-not-in_range.false weld.0 c.weld-n.new.ps.eight weld.1 in
    let corners = after_walk _ _ _ _ _ kept c.if-n-lt3.false _ _
    (walked _ _ _ _ _ _ c.of-vs.ensures (c.ok_or.ensures.ok_part ∙ ap result_ok c.in_ok-m.was) c.walk.ensures.1) c.if-m-lt3.false in
    let long = long_edges (edges row) _ _ _
    (faced _ _ _ _ _ true c.of-ns.ensures c.if-not-normals.false c.normals.ensures) in
    area_too_small old row _ long.0 c.fan-sum.ensures c.if-not-sum.true ∙ corners.corners_so

pub returns : goal.returns
returns c =
    let old = c.args.old in
    let vs = points_in c.walk.new.corners.xs in
    let row = take c.in_ok-m.m vs in
    let given = c.of-given.ensures in
    let eight = c.of-given.result.eight in
    let weld = c.weld-n.ensures in
    let kept = at_weld _ _ _ eight given old _ _ _ (omega arith) (omega arith) c.in_range.ensures
    c.if-not-in_range.false weld.0 c.weld-n.new.ps.eight weld.1 in
    let corners = after_walk _ _ _ _ _ kept c.if-n-lt3.false _ _
    (walked _ _ _ _ _ _ c.of-vs.ensures (c.ok_or.ensures.ok_part ∙ ap result_ok c.in_ok-m.was) c.walk.ensures.1) c.if-m-lt3.false in
    let closed = c.if-m-lt3.false in
    let long = long_edges (edges row) _ _ _
    (faced _ _ _ _ _ true c.of-ns.ensures c.if-not-normals.false c.normals.ensures) in
    outline_built old row _ long.0 c.fan-sum.ensures _ _ _ _ _ _ c.if-not-sum.false
    (c.points.ensures ∙ corners.corners_over) (c.points-2.ensures ∙ long.1) (sym corners.corners_length)
    c.b2_scale.ensures c.b2_add-centroid.ensures
    (c.at-s.ensures ∙ sym (at_first_place vs c.in_ok-m.m 0 (omega arith)))
    ∙ corners.corners_so
