-- The points kept so far, and those to come, give the whole answer. Assumes nothing.
use mathlib.Core.Path.{◌≡◌, refl, sym, ◌∙◌, ap}
use mathlib.Core.List.{List}
use Prim.Native.Nat.{◌+◌, ◌<◌}
use native.Mathlib.Omega.{arith}
use lib.ListN.{length, take, drop}
use lib.Seq.{length-take-le}
use Rattle.algebra.specs.Loops.{weld}
use Rattle.algebra.proofs.Loops.{weld_dropped, weld_kept, weld_ended}
use Rattle.floats.specs.declared.b2_math.B2vec2.{B2vec2}
use Rattle.shape_definitions.specs.Outline.{too_near, welded}
use Rattle.shapes.specs.Coordinates.{points_in}
use Rattle.shapes.proofs.Tests.{at_first_place}
use Rattle.algebra.proofs.Lists.{first_places}
use Rattle.shapes.proofs.outline.weld.Goals as goal
use Rattle.shapes.proofs.outline.weld.Goals.{then-not-near_any, else-not-near_any}

pub loop-i-init : goal.loop-i-init
unfolding welded
loop-i-init c = (omega arith, omega arith, omega arith, refl)

pub loop-i-preserved : goal.loop-i-preserved
loop-i-preserved c =
    let points = points_in c.args.points.now.xs in
    let count = c.args.count in
    let i = c.loop-i.i in
    let inv = c.loop-i.invariant in
    let eight = c.args.points.now.eight in
    let within : i < length (take count points) = first_places count i points (omega arith) (omega arith) in
    let v_is = c.at-v.ensures ∙ sym (at_first_place points count i (omega arith)) in
    elim c.if-not-near_any.branch [
      | then-not-near_any w ↦ rw (w.ps-is, w.n-is) (
        omega arith,
        omega arith,
        omega arith,
        ap (λ (ps : List B2vec2). weld too_near (take (c.loop-i.n + 1) ps) (drop (i + 1) (take count points)))
            w.put.ensures
            ∙ weld_kept too_near (points_in c.loop-i.ps.xs) (take count points) _ c.loop-i.n i _ _ within v_is
            inv.3
            (omega (arith, c.loop-i.ps.eight)) (sym c.near_any.ensures ∙ w.if-not-near_any.true),
      )
      | else-not-near_any w ↦ rw (w.ps-is, w.n-is) (
        omega arith,
        omega arith,
        omega arith,
        weld_dropped too_near (points_in c.loop-i.ps.xs) (take count points) _ c.loop-i.n i _ _ within v_is
            inv.3
            (sym c.near_any.ensures ∙ w.if-not-near_any.false),
      )
    ]

pub returns : goal.returns
returns c =
    let points = points_in c.args.points.now.xs in
    let count = c.args.count in
    let eight = c.args.points.now.eight in
    let end : c.loop-i.i ≡ length (take count points) = omega (arith, length-take-le count points (omega arith)) in (
      omega arith,
      weld_ended too_near _ (take count points) _ c.loop-i.i end
          c.loop-i.invariant.3,
    )
