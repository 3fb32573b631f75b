-- The sum so far, and the triangles that are left. Assumes nothing.
use mathlib.Core.Path.{◌≡◌, sym, ◌∙◌}
use native.Mathlib.Omega.{arith}
use lib.ListN.{length, take}
use lib.Seq.{length-take-le}
use Rattle.shapes.specs.Coordinates.{points_in}
use Rattle.shapes.proofs.Tests.{at_first_place}
use Rattle.shapes.proofs.Around.{from_corner, from_following, fan_start, fan_next, fan_ended}
use Rattle.shapes.proofs.outline.fan.Goals as goal

pub loop-i-init : goal.loop-i-init
loop-i-init c =
    let vs = points_in c.args.vs.now.xs in
    let m = c.args.m in
    let eight = c.args.vs.now.eight in
    let count : length (take m vs) ≡ m = length-take-le m vs (omega arith) in (
      omega arith,
      omega arith,
      c.at-s.ensures ∙ sym (at_first_place vs m 0 (omega arith)),
      c.b2_sub-p1.ensures,
      fan_start (take m vs) (omega arith),
    )

pub loop-i-preserved : goal.loop-i-preserved
loop-i-preserved c =
    let vs = points_in c.args.vs.now.xs in
    let m = c.args.m in
    let i = c.loop-i.i in
    let inv = c.loop-i.invariant in
    let eight = c.args.vs.now.eight in
    let count : length (take m vs) ≡ m = length-take-le m vs (omega arith) in
    let p2_is = from_corner vs m i (omega arith) (omega arith) _ _ _ c.at.ensures
    c.b2_sub-p2.ensures in
    let p3_is =
    from_following vs m i (omega arith) (omega arith) _ c.after.ensures.0 c.after.ensures.1 _ _ _
    c.at-in-loop-i.ensures c.b2_sub-p3.ensures in (
      omega arith,
      omega arith,
      inv.2,
      inv.3,
      fan_next (take m vs) i _ _ _ _ _ _ (omega arith) inv.2 inv.3 p2_is p3_is c.with_triangle-sum.ensures
          inv.4,
    )

pub returns : goal.returns
returns c =
    let vs = points_in c.args.vs.now.xs in
    let m = c.args.m in
    let eight = c.args.vs.now.eight in
    let count : length (take m vs) ≡ m = length-take-le m vs (omega arith) in
    fan_ended (take m vs) c.loop-i.i _ (omega arith) c.loop-i.invariant.4
