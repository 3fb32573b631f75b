-- The normals done, and the edges that are left. Assumes nothing.
use mathlib.Core.Path.{sym, ◌∙◌, ap, subst}
use Prim.Native.Nat.{◌+◌}
use native.Mathlib.Omega.{arith}
use lib.ListN.{take}
use lib.Seq.{length-take-le}
use lib.Ieee.{lt}
use Rattle.floats.specs.B2Common.{epsilon_squared}
use Rattle.shapes.specs.Coordinates.{points_in}
use Rattle.shapes.proofs.Around.{edge_of_corners}
use Rattle.shapes.proofs.Facing.{Facing, facing_starts, facing_next, facing_short, facing_ended}
use Rattle.shapes.proofs.outline.normals.Goals as goal

pub loop-i-init : goal.loop-i-init
loop-i-init c =
    let m = c.args.m in
    let vs = points_in c.args.vs.now.xs in
    (omega arith, omega arith, facing_starts (take m vs) _)

pub returns-else-squared : goal.returns-else-squared
returns-else-squared c =
    let vs = points_in c.args.vs.now.xs in
    let m = c.args.m in
    let i = c.loop-i.i in
    let inv = c.loop-i.invariant in
    let eight = c.args.vs.now.eight in
    let count = length-take-le m vs (omega arith) in
    let edge_is = edge_of_corners vs m i (omega arith) (omega arith) _ c.after.ensures.0 c.after.ensures.1 _ _ _
    c.at.ensures c.at-in-loop-i.ensures c.b2_sub-edge.ensures in
    facing_short (take m vs) _ _ i _ inv.2 (omega arith) edge_is _
    (ap (lt epsilon_squared) (sym c.b2_length_squared-squared.ensures) ∙ c.if-squared.false)

pub loop-i-preserved : goal.loop-i-preserved
loop-i-preserved c =
    let vs = points_in c.args.vs.now.xs in
    let m = c.args.m in
    let i = c.loop-i.i in
    let inv = c.loop-i.invariant in
    let eight = c.args.vs.now.eight in
    let count = length-take-le m vs (omega arith) in
    let edge_is = edge_of_corners vs m i (omega arith) (omega arith) _ c.after.ensures.0 c.after.ensures.1 _ _ _
    c.at.ensures c.at-in-loop-i.ensures c.b2_sub-edge.ensures in (
      omega arith,
      omega arith,
      subst (Facing (take m vs) _ (i + 1)) (sym c.put.ensures)
          (facing_next (take m vs) _ _ i _ inv.2 (omega arith) edge_is _ (omega (arith, c.loop-i.ns.eight))
          c.normal_of_edge.ensures
          (ap (lt epsilon_squared) (sym c.b2_length_squared-squared.ensures) ∙ c.if-squared.true)),
    )

pub returns : goal.returns
returns c =
    let vs = points_in c.args.vs.now.xs in
    let m = c.args.m in
    let eight = c.args.vs.now.eight in
    let count = length-take-le m vs (omega arith) in
    facing_ended (take m vs) _ _ c.loop-i.i c.loop-i.invariant.2 (omega arith)
