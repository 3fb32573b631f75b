-- The points read so far are the first ones. Assumes nothing.
use native.Mathlib.Omega.{arith}
use lib.ListN.{length-set}
use Rattle.shapes.specs.Coordinates.{points_in}
use Rattle.algebra.proofs.Lists.{copied_next, copied}
use Rattle.shapes.proofs.coordinates.Row.points.Goals as goal

pub loop-i-preserved : goal.loop-i-preserved
loop-i-preserved c =
    let inv = c.loop-i.invariant in
    let eight = c.args.self.now.eight in
    let size = inv.1 in (
      omega arith,
      simp length-set size,
      copied_next (points_in c.args.self.now.xs) c.loop-i.vs c.loop-i.i inv.2 _ _
          (omega arith) (omega arith) c.at.ensures,
    )

pub returns : goal.returns
returns c =
    let inv = c.loop-i.invariant in
    let eight = c.args.self.now.eight in
    let size = inv.1 in
    copied _ _ c.loop-i.i inv.2 (omega arith) (omega arith)
