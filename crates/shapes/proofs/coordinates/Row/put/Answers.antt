-- Two stores, side by side. Assumes nothing.
use native.Mathlib.Omega.{arith}
use Rattle.floats.proofs.Coordinates.{point_stored}
use Rattle.shapes.proofs.CoordinatePoints.{eight_stored}
use Rattle.shapes.proofs.coordinates.Row.put.Goals as goal

pub invariant_of-self : goal.invariant_of-self
invariant_of-self c =
    let row = c.args.self.now in
    record { eight = eight_stored row.xs _ c.args.i _ row.eight (point_stored row.xs c.args.i (omega (arith, row.eight)) _ _) }

pub returns : goal.returns
returns c =
    let row = c.args.self.now in
    point_stored row.xs c.args.i (omega (arith, row.eight)) _ _
