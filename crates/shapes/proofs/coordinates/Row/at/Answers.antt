-- Two reads, side by side. Assumes nothing.
use native.Mathlib.Omega.{arith}
use Rattle.floats.proofs.Coordinates.{point_read}
use Rattle.shapes.proofs.coordinates.Row.at.Goals as goal

pub returns : goal.returns
returns c =
    let row = c.args.self.now in
    point_read row.xs c.args.i (omega (arith, row.eight)) _ _
