-- The first k points are read. Assumes nothing.
use Rattle.rounding.specs.Literals.{zero32}
use Rattle.floats.specs.B2Math.{vec2}
use Rattle.lines.proofs.Points.{PointsSoFar}
use Rattle.lines.proofs.fields.points.Given as goal

abbrev pub invariant-loop-k : goal.invariant-loop-k
invariant-loop-k g l = PointsSoFar l.bytes l.at l.n g.row.N (vec2 zero32 zero32) l.ps l.k
