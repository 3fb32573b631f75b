-- The three tests, of numbers that are read back as they are. Assumes nothing.
use Rattle.std.proofs.Common.{arith}
use Rattle.std.proofs.lemmas.Int.{to_z-of_z}
use Rattle.measured_definitions.specs.Axes.{in_limits}
use Rattle.measured_bodies.proofs.axes.in_limits.Goals as goal

pub returns : goal.returns
unfolding in_limits
returns c = grind (arith, to_z-of_z)
