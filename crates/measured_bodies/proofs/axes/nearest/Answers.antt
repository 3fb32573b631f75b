-- The ends that face each other, or a number in both spans. Assumes nothing.
use Rattle.std.proofs.Common.{arith}
use Rattle.std.proofs.lemmas.Int.{to_z-of_z}
use Rattle.measured_definitions.specs.Axes.{nearest}
use Rattle.measured_bodies.proofs.axes.nearest.Goals as goal

pub returns-then-a-b : goal.returns-then-a-b
unfolding nearest
returns-then-a-b c = grind (arith, to_z-of_z)

pub returns-then-b-a : goal.returns-then-b-a
unfolding nearest
returns-then-b-a c = grind (arith, to_z-of_z)

pub returns : goal.returns
unfolding nearest
returns c = grind (arith, to_z-of_z)
