-- Both ways round. Assumes nothing.
use Rattle.std.proofs.Common.{arith}
use Rattle.std.proofs.lemmas.Int.{to_z-of_z}
use Rattle.measured_definitions.specs.MeasuredBoxes.{within}
use Rattle.measured_bodies.proofs.boxes.within.Goals as goal

pub returns : goal.returns
unfolding within
returns c = grind (arith, to_z-of_z)
