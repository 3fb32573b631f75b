-- Axis by axis. Assumes nothing.
use Rattle.std.proofs.Common.{arith}
use Rattle.std.proofs.lemmas.Int.{to_z-of_z, ints}
use Rattle.measured_definitions.specs.MeasuredBoxes.{boxes_touch}
use Rattle.measured_bodies.proofs.boxes.MeasuredBoxMeasured.touch.Goals as goal

pub overflow_add-pair-2 : goal.overflow_add-pair-2
overflow_add-pair-2 c = grind (arith, to_z-of_z, ints)

pub returns : goal.returns
unfolding boxes_touch
returns c = grind (arith, to_z-of_z)
