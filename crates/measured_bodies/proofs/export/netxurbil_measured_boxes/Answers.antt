-- Case by case. Assumes nothing.
use Rattle.std.proofs.Common.{arith}
use Rattle.measured_definitions.specs.MeasuredBoxes.{boxes_answer}
use Rattle.measured_bodies.proofs.export.netxurbil_measured_boxes.Goals as goal

pub returns : goal.returns
unfolding boxes_answer
returns c = grind arith
