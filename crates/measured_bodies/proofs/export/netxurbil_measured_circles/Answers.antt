-- Case by case. Assumes nothing.
use Rattle.std.proofs.Common.{arith}
use Rattle.measured_definitions.specs.MeasuredCircles.{circles_answer}
use Rattle.measured_bodies.proofs.export.netxurbil_measured_circles.Goals as goal

pub returns : goal.returns
unfolding circles_answer
returns c = grind arith
