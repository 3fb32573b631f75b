-- Its three spans. Assumes nothing.
use Rattle.std.proofs.Common.{rules}
use Rattle.measured_definitions.specs.MeasuredCircles.{circle_in_limits}
use Rattle.measured_bodies.proofs.circles.MeasuredCircleMeasured.in_limits.Goals as goal

pub returns : goal.returns
unfolding circle_in_limits
returns c = search rules
