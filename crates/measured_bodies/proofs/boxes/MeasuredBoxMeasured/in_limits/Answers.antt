-- Its four spans. Assumes nothing.
use Rattle.std.proofs.Common.{rules}
use Rattle.measured_definitions.specs.MeasuredBoxes.{box_in_limits}
use Rattle.measured_bodies.proofs.boxes.MeasuredBoxMeasured.in_limits.Goals as goal

pub returns : goal.returns
unfolding box_in_limits
returns c = search rules
