-- The definition's verdict, and it is right. Assumes nothing.
use Rattle.std.proofs.Common.{subst, sym}
use Rattle.measured_definitions.specs.Boxes.{BoxesRight}
use Rattle.measured_definitions.specs.MeasuredBoxes.{boxes_within, measured_boxes}
use Rattle.measured_definitions.proofs.Boxes.{boxes_right}
use Rattle.measured_bodies.proofs.boxes.measured_boxes.Goals as goal

pub returns : goal.returns
unfolding measured_boxes boxes_within
returns c = (
  c.verdict.ensures,
  subst (BoxesRight c.args.a c.args.b) (sym c.verdict.ensures) (boxes_right c.args.a c.args.b),
)
