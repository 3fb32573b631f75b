-- The definition's verdict, and it is right. Assumes nothing.
use Rattle.std.proofs.Common.{subst, sym}
use Rattle.measured_definitions.specs.Circles.{CirclesRight}
use Rattle.measured_definitions.specs.MeasuredCircles.{circles_within, measured_circles}
use Rattle.measured_definitions.proofs.Circles.{circles_right}
use Rattle.measured_bodies.proofs.circles.measured_circles.Goals as goal

pub returns : goal.returns
unfolding measured_circles circles_within
returns c = (
  c.verdict.ensures,
  subst (CirclesRight c.args.a c.args.b) (sym c.verdict.ensures) (circles_right c.args.a c.args.b),
)
