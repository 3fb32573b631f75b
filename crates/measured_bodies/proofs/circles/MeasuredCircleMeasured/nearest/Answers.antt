-- Axis by axis. Assumes nothing.
use Rattle.std.proofs.Common.{arith, subst, sym}
use Rattle.std.proofs.lemmas.Int.{to_z-of_z}
use Rattle.measured_definitions.specs.MeasuredCircles.{nearest_circles}
use Rattle.measured_bodies.specs.Widths.{ShortCircles}
use Rattle.measured_bodies.proofs.Short.{nearest_circles_short}
use Rattle.measured_bodies.proofs.circles.MeasuredCircleMeasured.nearest.Goals as goal

pub returns-clause-nearest : goal.returns-clause-nearest
unfolding nearest_circles
returns-clause-nearest c = grind (arith, to_z-of_z)

pub returns-clause-short : goal.returns-clause-short
returns-clause-short c =
    subst ShortCircles (sym (returns-clause-nearest c)) (nearest_circles_short _ _ c.requires.this c.requires.other)
