-- Axis by axis. Assumes nothing.
use Rattle.std.proofs.Common.{arith, subst, sym}
use Rattle.std.proofs.lemmas.Int.{to_z-of_z}
use Rattle.measured_definitions.specs.MeasuredCircles.{farthest_circles}
use Rattle.measured_definitions.proofs.Limits.{circle_limits}
use Rattle.measured_bodies.specs.Widths.{ShortCircles}
use Rattle.measured_bodies.proofs.Short.{farthest_circles_short}
use Rattle.measured_bodies.proofs.circles.MeasuredCircleMeasured.farthest.Goals as goal

pub farthest-x-requires-clause-coordinate : goal.farthest-x-requires-clause-coordinate
farthest-x-requires-clause-coordinate c = ((circle_limits _).holds c.requires.this).x

pub farthest-x-requires-clause-coordinate_2 : goal.farthest-x-requires-clause-coordinate_2
farthest-x-requires-clause-coordinate_2 c = ((circle_limits _).holds c.requires.other).x

pub farthest-y-requires-clause-coordinate : goal.farthest-y-requires-clause-coordinate
farthest-y-requires-clause-coordinate c = ((circle_limits _).holds c.requires.this).y

pub farthest-y-requires-clause-coordinate_2 : goal.farthest-y-requires-clause-coordinate_2
farthest-y-requires-clause-coordinate_2 c = ((circle_limits _).holds c.requires.other).y

pub returns-clause-farthest : goal.returns-clause-farthest
unfolding farthest_circles
returns-clause-farthest c = grind (arith, to_z-of_z)

pub returns-clause-short : goal.returns-clause-short
returns-clause-short c =
    subst ShortCircles (sym (returns-clause-farthest c)) (farthest_circles_short _ _ c.requires.this c.requires.other)
