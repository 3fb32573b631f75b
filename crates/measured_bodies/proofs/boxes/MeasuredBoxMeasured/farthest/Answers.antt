-- Axis by axis. Assumes nothing.
use Rattle.std.proofs.Common.{arith, subst, sym}
use Rattle.std.proofs.lemmas.Int.{to_z-of_z}
use Rattle.measured_definitions.specs.MeasuredBoxes.{farthest_boxes}
use Rattle.measured_definitions.proofs.Limits.{box_limits}
use Rattle.measured_bodies.specs.Widths.{ShortBoxes}
use Rattle.measured_bodies.proofs.Short.{farthest_boxes_short}
use Rattle.measured_bodies.proofs.boxes.MeasuredBoxMeasured.farthest.Goals as goal

pub farthest-x-requires-clause-coordinate : goal.farthest-x-requires-clause-coordinate
farthest-x-requires-clause-coordinate c = ((box_limits _).holds c.requires.this).x

pub farthest-x-requires-clause-coordinate_2 : goal.farthest-x-requires-clause-coordinate_2
farthest-x-requires-clause-coordinate_2 c = ((box_limits _).holds c.requires.other).x

pub farthest-y-requires-clause-coordinate : goal.farthest-y-requires-clause-coordinate
farthest-y-requires-clause-coordinate c = ((box_limits _).holds c.requires.this).y

pub farthest-y-requires-clause-coordinate_2 : goal.farthest-y-requires-clause-coordinate_2
farthest-y-requires-clause-coordinate_2 c = ((box_limits _).holds c.requires.other).y

pub returns-clause-farthest : goal.returns-clause-farthest
unfolding farthest_boxes
returns-clause-farthest c = grind (arith, to_z-of_z)

pub returns-clause-short : goal.returns-clause-short
returns-clause-short c =
    subst ShortBoxes (sym (returns-clause-farthest c)) (farthest_boxes_short _ _ c.requires.this c.requires.other)
