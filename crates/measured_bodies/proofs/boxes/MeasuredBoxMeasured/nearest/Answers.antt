-- Axis by axis. Assumes nothing.
use Rattle.std.proofs.Common.{arith, subst, sym}
use Rattle.std.proofs.lemmas.Int.{to_z-of_z}
use Rattle.measured_definitions.specs.MeasuredBoxes.{nearest_boxes}
use Rattle.measured_bodies.specs.Widths.{ShortBoxes}
use Rattle.measured_bodies.proofs.Short.{nearest_boxes_short}
use Rattle.measured_bodies.proofs.boxes.MeasuredBoxMeasured.nearest.Goals as goal

pub returns-clause-nearest : goal.returns-clause-nearest
unfolding nearest_boxes
returns-clause-nearest c = grind (arith, to_z-of_z)

pub returns-clause-short : goal.returns-clause-short
returns-clause-short c =
    subst ShortBoxes (sym (returns-clause-nearest c)) (nearest_boxes_short _ _ c.requires.this c.requires.other)
