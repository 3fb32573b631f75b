-- Radius and centre. Assumes nothing.
use Rattle.shape_definitions.specs.Circle.{circle_in_range}
use Rattle.shape_ranges.proofs.circle_range.circle_in_range.Goals as goal

pub returns : goal.returns
unfolding circle_in_range
returns c = simp (c.point_in_range-centre.ensures, c.radius_in_range-radius.ensures)
