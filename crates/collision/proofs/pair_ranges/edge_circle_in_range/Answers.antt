-- A circle is a radius and a place. Assumes nothing.
use Rattle.floats.specs.Ranges.{point_in_range, coordinate_in_range}
use Rattle.shape_definitions.specs.Circle.{circle_in_range}
use Rattle.collision.proofs.pair_ranges.edge_circle_in_range.Goals as goal

pub returns : goal.returns
unfolding circle_in_range point_in_range coordinate_in_range
returns c = c.edge_and_head_in_range.ensures
