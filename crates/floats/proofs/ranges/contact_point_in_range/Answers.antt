-- `contact_point_in_range` computes its definition. Assumes nothing.
use Rattle.floats.specs.Ranges.{contact_point_in_range}
use Rattle.floats.proofs.ranges.contact_point_in_range.Goals as goal

pub returns : goal.returns
unfolding contact_point_in_range
returns c = c.vec2_within.ensures
