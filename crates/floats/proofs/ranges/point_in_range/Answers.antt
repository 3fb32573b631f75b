-- `point_in_range` computes its definition. Assumes nothing.
use Rattle.floats.specs.Ranges.{point_in_range}
use Rattle.floats.proofs.ranges.point_in_range.Goals as goal

pub returns : goal.returns
unfolding point_in_range
returns c = c.vec2_within.ensures
