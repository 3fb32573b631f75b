-- `normal_in_range` computes its definition. Assumes nothing.
use Rattle.floats.specs.Ranges.{normal_in_range}
use Rattle.floats.proofs.ranges.normal_in_range.Goals as goal

pub returns : goal.returns
unfolding normal_in_range
returns c = c.vec2_within.ensures
