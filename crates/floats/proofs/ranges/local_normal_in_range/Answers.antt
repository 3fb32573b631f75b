-- `local_normal_in_range` computes its definition. Assumes nothing.
use Rattle.floats.specs.Ranges.{local_normal_in_range}
use Rattle.floats.proofs.ranges.local_normal_in_range.Goals as goal

pub returns : goal.returns
unfolding local_normal_in_range
returns c = c.vec2_within.ensures
