-- `coordinate_in_range` computes its definition. Assumes nothing.
use Rattle.floats.specs.Ranges.{coordinate_in_range}
use Rattle.floats.proofs.ranges.coordinate_in_range.Goals as goal

pub returns : goal.returns
unfolding coordinate_in_range
returns c = c.within.ensures
