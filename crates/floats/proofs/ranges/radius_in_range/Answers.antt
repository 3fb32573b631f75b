-- `radius_in_range` computes its definition. Assumes nothing.
use mathlib.Core.Path.{refl}
use Rattle.floats.specs.Ranges.{radius_in_range}
use Rattle.floats.proofs.ranges.radius_in_range.Goals as goal

pub returns : goal.returns
unfolding radius_in_range
returns c = refl
