-- `contact_number_in_range` computes its definition. Assumes nothing.
use Rattle.floats.specs.Ranges.{contact_number_in_range}
use Rattle.floats.proofs.ranges.contact_number_in_range.Goals as goal

pub returns : goal.returns
unfolding contact_number_in_range
returns c = c.within.ensures
