-- `transform_in_range` computes its definition, position and rotation. Assumes nothing.
use Rattle.floats.specs.Ranges.{transform_in_range}
use Rattle.floats.proofs.ranges.transform_in_range.Goals as goal

pub returns : goal.returns
unfolding transform_in_range
returns c = simp (c.point_in_range-p.ensures, c.rotation_in_range-q.ensures)
