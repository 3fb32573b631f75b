-- `rotation_in_range` computes its definition, sine and cosine. Assumes nothing.
use Rattle.floats.specs.Ranges.{rotation_in_range}
use Rattle.floats.proofs.ranges.rotation_in_range.Goals as goal

pub returns : goal.returns
unfolding rotation_in_range
returns c = simp (c.within-s.ensures, c.within-c.ensures)
