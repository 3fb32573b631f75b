-- The count, and that many points and two more. Assumes nothing.
use Rattle.record_definitions.specs.Frame.{chain_at}
use Rattle.frames.proofs.chain_frame.chain_read.Goals as goal

pub returns : goal.returns
unfolding chain_at
returns c = simp (c.points-points.ensures.2, c.byte-count.ensures)
