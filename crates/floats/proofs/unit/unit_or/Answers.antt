-- Both coordinates times the reciprocal where there is a length of at least 2^-23, else the other vector.
-- Assumes nothing.
use Rattle.floats.proofs.Scale.{with_length, without_length}
use Rattle.floats.proofs.unit.unit_or.Goals as goal

pub returns-then-length : goal.returns-then-length
returns-then-length c = with_length _ _ _ c.b2_length-length.ensures c.if-length.true

pub returns : goal.returns
returns c = without_length _ _ _ c.b2_length-length.ensures c.if-length.false
