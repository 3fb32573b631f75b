-- `b2_normalize` computes its definition: the vector as it was where its length is below 2^-23, else times the
-- reciprocal. Assumes nothing.
use mathlib.Core.Path.{sym}
use Rattle.floats.specs.B2Math.{b2_normalize}
use Rattle.floats.proofs.b2_math.b2_normalize.Goals as goal

pub returns-then-length : goal.returns-then-length
unfolding b2_normalize
returns-then-length c = simp (sym c.b2_length-length.ensures, c.if-length.true)

pub returns : goal.returns
unfolding b2_normalize
returns c = simp (sym c.b2_length-length.ensures, c.if-length.false)
