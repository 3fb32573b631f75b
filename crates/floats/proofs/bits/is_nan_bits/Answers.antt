-- `is_nan_bits` computes its definition, by the exponent and then the digits. Assumes nothing.
use lib.Ieee.{nan_bits}
use borrow.Author.Tests.{eq-eqb, ne_eqb}
use Rattle.floats.proofs.bits.is_nan_bits.Goals as goal

pub returns-then-n-eq255 : goal.returns-then-n-eq255
unfolding nan_bits
returns-then-n-eq255 c = simp (eq-eqb _ _ c.if-n-eq255.true)

pub returns-else-n-eq255 : goal.returns-else-n-eq255
unfolding nan_bits
returns-else-n-eq255 c = simp (ne_eqb _ _ c.if-n-eq255.false)
