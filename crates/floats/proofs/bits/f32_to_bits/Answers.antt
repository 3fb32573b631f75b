-- `f32_to_bits` computes its definition: 7fc00000 for the NaN. Assumes nothing.
use lib.Ieee.{to_bits}
use Rattle.rounding.proofs.Nan.{nan_of_differs, not_nan_of_same}
use Rattle.floats.proofs.bits.f32_to_bits.Goals as goal

pub float_to_bits-result : goal.float_to_bits-result
float_to_bits-result c = not_nan_of_same _ c.if-x.false

pub returns-then-x : goal.returns-then-x
unfolding to_bits
returns-then-x c = rw (nan_of_differs _ c.if-x.true)
