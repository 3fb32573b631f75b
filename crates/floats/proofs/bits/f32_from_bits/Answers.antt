-- `f32_from_bits` computes its definition: every NaN pattern gives the one NaN. Assumes nothing.
use mathlib.Core.Path.{sym, ◌∙◌, subst}
use mathlib.Core.Bool.{Bool, not}
use lib.Dec.{T}
use Rattle.rounding.proofs.Nan.{nan_pattern, zero_over_zero}
use Rattle.floats.proofs.bits.f32_from_bits.Goals as goal

pub float_from_bits-result : goal.float_from_bits-result
float_from_bits-result c =
    subst (λ (b : Bool). T (not b)) (sym (sym c.is_nan_bits.ensures ∙ c.if-is_nan_bits.false)) tt

pub returns-then-is_nan_bits : goal.returns-then-is_nan_bits
returns-then-is_nan_bits c = zero_over_zero ∙ sym (nan_pattern _ (sym c.is_nan_bits.ensures ∙ c.if-is_nan_bits.true))
