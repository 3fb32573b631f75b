-- A vector times the factor of `unit_scale` is what normalising leaves: where the length is below 2^-23 the factor is
-- 1, and times 1 is nothing; the factor from the length's square; and another vector in place of a short one. Assumes
-- nothing.
use mathlib.Core.Path.{◌≡◌, refl, sym, ap, ap₂, ◌∙◌, subst}
use mathlib.Core.Bool.{Bool, true, false, cond}
use lib.Dec.{T}
use lib.Ieee.{Float, binary32, fits, mul, div, lt, le}
use Rattle.floats.specs.declared.b2_math.B2vec2.{B2vec2}
use Rattle.floats.specs.declared.b2_math.Normalized.{Normalized}
use Rattle.rounding.specs.Literals.{zero32, one32}
use Rattle.algebra.proofs.Booleans.{bool_iff, by_test, cond_yes}
use Rattle.rounding.proofs.TimesOne.{times_one}
use Rattle.rounding.proofs.Comparison.{le_not_lt}
use Rattle.floats.specs.B2Common.{b2_epsilon}
use Rattle.floats.specs.B2Math.{vec2, b2_length_squared, b2_length, times_reciprocal, b2_normalize}
use Rattle.floats.specs.B2Math.{unit_or_same, unit_or}
use Rattle.floats.specs.Unit.{inverse_root, unit_scale}

pub scale_by_square : (a : B2vec2) → inverse_root (b2_length_squared a) ≡ unit_scale a
unfolding inverse_root unit_scale b2_length
scale_by_square a = refl

module _ (a : B2vec2) (x_Fits : T (fits binary32 a.x)) (y_fits : T (fits binary32 a.y)) where
  as_left : (short had : Bool) (length : Float)
      → vec2 (mul binary32 a.x (cond short one32 (div binary32 one32 length)))
      (mul binary32 a.y (cond short one32 (div binary32 one32 length)))
      ≡ (cond {A = Normalized} short (record { had_length = had; length = zero32; v = a })
      (record { had_length = had; length = length; v = times_reciprocal a length })).v
  as_left true had length = ap₂ vec2 (times_one a.x x_Fits) (times_one a.y y_fits)
  as_left false had length = refl

  pub scaled_is : (k : Float) → k ≡ unit_scale a
      → vec2 (mul binary32 a.x k) (mul binary32 a.y k) ≡ unit_or_same (b2_normalize a)
  unfolding unit_scale b2_normalize
  scaled_is k k_is =
      ap (λ (f : Float). vec2 (mul binary32 a.x f) (mul binary32 a.y f)) k_is
      ∙ as_left (lt (b2_length a) b2_epsilon) (le b2_epsilon (b2_length a)) (b2_length a)

-- ---- whether there was a length, and what is made of it
pub had_length_is : (a : B2vec2) → (b2_normalize a).had_length ≡ le b2_epsilon (b2_length a)
unfolding b2_normalize
had_length_is a = by_test (lt (b2_length a) b2_epsilon) (λ short. simp short) (λ long. simp long)

pub unit_is : (a : B2vec2) → T (le b2_epsilon (b2_length a))
    → unit_or_same (b2_normalize a) ≡ times_reciprocal a (b2_length a)
unfolding b2_normalize
unit_is a had =
    simp (bool_iff (lt (b2_length a) b2_epsilon) false (le_not_lt b2_epsilon (b2_length a) had) (λ t. absurd t))

pub same_is : (a : B2vec2) → lt (b2_length a) b2_epsilon ≡ true → unit_or_same (b2_normalize a) ≡ a
unfolding b2_normalize
same_is a short = simp short

-- ---- or another vector where there was none
module _ (a other : B2vec2) (length : Float) (length_is : length ≡ b2_length a) where
  pub with_length : le b2_epsilon length ≡ true → times_reciprocal a length ≡ unit_or other (b2_normalize a)
  with_length had =
      let had_length : T (le b2_epsilon (b2_length a)) = subst T (sym had ∙ ap (le b2_epsilon) length_is) tt in
      ap (times_reciprocal a) length_is ∙ sym (unit_is a had_length)
      ∙ sym (cond_yes (b2_normalize a).had_length (unit_or_same (b2_normalize a)) other
      (subst T (sym (had_length_is a)) had_length))

  pub without_length : le b2_epsilon length ≡ false → other ≡ unit_or other (b2_normalize a)
  without_length none = simp (had_length_is a ∙ ap (le b2_epsilon) (sym length_is) ∙ none)
