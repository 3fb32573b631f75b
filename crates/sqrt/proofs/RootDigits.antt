-- The digits that the code finds, r nearest to √n behind the exponent k: their pattern is the root's, and the root is
-- exact where r r = n. And what their contract asks, for normal and subnormal numbers. Assumes nothing.
use Rattle.std.proofs.Common.{◌≡◌, ℕ, zero, suc, ◌+◌, ◌-◌, ◌*◌, ◌/◌, ◌%◌, ◌^◌, ◌<◌, ◌≤◌, Bool, true, false, eqb, sym, ap, ◌∙◌, subst, lt_irrefl, mul_assoc, add_comm, mul-pos, div-add-mod', arith, pow_pos, pow-add, ne_eqb}
use lib.Ieee.{Float, binary32, of_bits}
use lib.Ieee.Bits.{is_true}
use lib.Ieee.Fits.{eq→eqb}
use Rattle.rounding.proofs.Patterns.{Units, normal_units, subnormal_units}
use Rattle.sqrt.specs.declared.root.Rooted.TheVariants.{Exact, Rounded}
use Rattle.sqrt.specs.Sqrt.{exact_or_rounded}
use Rattle.sqrt.specs.Root.{NearestRoot, RoundedDigits, DigitsOf}
use Rattle.sqrt.proofs.RootPattern.{rounded_root_pattern, widened, widened_bounds, widened_scaled}
use Rattle.sqrt.proofs.StepCases.{steps_of_units}
use Rattle.sqrt.proofs.ExactStep.{step, step_is, exact_is}

-- ---- the step of √(n * 4^k), by r
module _ (n r k : ℕ) (found : RoundedDigits n r k) where
  root : Float
  root = of_bits binary32 (k * 2 ^ 23 + r)

  by_square : (t : Bool) → eqb (r * r) n ≡ t → step t root root ≡ exact_or_rounded binary32 (n * 4 ^ k)
  unfolding root
  by_square t is =
      let pattern =
      rounded_root_pattern n k found.n_low found.n_high r found.k_low found.k_high found.nearest in
      ap (λ (u : Bool). step u root root) (sym (exact_is n r k found.n_low found.n_high found.nearest ∙ is))
      ∙ step_is (n * 4 ^ k) root pattern

  pub exact_step : r * r ≡ n → Exact (of_bits binary32 (k * 2 ^ 23 + r)) ≡ exact_or_rounded binary32 (n * 4 ^ k)
  unfolding root
  exact_step is = by_square true (is_true (eqb (r * r) n) (eq→eqb is))

  pub rounded_step : (r * r ≡ n → ⊥)
      → Rounded (of_bits binary32 (k * 2 ^ 23 + r)) ≡ exact_or_rounded binary32 (n * 4 ^ k)
  unfolding root
  rounded_step differs = by_square false (ne_eqb (r * r) n differs)

-- ---- the contract, for an f of 24 digits and an exponent g
digits_of : (b u f g r : ℕ) → Units (of_bits binary32 b) u → 0 < u → u * 2 ^ 149 ≡ f * 2 ^ (g + 21)
    → 2 ^ 23 ≤ f → f < 2 ^ 24 → 4 ≤ g → g < 382 → NearestRoot (widened f g) r
    → DigitsOf b (widened f g) r (g / 2 - 1)
digits_of b u f g r units u_pos same f_low f_high g_low g_high r_nearest =
    let bounds = widened_bounds f g f_low f_high in
    record {
      steps =
          steps_of_units (of_bits binary32 b) u units u_pos
          ∙ ap (exact_or_rounded binary32) (same ∙ widened_scaled f g (omega arith));
      found = record {
        n_low = bounds.0;
        n_high = bounds.1;
        k_low = omega arith;
        k_high = omega arith;
        nearest = r_nearest;
      };
    }

-- normal numbers: b is its exponent times 2^23, and its digits
abbrev pub significand : ℕ → ℕ
significand b = b % 2 ^ 23 + 2 ^ 23

abbrev pub scale : ℕ → ℕ
scale b = b / 2 ^ 23 + 127

fields_digits : (e t r : ℕ) → 0 < e → e < 255 → t < 2 ^ 23 → NearestRoot (widened (t + 2 ^ 23) (e + 127)) r
    → DigitsOf (e * 2 ^ 23 + t) (widened (t + 2 ^ 23) (e + 127)) r ((e + 127) / 2 - 1)
fields_digits zero t r e_pos e_small t_small r_nearest = absurd (lt_irrefl 0 e_pos)
fields_digits (suc x) t r e_pos e_small t_small r_nearest =
    let exponents : x + 149 ≡ suc x + 127 + 21 = omega arith in
    let f = 2 ^ 23 + t in
    let f_pos : 0 < f = omega arith in
    digits_of (suc x * 2 ^ 23 + t) (f * 2 ^ x) (t + 2 ^ 23) (suc x + 127) r (normal_units x t e_small t_small)
    (mul-pos f_pos (pow_pos x))
    (mul_assoc f (2 ^ x) (2 ^ 149)
    ∙ ap (λ (w : ℕ). f * w) (sym (pow-add 2 x 149) ∙ ap (λ (w : ℕ). 2 ^ w) exponents)
    ∙ ap (λ (w : ℕ). w * 2 ^ (suc x + 127 + 21)) (add_comm (2 ^ 23) t))
    (omega arith) (omega arith) (omega arith) (omega arith) r_nearest

pub normal_digits_of : (b r : ℕ) → 2 ^ 23 ≤ b → b < 255 * 2 ^ 23 → NearestRoot (widened (significand b) (scale b)) r
    → DigitsOf b (widened (significand b) (scale b)) r (scale b / 2 - 1)
normal_digits_of b r b_low b_high r_nearest =
    subst (λ (c : ℕ). DigitsOf c (widened (significand b) (scale b)) r (scale b / 2 - 1)) (div-add-mod' b (2 ^ 23))
    (fields_digits (b / 2 ^ 23) (b % 2 ^ 23) r (omega arith) (omega arith) (omega arith) r_nearest)

-- subnormal numbers
pub subnormal_digits_of : (b f g r : ℕ) → 0 < b → b < 2 ^ 23 → b * 2 ^ 149 ≡ f * 2 ^ (g + 21) → 2 ^ 23 ≤ f → f < 2 ^ 24
    → 4 ≤ g → g < 382 → NearestRoot (widened f g) r → DigitsOf b (widened f g) r (g / 2 - 1)
subnormal_digits_of b f g r b_pos b_small same = digits_of b b f g r (subnormal_units b b_small) b_pos same
