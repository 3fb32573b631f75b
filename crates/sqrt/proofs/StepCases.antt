-- Which step `root_by_steps binary32` takes: what is above zero the exact or the rounding step, of the operand's units;
-- a pattern with the sign, or from infinity's on, is of a special operand. Assumes nothing.
use Rattle.std.proofs.Common.{◌≡◌, ℕ, zero, suc, ◌+◌, ◌*◌, ◌/◌, ◌%◌, ◌^◌, ◌<◌, ◌≤◌, Bool, true, false, cond, not, T, eqb, leb, ℤ, sym, refl, ap, ◌∙◌, subst, true≢false, le_antisymm, mul-pos, lt_of_not-le, zero-mul, mul-div_cancel, arith, le→leb}
use native.Mathlib.Decide.{dec_le}
use lib.Ieee.{Float, nan, inf, fin, binary32, up, down, odd, fits, is_nan, of_fields, of_bits, to_bits}
use lib.Ieee.Fits.{down_pos}
use lib.Ieee.Exact.{HasValue, odd_sign}
use lib.Ieee.Bits.{of_bits-to_bits, is_true}
use Rattle.rounding.proofs.Nan.{pattern_le_infinity}
use Rattle.rounding.proofs.Patterns.{Units, fields_of_pattern}
use Rattle.sqrt.specs.declared.root.Rooted.{Rooted}
use Rattle.sqrt.specs.Sqrt.{special, radicand, exact_or_rounded, root_by_steps}

-- a significand of 0 has no units
zero_has_none : (e : ℤ) (n : ℕ) → 0 * up e * 2 ^ 149 ≡ n * down e → 0 < n → ⊥
zero_has_none e n h n_pos =
    none (0 * up e * 2 ^ 149) (n * down e)
    (ap (λ (x : ℕ). x * 2 ^ 149) (zero-mul (up e)) ∙ zero-mul (2 ^ 149)) h (mul-pos n_pos (down_pos e))
  where
    none : (a b : ℕ) → a ≡ 0 → a ≡ b → 0 < b → ⊥
    none a b p q r = omega arith

-- ---- above zero, of n units
radicand_of_units : (x : Float) (n : ℕ) → Units x n → radicand binary32 x ≡ n * 2 ^ 149
radicand_of_units nan n h = absurd h
radicand_of_units (inf s) n h = absurd h
radicand_of_units (fin s m e) n h =
    ap (λ (x : ℕ). x * 2 ^ 149) (ap (λ (x : ℕ). x / down e) h.1 ∙ mul-div_cancel n (down_pos e))

steps_of_radicand : (x : Float) (n : ℕ) → Units x n → 0 < n
    → root_by_steps binary32 x ≡ exact_or_rounded binary32 (radicand binary32 x)
unfolding root_by_steps
steps_of_radicand nan n h n_pos = absurd h
steps_of_radicand (inf s) n h n_pos = absurd h
steps_of_radicand (fin true m e) n h n_pos = absurd (true≢false h.0)
steps_of_radicand (fin false zero e) n h n_pos = absurd (zero_has_none e n h.1 n_pos)
steps_of_radicand (fin false (suc m) e) n h n_pos = refl

pub steps_of_units : (x : Float) (n : ℕ) → Units x n → 0 < n
    → root_by_steps binary32 x ≡ exact_or_rounded binary32 (n * 2 ^ 149)
steps_of_units x n h n_pos =
    steps_of_radicand x n h n_pos ∙ ap (exact_or_rounded binary32) (radicand_of_units x n h)

-- ---- patterns with the sign, and from infinity's on: special
special_of_minus : (x : Float) (n : ℕ) → HasValue x true n (2 ^ 149) → special x ≡ true
special_of_minus nan n h = refl
special_of_minus (inf s) n h = refl
special_of_minus (fin s zero e) n h = refl
special_of_minus (fin true (suc m) e) n h = refl
special_of_minus (fin false (suc m) e) n h = absurd (true≢false (sym h.0))

special_of_top_exponent : (c d : Bool) (x : Float) → special x ≡ true
    → special (cond c (cond d (inf true) nan) x) ≡ true
special_of_top_exponent true true x h = refl
special_of_top_exponent true false x h = refl
special_of_top_exponent false d x h = h

special_of_minus_fields : (x t : ℕ) → special (of_fields binary32 true x t) ≡ true
unfolding of_fields
special_of_minus_fields zero t = special_of_minus (odd 24 true t 0 149) (t * 1) (odd_sign 24 true t 0 149)
special_of_minus_fields (suc x) t =
    let f = 2 ^ 23 + t in
    special_of_top_exponent (eqb (suc x) 255) (eqb t 0) (odd 24 true f x 149)
    (special_of_minus (odd 24 true f x 149) (f * 2 ^ x) (odd_sign 24 true f x 149))

special_of_sign : (b : ℕ) → 2 ^ 31 ≤ b → special (of_bits binary32 b) ≡ true
special_of_sign b b_low =
    ap special
    (fields_of_pattern b
    ∙ ap (λ (s : Bool). of_fields binary32 s (b % 2 ^ 31 / 2 ^ 23) (b % 2 ^ 23))
    (is_true (leb (2 ^ 31) b) (le→leb (2 ^ 31) b b_low)))
    ∙ special_of_minus_fields (b % 2 ^ 31 / 2 ^ 23) (b % 2 ^ 23)

special_from_infinity : (b : ℕ) → T (not (is_nan (of_bits binary32 b))) → 255 * 2 ^ 23 ≤ b
    → special (of_bits binary32 b) ≡ true
unfolding of_bits
special_from_infinity b not_nan low = elim (dec_le (2 ^ 31) b) [
  | yes high ↦ special_of_sign b high
  | no less ↦
      subst (λ (c : ℕ). special (of_bits binary32 c) ≡ true)
      (le_antisymm low (pattern_le_infinity b (lt_of_not-le less) not_nan)) refl
]

-- ---- from patterns to values
pub special_by_pattern : (x : Float) → T (fits binary32 x) → T (not (is_nan x)) → 255 * 2 ^ 23 ≤ to_bits binary32 x
    → special x ≡ true
special_by_pattern x x_Fits not_nan low =
    let back = of_bits-to_bits binary32 x x_Fits in
    subst (λ (y : Float). special y ≡ true) back
    (special_from_infinity (to_bits binary32 x) (subst (λ (y : Float). T (not (is_nan y))) (sym back) not_nan) low)

pub steps_by_pattern : (x : Float) (s : Rooted) → T (fits binary32 x)
    → s ≡ root_by_steps binary32 (of_bits binary32 (to_bits binary32 x)) → s ≡ root_by_steps binary32 x
steps_by_pattern x s x_Fits h = h ∙ ap (root_by_steps binary32) (of_bits-to_bits binary32 x x_Fits)
