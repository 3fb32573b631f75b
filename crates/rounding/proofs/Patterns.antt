-- The values of bit patterns: of positive numbers, normal and subnormal, and of r digits at the scale k. Two values
-- that fit the format, of the same size and not negative, are one. Assumes nothing.
use mathlib.Core.Path.{◌≡◌, refl, sym, ap, ◌∙◌, subst}
use mathlib.Core.Logic.{inl, inr}
use mathlib.Core.Bool.{Bool, true, false, cond, true≢false}
use Prim.Native.Nat.{ℕ, suc, ◌+◌, ◌-◌, ◌*◌, ◌/◌, ◌%◌, ◌^◌, ◌≤◌, ◌<◌}
use native.Mathlib.Nat.{not-le_of_lt, mul-div_cancel, mul-one, eq-or-lt_of_le, pow-succ'}
use native.Mathlib.Omega.{arith}
use lib.IntN.{ℤ}
use lib.Dec.{T, leb, eqb, leb→le, eqb→eq, lit<, not_T}
use lib.Ieee.{Float, nan, inf, fin, binary32, up, down, size, odd, fits, of_fields, of_bits, to_bits}
use lib.Ieee.Fits.{down_pos}
use lib.Ieee.Exact.{HasValue, odd_sign}
use lib.Ieee.Bits.{of_bits-to_bits, is_false, cond_no}

-- x is g of the smallest units, and not negative
abbrev pub Units : Float → ℕ → Type 0
Units x g = HasValue x false g (2 ^ 149)

-- ---- one value for each size
pattern_of_units : ℕ → ℕ
pattern_of_units g = 0 + (size g - 24) * 2 ^ 23 + g / 2 ^ (size g - 24)

to_bits_of_fin : (m : ℕ) (e : ℤ) (g : ℕ) → m * up e * 2 ^ 149 ≡ g * down e
    → to_bits binary32 (fin false m e) ≡ pattern_of_units g
unfolding to_bits pattern_of_units
to_bits_of_fin m e g h =
    ap (λ (n : ℕ). 0 + (size n - 24) * 2 ^ 23 + n / 2 ^ (size n - 24))
    (ap (λ (x : ℕ). x / down e) h ∙ mul-div_cancel g (down_pos e))

to_bits_of_units : (x : Float) (g : ℕ) → Units x g → to_bits binary32 x ≡ pattern_of_units g
to_bits_of_units nan g h = absurd h
to_bits_of_units (inf s) g h = absurd h
to_bits_of_units (fin true m e) g h = absurd (true≢false h.0)
to_bits_of_units (fin false m e) g h = to_bits_of_fin m e g h.1

pub same_units_equal : (x y : Float) (g : ℕ) → T (fits binary32 x) → T (fits binary32 y) → Units x g → Units y g → x ≡ y
same_units_equal x y g x_Fits y_fits x_units y_units =
    sym (of_bits-to_bits binary32 x x_Fits)
    ∙ ap (of_bits binary32) (to_bits_of_units x g x_units ∙ sym (to_bits_of_units y g y_units))
    ∙ of_bits-to_bits binary32 y y_fits

-- ---- the fields of a pattern without the sign
pub fields_of_pattern : (b : ℕ) → of_bits binary32 b ≡ of_fields binary32 (leb (2 ^ 31) b) (b % 2 ^ 31 / 2 ^ 23)
    (b % 2 ^ 23)
unfolding of_bits
fields_of_pattern b = refl

no_sign : (b : ℕ) → b < 2 ^ 31 → leb (2 ^ 31) b ≡ false
no_sign b h =
    is_false (leb (2 ^ 31) b)
    (not_T (leb (2 ^ 31) b) (λ (t : T (leb (2 ^ 31) b)). not-le_of_lt h (leb→le (2 ^ 31) b t)))

module _ (x t : ℕ) (x_small : x < 255) (t_small : t < 2 ^ 23) where
  exponent_field : (x * 2 ^ 23 + t) % 2 ^ 31 / 2 ^ 23 ≡ x
  exponent_field = omega arith

  digits_field : (x * 2 ^ 23 + t) % 2 ^ 23 ≡ t
  digits_field = omega arith

  below_sign : x * 2 ^ 23 + t < 2 ^ 31
  below_sign = omega arith

  pattern_of_fields : of_bits binary32 (x * 2 ^ 23 + t) ≡ of_fields binary32 false x t
  pattern_of_fields =
      let b = x * 2 ^ 23 + t in
      fields_of_pattern b
      ∙ ap (λ (s : Bool). of_fields binary32 s (b % 2 ^ 31 / 2 ^ 23) (b % 2 ^ 23)) (no_sign b below_sign)
      ∙ ap (λ (y : ℕ). of_fields binary32 false y (b % 2 ^ 23)) exponent_field
      ∙ ap (λ (y : ℕ). of_fields binary32 false x y) digits_field

normal_fields : (x t : ℕ) → suc x < 255 → of_fields binary32 false (suc x) t ≡ odd 24 false (2 ^ 23 + t) x 149
unfolding of_fields
normal_fields x t h =
    cond_no (eqb (suc x) 255) (cond (eqb t 0) (inf false) nan) (odd 24 false (2 ^ 23 + t) x 149)
    (not_T (eqb (suc x) 255) (λ (e : T (eqb (suc x) 255)). differ x h (eqb→eq (suc x) 255 e)))
  where
    differ : (x : ℕ) → suc x < 255 → suc x ≡ 255 → ⊥
    differ x h e = omega arith

subnormal_fields : (t : ℕ) → of_fields binary32 false 0 t ≡ odd 24 false t 0 149
unfolding of_fields
subnormal_fields t = refl

-- ---- the values
pub normal_units : (x t : ℕ) → suc x < 255 → t < 2 ^ 23 → Units (of_bits binary32 (suc x * 2 ^ 23 + t))
    ((2 ^ 23 + t) * 2 ^ x)
normal_units x t x_small t_small =
    subst (λ (z : Float). Units z ((2 ^ 23 + t) * 2 ^ x))
    (sym (pattern_of_fields (suc x) t x_small t_small ∙ normal_fields x t x_small))
    (odd_sign 24 false (2 ^ 23 + t) x 149)

pub subnormal_units : (t : ℕ) → t < 2 ^ 23 → Units (of_bits binary32 t) t
subnormal_units t t_small =
    subst (λ (z : Float). Units z t)
    (sym (ap (of_bits binary32) (as_fields t) ∙ pattern_of_fields 0 t (lit< tt) t_small ∙ subnormal_fields t))
    (subst (λ (g : ℕ). Units (odd 24 false t 0 149) g) (mul-one t) (odd_sign 24 false t 0 149))
  where
    as_fields : (t : ℕ) → t ≡ 0 * 2 ^ 23 + t
    as_fields t = omega arith

-- r has 24 digits, or is 2^24, which carries into the exponent
module _ (k r : ℕ) (k_small : k < 252) (r_low : 2 ^ 23 ≤ r) where
  carried_units : r ≡ 2 ^ 24 → Units (of_bits binary32 (k * 2 ^ 23 + r)) (r * 2 ^ k)
  carried_units e =
      let same_pattern : suc (suc k) * 2 ^ 23 + 0 ≡ k * 2 ^ 23 + r = omega arith in
      let in_r : r * 2 ^ k ≡ 2 ^ 24 * 2 ^ k = ap (λ (n : ℕ). n * 2 ^ k) e in
      let same_units : (2 ^ 23 + 0) * 2 ^ suc k ≡ r * 2 ^ k =
      ap (λ (n : ℕ). 2 ^ 23 * n) (pow-succ' 2 k) ∙ (omega arith) in
      subst (λ (b : ℕ). Units (of_bits binary32 b) (r * 2 ^ k)) same_pattern
      (subst (λ (g : ℕ). Units (of_bits binary32 (suc (suc k) * 2 ^ 23 + 0)) g) same_units
      (normal_units (suc k) 0 (omega arith) (lit< tt)))

  kept_units : r < 2 ^ 24 → Units (of_bits binary32 (k * 2 ^ 23 + r)) (r * 2 ^ k)
  kept_units h =
      let t = r - 2 ^ 23 in
      let same_pattern : suc k * 2 ^ 23 + t ≡ k * 2 ^ 23 + r = omega arith in
      let same_digits : 2 ^ 23 + t ≡ r = omega arith in
      subst (λ (b : ℕ). Units (of_bits binary32 b) (r * 2 ^ k)) same_pattern
      (subst (λ (n : ℕ). Units (of_bits binary32 (suc k * 2 ^ 23 + t)) (n * 2 ^ k)) same_digits
      (normal_units k t (omega arith) (omega arith)))

  pub digits_units : r ≤ 2 ^ 24 → Units (of_bits binary32 (k * 2 ^ 23 + r)) (r * 2 ^ k)
  digits_units r_high = elim (eq-or-lt_of_le r_high) [ inl e ↦ carried_units e | inr h ↦ kept_units h ]
