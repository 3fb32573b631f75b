-- The 24 digits of a binary32 number: its size is q 2^j units with q below 2^24, and below 2^128 m. Assumes nothing.
use mathlib.Core.Path.{◌≡◌, sym, ap, ◌∙◌}
use Prim.Native.Nat.{ℕ, zero, suc, ◌+◌, ◌-◌, ◌*◌, ◌%◌, ◌^◌, ◌≤◌, ◌<◌}
use native.Mathlib.Nat.{le_trans, le_of_eq, lt_of_le_of_lt, lt_of_lt_of_le, mul-one, mul_assoc, mul-le-mul_left}
use native.Mathlib.Nat.{mul-lt-mul_of_pos_right, eq_of_mul-eq-mul_right}
use native.Mathlib.Omega.{arith}
use mathlib.Core.Bool.{Bool, ◌&&◌}
use lib.IntN.{ℤ, pos, negsuc}
use lib.Dec.{leb, ltb, eqb, leb→le, ltb→lt, lit<, lit≤}
use lib.Pow.{pow-add, pow_pos, pow_mono}
use lib.Ieee.{Float, binary32, nan, inf, fin, up, down, fits}
use lib.Ieee.Fits.{and_l, and_r}
use lib.Ieee.Scale.{overflow}
use Rattle.rounding.specs.Value.{metre, F32, mag}
use Rattle.rounding.proofs.Value.{metre_is, metre_split, has_value, mag_zero, exponent_le}

pub record Digits (x : Float) : Type 0 where
  pub q : ℕ
  pub j : ℕ
  pub small : q < 2 ^ 24
  pub high : q * 2 ^ j < overflow binary32
  pub is : mag x ≡ q * 2 ^ j

-- m 2^e, of at most 24 digits and at least 2^-149 in its last one
digits_of_fin : (s : Bool) (m : ℕ) (e : ℤ) → F32 (fin s m e) → m < 2 ^ 24 → down e ≤ 2 ^ 149
    → m * up e < 2 ^ 128 * down e
    → Digits (fin s m e)
digits_of_fin s m (pos k) own small fine low =
    let below : m * 2 ^ k < 2 ^ 128 = lt_of_lt_of_le low (le_of_eq (mul-one (2 ^ 128))) in
    let move : m * 2 ^ k * 2 ^ 149 ≡ m * 2 ^ (k + 149) =
    mul_assoc m (2 ^ k) (2 ^ 149) ∙ ap (λ (x : ℕ). m * x) (sym (pow-add 2 k 149)) in
    record {
      q = m;
      j = k + 149;
      small = small;
      high = lt_of_le_of_lt (le_of_eq (sym move)) (mul-lt-mul_of_pos_right below (pow_pos 149));
      is = sym (mul-one (mag (fin s m (pos k)))) ∙ sym (has_value own).1 ∙ ap (λ (x : ℕ). m * 2 ^ k * x) metre_is
          ∙ move;
    }
digits_of_fin s m (negsuc k) own small fine low =
    let j = 149 - suc k in
    let split : metre ≡ 2 ^ j * 2 ^ suc k = metre_split (suc k) (exponent_le (suc k) 149 fine) in
    record {
      q = m;
      j = j;
      small = small;
      high = lt_of_lt_of_le (mul-lt-mul_of_pos_right small (pow_pos j))
          (le_trans (mul-le-mul_left (2 ^ 24) (pow_mono {i = j} {j = 149} (sub_le 149 (suc k)))) (lit≤ tt));
      is = eq_of_mul-eq-mul_right (2 ^ suc k) (pow_pos (suc k)) (mag (fin s m (negsuc k))) (m * 2 ^ j)
          (sym (has_value own).1 ∙ ap (λ (x : ℕ). x * metre) (mul-one m) ∙ ap (λ (x : ℕ). m * x) split
          ∙ sym (mul_assoc m (2 ^ j) (2 ^ suc k)));
    }
  where
    sub_le : (a l : ℕ) → a - l ≤ a
    sub_le a l = omega arith

pub digits : {x : Float} → F32 x → Digits x
unfolding fits
digits {x = nan} h = absurd h.is_finite
digits {x = inf s} h = absurd h.is_finite
digits {x = fin s zero e} h = record { q = 0; j = 0; small = lit< tt; high = lit< tt; is = mag_zero s e }
digits {x = fin s (suc m) e} h =
    let odd : Bool = eqb (suc m % 2) 1 in
    let short : Bool = ltb (suc m) (2 ^ 24) in
    let fine : Bool = leb (down e) (2 ^ 149) in
    let low : Bool = ltb (suc m * up e) (2 ^ 128 * down e) in
    let first = and_l (odd && short && fine) low h.in_format in
    digits_of_fin s (suc m) e h (ltb→lt (suc m) (2 ^ 24) (and_r odd short (and_l (odd && short) fine first)))
    (leb→le (down e) (2 ^ 149) (and_r (odd && short) fine first))
    (ltb→lt (suc m * up e) (2 ^ 128 * down e) (and_r (odd && short && fine) low h.in_format))

-- below 2^128 m
pub mag_high : {x : Float} → F32 x → mag x < overflow binary32
mag_high h = let d = digits h in rw d.is d.high
