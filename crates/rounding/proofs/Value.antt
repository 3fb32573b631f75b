-- The value of a finite binary32 number as a whole number of units of 2^-149 m: the units, |val x| = mag x and how
-- sizes follow values, negation and the zeros. `HasValue x s g metre`, of lib.Ieee, says that x is finite, has the
-- sign s and is g units in size; `F32` gives it and is given back by it. Assumes nothing.
use mathlib.Core.Path.{◌≡◌, refl, sym, ap, ◌∙◌}
use Prim.Native.Nat.{ℕ, zero, suc, ◌+◌, ◌-◌, ◌*◌, ◌/◌, ◌%◌, ◌^◌, ◌≤◌, ◌<◌}
use native.Mathlib.Nat.{le_refl, le_antisymm, mul_assoc, mul-one, mul-div_cancel, not-le_of_lt, zero-mul, zero-div}
use native.Mathlib.Nat.{pow-succ'}
use native.Mathlib.Omega.{arith}
use mathlib.Core.Bool.{Bool, true, false, not, ◌&&◌}
use lib.IntN.{ℤ, pos, negsuc}
use lib.Dec.{T, leb, ltb, eqb, leb→le, nleb→lt, eqb→eq, lit<}
use lib.Pow.{pow-add, pow_pos, pow-lt}
use lib.Ieee.{Float, nan, inf, fin, binary32, up, down, neg, fits}
use lib.Ieee.Digits.{back}
use lib.Ieee.Fits.{down_pos, and_l, and_r, neg-fits}
use lib.Ieee.Exact.{HasValue}
use Rattle.algebra.specs.Integer.{Z, whole, signed, opp, ◌≐◌, ◌≼◌, ◌≺◌, Abs}
use Rattle.algebra.proofs.Integer as Integer
use Rattle.algebra.proofs.Magnitude.{abs_same, abs_signed, signed_abs}
use Rattle.rounding.specs.Value.{metre, tick, F32, sign, mag, val}

-- ---- the units
pub metre_is : metre ≡ 2 ^ 149
unfolding metre
metre_is = refl

pub metre_pos : 0 < metre
unfolding metre
metre_pos = lit< tt

pub metre_ticks : metre ≡ 2 ^ 25 * tick
unfolding metre tick
metre_ticks = refl

pub metre_square : metre * metre ≡ 2 ^ 25 * tick * metre
metre_square = ap (λ (n : ℕ). n * metre) metre_ticks

pub tick_pos : 0 < tick
tick_pos = go metre_pos metre_ticks
  where
    go : {m t : ℕ} → 0 < m → m ≡ 2 ^ 25 * t → 0 < t
    go h e = omega arith

-- as products of powers of two
pub metre_split : (t : ℕ) → t ≤ 149 → metre ≡ 2 ^ (149 - t) * 2 ^ t
metre_split t h = metre_is ∙ ap (λ (n : ℕ). 2 ^ n) (sym (back 149 t h)) ∙ pow-add 2 (149 - t) t

pub metre_power : (k : ℕ) → 2 ^ (k + 149) ≡ 2 ^ k * metre
metre_power k = pow-add 2 k 149 ∙ ap (λ (m : ℕ). 2 ^ k * m) (sym metre_is)

-- ---- sign and size
pub val_signed : (x : Float) → val x ≡ signed (sign x) (mag x)
unfolding val
val_signed x = refl

pub abs_mag : (x : Float) → Abs (val x) (mag x)
abs_mag x = rw val_signed (abs_signed (sign x) (mag x) (mag x) (le_refl (mag x)))

pub mag_abs : (x : Float) (n : ℕ) → Abs (val x) n → mag x ≤ n
mag_abs x n h = signed_abs (sign x) (mag x) n (rw val_signed at h)

-- a value above 0 has the sign + and a size above 0
pub record Positive (x : Float) : Type 0 where
  pub plus : sign x ≡ false
  pub mag_pos : 0 < mag x
  pub is : val x ≡ (mag x, 0)

pub positive_sign : (x : Float) → whole 0 ≺ val x → Positive x
positive_sign x h =
    let p = by_sign (sign x) (mag x) (rw val_signed at h) in
    record { plus = p.0; mag_pos = p.1; is = val_signed x ∙ ap (λ (s : Bool). signed s (mag x)) p.0 }
  where
    by_sign : (s : Bool) (g : ℕ) → whole 0 ≺ signed s g → (s ≡ false) × (0 < g)
    by_sign true g h = absurd (omega arith)
    by_sign false g h = (refl, omega arith)

-- a value that is not negative is its size
pub least_is : (x : Float) → whole 0 ≼ val x → val x ≐ whole (mag x)
least_is x h = rw (val_signed x) (by_sign (sign x) (mag x) (rw (val_signed x) at h))
  where
    by_sign : (s : Bool) (n : ℕ) → whole 0 ≼ signed s n → signed s n ≐ whole n
    by_sign true n h = omega arith
    by_sign false n h = omega arith

pub mag_mono : (x y : Float) → whole 0 ≼ val x → val x ≼ val y → mag x ≤ mag y
mag_mono x y h k =
    sizes (val x) (val y) (mag x) (mag y) (least_is x h) (least_is y (Integer.le_trans (whole 0) (val x) (val y) h k)) k
  where
    sizes : (a b : Z) (m n : ℕ) → a ≐ whole m → b ≐ whole n → a ≼ b → m ≤ n
    sizes a b m n d e h = omega arith

-- one value, one size
pub mag_same : (x y : Float) → val x ≐ val y → mag x ≡ mag y
mag_same x y same =
    le_antisymm (mag_abs x (mag y) (abs_same (val y) (val x) (mag y) (Integer.same_sym (val x) (val y) same)
    (abs_mag y)))
    (mag_abs y (mag x) (abs_same (val x) (val y) (mag x) same (abs_mag x)))

-- ---- from a fraction of lib.Ieee
mag_is : (m : ℕ) (e : ℤ) (g : ℕ) → m * up e * metre ≡ g * down e → m * up e * metre / down e ≡ g
mag_is m e g h = rw h (mul-div_cancel g (down_pos e))

pub mag_of_value : (x : Float) (s : Bool) (g : ℕ) → HasValue x s g metre → mag x ≡ g
mag_of_value nan s g h = absurd h
mag_of_value (inf t) s g h = absurd h
mag_of_value (fin t m e) s g h = mag_is m e g h.1

pub val_of_value : (x : Float) (s : Bool) (g : ℕ) → HasValue x s g metre → val x ≡ signed s g
unfolding val
val_of_value nan s g h = absurd h
val_of_value (inf t) s g h = absurd h
val_of_value (fin t m e) s g h = rw (h.0, mag_is m e g h.1)

pub f32_of_value : (x : Float) (s : Bool) (g : ℕ) → T (fits binary32 x) → HasValue x s g metre → F32 x
f32_of_value nan s g fit h = absurd h
f32_of_value (inf t) s g fit h = absurd h
f32_of_value (fin t m e) s g fit h = record { in_format = fit; is_finite = tt }

-- ---- every number of the format is a whole number of units
pub exponent_le : (i j : ℕ) → 2 ^ i ≤ 2 ^ j → i ≤ j
exponent_le i j h = by_test (leb i j) (leb→le i j) (nleb→lt i j)
  where
    by_test : (b : Bool) → (T b → i ≤ j) → (T (not b) → j < i) → i ≤ j
    by_test true le gt = le tt
    by_test false le gt = absurd (not-le_of_lt (pow-lt (gt tt)) h)

metre_down : (e : ℤ) → down e ≤ 2 ^ 149 → (c : ℕ) × (metre ≡ c * down e)
metre_down (pos k) h = (metre, sym (mul-one metre))
metre_down (negsuc k) h = (2 ^ (149 - suc k), metre_split (suc k) (exponent_le (suc k) 149 h))

whole_units : (m : ℕ) (e : ℤ) → down e ≤ 2 ^ 149 → m * up e * metre ≡ m * up e * metre / down e * down e
whole_units m e h =
    let c = (metre_down e h).0 in
    let p : m * up e * metre ≡ m * up e * c * down e =
    ap (λ (x : ℕ). m * up e * x) (metre_down e h).1 ∙ sym (mul_assoc (m * up e) c (down e)) in
    p ∙ ap (λ (x : ℕ). x * down e) (sym (mag_is m e (m * up e * c) p))

-- a zero that fits has the exponent 0
zero_down : (e : ℤ) → T (eqb (up e * down e) 1) → down e ≤ 2 ^ 149
zero_down (pos k) t = pow_pos 149
zero_down (negsuc k) t = absurd (even (2 ^ k) (pow-succ' 2 k) (eqb→eq (1 * 2 ^ suc k) 1 t))
  where
    even : (p : ℕ) → 2 ^ suc k ≡ 2 * p → 1 * 2 ^ suc k ≡ 1 → ⊥
    even p e f = omega arith

pub has_value : {x : Float} → F32 x → HasValue x (sign x) (mag x) metre
unfolding fits
has_value {x = nan} h = absurd h.is_finite
has_value {x = inf s} h = absurd h.is_finite
has_value {x = fin s zero e} h = (refl, whole_units zero e (zero_down e h.in_format))
has_value {x = fin s (suc m) e} h =
    let odd : Bool = eqb (suc m % 2) 1 in
    let short : Bool = ltb (suc m) (2 ^ 24) in
    let fine : Bool = leb (down e) (2 ^ 149) in
    let low : Bool = ltb (suc m * up e) (2 ^ 128 * down e) in (
      refl,
      whole_units (suc m) e (leb→le (down e) (2 ^ 149)
          (and_r (odd && short) fine (and_l (odd && short && fine) low h.in_format))),
    )

-- a finite number of the format, as m 2^e
pub data AsFin : Float → Type 0 where
  as_fin : (s : Bool) (m : ℕ) (e : ℤ) → m * up e * metre ≡ mag (fin s m e) * down e → AsFin (fin s m e)

pub f32_as_fin : {x : Float} → F32 x → AsFin x
f32_as_fin {x = nan} h = absurd h.is_finite
f32_as_fin {x = inf s} h = absurd h.is_finite
f32_as_fin {x = fin s m e} h = as_fin s m e (has_value h).1

-- ---- negation
pub neg_f32 : {x : Float} → F32 x → F32 (neg x)
unfolding neg
neg_f32 {x = nan} h = absurd h.is_finite
neg_f32 {x = inf s} h = absurd h.is_finite
neg_f32 {x = fin s m e} h = record { in_format = neg-fits binary32 (fin s m e) h.in_format; is_finite = tt }

pub mag_neg : (x : Float) → mag (neg x) ≡ mag x
unfolding neg
mag_neg nan = refl
mag_neg (inf s) = refl
mag_neg (fin s m e) = refl

pub val_neg : (x : Float) → val (neg x) ≡ opp (val x)
unfolding neg val
val_neg nan = refl
val_neg (inf true) = refl
val_neg (inf false) = refl
val_neg (fin true m e) = refl
val_neg (fin false m e) = refl

-- ---- both zeros
pub mag_zero : (s : Bool) (e : ℤ) → mag (fin s zero e) ≡ 0
mag_zero s e = rw (zero-mul, zero-mul) (zero-div (down e))

pub val_zero : (s : Bool) (e : ℤ) → val (fin s zero e) ≡ (0, 0)
val_zero s e = val_signed (fin s zero e) ∙ (rw (mag_zero s e) (by_sign s))
  where
    by_sign : (s : Bool) → signed s 0 ≡ (0, 0)
    by_sign true = refl
    by_sign false = refl
