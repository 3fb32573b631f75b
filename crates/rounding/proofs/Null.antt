-- A zero of either sign or NaN, `Null`: a number less itself is one, so are products with one and differences of two,
-- whatever the other numbers, and none is below 0. Assumes nothing.
use mathlib.Core.Path.{◌≡◌, refl, sym, ap, ◌∙◌, subst}
use mathlib.Core.Bool.{Bool, true, false, not}
use Prim.Native.Nat.{ℕ, zero, ◌*◌, ◌<◌}
use native.Mathlib.Nat.{mul-pos, zero-mul, mul-zero, sub_self}
use native.Mathlib.Omega.{arith}
use lib.IntN.{ℤ, pos}
use lib.Ieee.{Float, nan, inf, fin, binary32, up, down, unlike, round, sum, neg, add, sub, mul, lt, of_bits}
use lib.Ieee.Fits.{down_pos}
use lib.Ieee.Scale.{round_same}
use borrow.Author.Tests.{le-ltb}
use Rattle.rounding.specs.Literals.{zero32}

-- a zero of either sign, or NaN
pub data Null : Float → Type 0 where
  null_nan : Null nan
  null_zero : (s : Bool) (e : ℤ) → Null (fin s zero e)

pub null_not_below : {x : Float} → Null x → lt x zero32 ≡ false
unfolding lt of_bits
null_not_below null_nan = refl
null_not_below (null_zero true e) = simp zero-mul
null_not_below (null_zero false e) = simp zero-mul

round_null : (s : Bool) (w c : ℕ) → w ≡ 0 → 0 < c → Null (round binary32 s w c)
unfolding round
round_null s w c w_zero c_pos =
    let one : round binary32 s 0 c ≡ fin s zero (pos zero) = round_same binary32 s 0 c 0 1 c_pos (omega arith)
    (omega arith) in
    subst Null (sym (ap (λ (n : ℕ). round binary32 s n c) w_zero ∙ one)) (null_zero s (pos zero))

-- ---- a number less itself
sum_itself : (s : Bool) (a c : ℕ) → 0 < c → Null (sum binary32 s a (not s) a c)
unfolding sum
sum_itself true a c c_pos = rw (le-ltb a a (omega arith), sub_self) (round_null false 0 c refl c_pos)
sum_itself false a c c_pos = rw (le-ltb a a (omega arith), sub_self) (round_null false 0 c refl c_pos)

pub sub_itself : (x : Float) → Null (sub binary32 x x)
unfolding sub add neg
sub_itself nan = null_nan
sub_itself (inf true) = null_nan
sub_itself (inf false) = null_nan
sub_itself (fin s m e) = sum_itself s (m * up e * down e) (down e * down e) (mul-pos (down_pos e) (down_pos e))

-- ---- products and differences
pub mul_null : (x : Float) {y : Float} → Null y → Null (mul binary32 x y)
unfolding mul
mul_null nan y_null = null_nan
mul_null (inf s) null_nan = null_nan
mul_null (inf s) (null_zero t d) = null_nan
mul_null (fin s m e) null_nan = null_nan
mul_null (fin s m e) (null_zero t d) =
    round_null (unlike s t) (m * up e * (0 * up d)) (down e * down d) (rw zero-mul (mul-zero (m * up e)))
    (mul-pos (down_pos e) (down_pos d))

sum_null : (s t : Bool) (c : ℕ) → 0 < c → Null (sum binary32 s 0 t 0 c)
unfolding sum
sum_null true true c c_pos = round_null true 0 c refl c_pos
sum_null true false c c_pos = round_null false 0 c refl c_pos
sum_null false true c c_pos = round_null false 0 c refl c_pos
sum_null false false c c_pos = round_null false 0 c refl c_pos

pub sub_null : {x y : Float} → Null x → Null y → Null (sub binary32 x y)
unfolding sub add neg
sub_null null_nan y_null = null_nan
sub_null (null_zero s e) null_nan = null_nan
sub_null (null_zero s e) (null_zero t d) =
    simp zero-mul (sum_null s (not t) (down e * down d) (mul-pos (down_pos e) (down_pos d)))
