-- A product of two numbers on one side of 0 is not below 0, whatever they are: of two that are at most 0, and of two
-- that are not (above 0, or NaN). So where the product of two distances is below 0, one is above and one is not.
-- Assumes nothing.
use mathlib.Core.Path.{◌≡◌, refl, sym, ap, ◌∙◌, subst}
use mathlib.Core.Bool.{Bool, true, false, cond, ◌&&◌, ◌||◌, true≢false, false≢true}
use Prim.Native.Nat.{ℕ, zero, suc, ◌+◌, ◌*◌}
use native.Mathlib.Nat.{mul-pos, zero-lt-suc, zero-mul}
use native.Mathlib.Omega.{arith}
use lib.IntN.{ℤ}
use lib.Dec.{T, ltb, eqb, eqb→eq, eqb-suc-zero}
use lib.Ieee.{Float, nan, inf, fin, binary32, up, down, unlike, mul, lt, eq, le, of_bits}
use lib.Ieee.Fits.{up_pos}
use borrow.Author.Tests.{lt-ltb, le-ltb}
use Rattle.rounding.specs.Literals.{zero32}
use Rattle.rounding.specs.Value.{sign}
use Rattle.rounding.proofs.Commutes.{mul_commutes}
use Rattle.rounding.proofs.Null.{Null, null_zero, null_not_below, mul_null}
use Rattle.rounding.proofs.Sign.{product_sign}

-- ---- without a minus nothing is below 0
plus_not_below : (x : Float) → sign x ≡ false → lt x zero32 ≡ false
unfolding lt of_bits
plus_not_below nan plus = refl
plus_not_below (inf true) plus = absurd (true≢false plus)
plus_not_below (inf false) plus = refl
plus_not_below (fin true m e) plus = absurd (true≢false plus)
plus_not_below (fin false m e) plus = le-ltb (m * up e * 1) (0 * down e) (omega (arith, zero-mul (down e)))

-- ---- a product of two of one sign has none
unlike_itself : (s t : Bool) → s ≡ t → unlike s t ≡ false
unlike_itself true true same = refl
unlike_itself false false same = refl
unlike_itself true false same = absurd (true≢false same)
unlike_itself false true same = absurd (false≢true same)

unless_zero : (n : ℕ) (u : Bool) → u ≡ false → sign (cond (eqb n 0) nan (inf u)) ≡ false
unless_zero zero u plus = refl
unless_zero (suc n) u plus = ap (λ (t : Bool). sign (cond t nan (inf u))) (eqb-suc-zero n) ∙ plus

product_plus : (x y : Float) → sign x ≡ sign y → sign (mul binary32 x y) ≡ false
unfolding mul
product_plus nan y same = refl
product_plus (inf s) nan same = refl
product_plus (inf s) (inf t) same = unlike_itself s t same
product_plus (inf s) (fin t n d) same = unless_zero n (unlike s t) (unlike_itself s t same)
product_plus (fin s m e) nan same = refl
product_plus (fin s m e) (inf t) same = unless_zero m (unlike s t) (unlike_itself s t same)
product_plus (fin s m e) (fin t n d) same = product_sign s t m n e d ∙ unlike_itself s t same

-- ---- what is at most 0 has a minus or is a zero; what is not has no minus
data NotAbove : Float → Type 0 where
  minus : {x : Float} → sign x ≡ true → NotAbove x
  none : {x : Float} → Null x → NotAbove x

at_most_zero : (a b : ℕ) → b ≡ 0 → (ltb a b || (eqb a b && true)) ≡ true → a ≡ 0
at_most_zero a b b_zero h =
    by_test (eqb a b) (eqb→eq a b) (ap (λ (t : Bool). t || (eqb a b && true)) (sym (le-ltb a b (omega arith))) ∙ h)
  where
    by_test : (t : Bool) → (T t → a ≡ b) → (t && true) ≡ true → a ≡ 0
    by_test true same h = same tt ∙ b_zero
    by_test false same h = absurd (false≢true h)

zero_digits : (m : ℕ) (e : ℤ) → le (fin false m e) zero32 ≡ true → Null (fin false m e)
unfolding le lt eq of_bits
zero_digits zero e not_above = null_zero false e
zero_digits (suc m) e not_above =
    let no_digits = at_most_zero (suc m * up e * 1) (0 * down e) (zero-mul (down e)) not_above in
    absurd (omega (arith, mul-pos (zero-lt-suc m) (up_pos e)))

not_above : (x : Float) → le x zero32 ≡ true → NotAbove x
unfolding le lt eq of_bits
not_above nan h = absurd (false≢true h)
not_above (inf true) h = minus refl
not_above (inf false) h = absurd (false≢true h)
not_above (fin true m e) h = minus refl
not_above (fin false m e) h = none (zero_digits m e h)

below_or_zero : (a b : ℕ) → b ≡ 0 → (ltb 0 (a + b) || (eqb a b && eqb a 0)) ≡ true
below_or_zero zero b b_zero = ap (λ (n : ℕ). ltb 0 (0 + n) || (eqb 0 n && true)) b_zero
below_or_zero (suc a) b b_zero =
    ap (λ (t : Bool). t || (eqb (suc a) b && eqb (suc a) 0)) (lt-ltb 0 (suc a + b) (omega arith))

minus_not_above : (m : ℕ) (e : ℤ) → le (fin true m e) zero32 ≡ true
unfolding le lt eq of_bits
minus_not_above m e = below_or_zero (m * up e * 1) (0 * down e) (zero-mul (down e))

above_or_nan : (x : Float) → le x zero32 ≡ false → sign x ≡ false
unfolding le lt eq of_bits
above_or_nan nan h = refl
above_or_nan (inf true) h = absurd (true≢false h)
above_or_nan (inf false) h = refl
above_or_nan (fin true m e) h = absurd (true≢false (sym (minus_not_above m e) ∙ h))
above_or_nan (fin false m e) h = refl

-- ---- the laws
null_product : (x y : Float) → Null x → Null (mul binary32 x y)
null_product x y x_null = subst Null (mul_commutes y x) (mul_null y x_null)

both_not_above : {x y : Float} → NotAbove x → NotAbove y → lt (mul binary32 x y) zero32 ≡ false
both_not_above {x} {y} (minus s) (minus t) = plus_not_below _ (product_plus x y (s ∙ sym t))
both_not_above {x} {y} (none x_null) y_at = null_not_below (null_product x y x_null)
both_not_above {x} {y} (minus s) (none y_null) = null_not_below (mul_null x y_null)

pub product_of_both : (x y : Float) → le x zero32 ≡ true → le y zero32 ≡ true → lt (mul binary32 x y) zero32 ≡ false
product_of_both x y x_at y_at = both_not_above (not_above x x_at) (not_above y y_at)

pub product_of_neither : (x y : Float) → le x zero32 ≡ false → le y zero32 ≡ false
    → lt (mul binary32 x y) zero32 ≡ false
product_of_neither x y x_off y_off =
    plus_not_below _ (product_plus x y (above_or_nan x x_off ∙ sym (above_or_nan y y_off)))
