-- The code's tests tell the definition's special operands, and x < 0 what they give. Assumes nothing.
use Rattle.std.proofs.Common.{◌≡◌, zero, suc, ◌≤◌, true, false, not, T, sym, refl, ap, ◌∙◌, subst, true≢false, arith}
use lib.Ieee.{Float, nan, inf, fin, binary32, fits, is_nan, lt, eq, ne, of_bits, to_bits}
use lib.Ieee.Bits.{of_bits-to_bits, is_true}
use Rattle.algebra.specs.Integer.{Z, ◌≺◌}
use Rattle.rounding.specs.Value.{F32, val}
use Rattle.rounding.specs.Literals.{zero32}
use Rattle.rounding.proofs.Literals.{zero_f32, zero_val}
use Rattle.rounding.proofs.Comparison.{val_lt}
use Rattle.rounding.proofs.Nan.{nan_of_differs, not_nan_of_same}
use Rattle.rounding.proofs.Null.{null_zero, null_not_below}
use Rattle.sqrt.specs.declared.root.Rooted.TheVariants as rooted
use Rattle.sqrt.specs.Sqrt.{special, special_root, root_by_steps}
use Rattle.sqrt.proofs.SpecialOperands.{minus_below}

-- ---- x == x, and the pattern 0
pub not_nan : (x : Float) → eq x x ≡ true → T (not (is_nan x))
unfolding ne
not_nan x h = not_nan_of_same x (ap not h)

pub nan_test : (x : Float) → eq x x ≡ false → special x ≡ true
unfolding ne
nan_test x h = ap special (nan_of_differs x (ap not h))

pub zero_pattern_test : (x : Float) → T (fits binary32 x) → to_bits binary32 x ≤ 0 → special x ≡ true
unfolding of_bits
zero_pattern_test x x_Fits h =
    let none : to_bits binary32 x ≡ 0 = omega arith in
    let is : x ≡ of_bits binary32 0 = sym (of_bits-to_bits binary32 x x_Fits) ∙ ap (of_bits binary32) none in
    ap special is

-- ---- what is special gives NaN where x < 0, and else itself
pub below_gives : (x : Float) → lt x zero32 ≡ true → nan ≡ special_root x
unfolding lt of_bits
below_gives nan h = refl
below_gives (inf true) h = refl
below_gives (inf false) h = absurd (true≢false (sym h))
below_gives (fin s zero e) h = absurd (true≢false (sym h ∙ null_not_below (null_zero s e)))
below_gives (fin s (suc m) e) h = refl

pub own_gives : (x : Float) → T (fits binary32 x) → special x ≡ true → lt x zero32 ≡ false → x ≡ special_root x
unfolding lt of_bits
own_gives nan x_Fits is h = refl
own_gives (inf true) x_Fits is h = absurd (true≢false h)
own_gives (inf false) x_Fits is h = refl
own_gives (fin s zero e) x_Fits is h = refl
own_gives (fin true (suc m) e) x_Fits is h =
    let own : F32 (fin true (suc m) e) = record { in_format = x_Fits; is_finite = tt } in
    let below = subst (λ (v : Z). val (fin true (suc m) e) ≺ v) (sym zero_val) (minus_below m e own) in
    absurd (true≢false (sym (is_true _ (val_lt own zero_f32 below)) ∙ h))
own_gives (fin false (suc m) e) x_Fits is h = absurd (true≢false (sym is))

pub step_of_special : (x : Float) → special x ≡ true → rooted.Special (special_root x) ≡ root_by_steps binary32 x
unfolding root_by_steps
step_of_special x is = rw is refl
