-- Special operands: their words and the definition's test say the same, what is not special is an f32 above 0, and what
-- the special step gives. Assumes nothing.
use Rattle.std.proofs.Common.{◌≡◌, ℕ, zero, suc, ◌*◌, ◌<◌, Bool, true, false, T, ◌⊎◌, ℤ, sym, refl, ◌∙◌, subst, inl, inr, true≢false, lt_irrefl, zero-lt-suc, mul-pos, zero-mul, arith}
use lib.Ieee.{Float, nan, inf, fin, binary32, up, down, fits}
use lib.Ieee.Fits.{up_pos}
use Rattle.algebra.specs.Integer.{Z, whole, signed, ◌≐◌, ◌≺◌}
use Rattle.rounding.specs.Value.{metre, F32, mag, val}
use Rattle.rounding.proofs.Value.{metre_pos, has_value, mag_zero, val_zero, positive_sign}
use Rattle.sqrt.specs.declared.root.Rooted.TheVariants as rooted
use Rattle.sqrt.specs.Sqrt.{special, root_by_steps, sqrt}
use Rattle.sqrt.specs.Steps.{Special, is_nan, is_infinite, is_zero, is_below_zero, SpecialGives}

-- ---- sizes of fin s m e
some : (m d g : ℕ) → 0 < m → m ≡ g * d → 0 < g
some m d zero m_pos e = absurd (let z = zero-mul d in omega arith)
some m d (suc g) m_pos e = zero-lt-suc g

mag_pos : (s : Bool) (m : ℕ) (e : ℤ) → F32 (fin s (suc m) e) → 0 < mag (fin s (suc m) e)
mag_pos s m e own =
    some (suc m * up e * metre) (down e) (mag (fin s (suc m) e))
    (mul-pos (mul-pos (zero-lt-suc m) (up_pos e)) metre_pos) (has_value own).1

none : (s : Bool) (g : ℕ) → signed s g ≐ whole 0 → 0 < g → ⊥
none true g e h = omega arith
none false g e h = omega arith

none_below : (g : ℕ) → whole g ≺ whole 0 → ⊥
none_below g h = omega arith

below : (g : ℕ) → 0 < g → signed true g ≺ whole 0
below g h = omega arith

above : (g : ℕ) → 0 < g → whole 0 ≺ whole g
above g h = omega arith

pub minus_below : (m : ℕ) (e : ℤ) → F32 (fin true (suc m) e) → val (fin true (suc m) e) ≺ whole 0
unfolding val
minus_below m e own = below (mag (fin true (suc m) e)) (mag_pos true m e own)

-- ---- special operands, by their words and by the test
zero_test : (x : Float) → F32 x → val x ≐ whole 0 → special x ≡ true
unfolding val
zero_test nan own is = refl
zero_test (inf s) own is = refl
zero_test (fin s zero e) own is = refl
zero_test (fin s (suc m) e) own is = absurd (none s (mag (fin s (suc m) e)) is (mag_pos s m e own))

below_zero_test : (x : Float) → F32 x → val x ≺ whole 0 → special x ≡ true
unfolding val
below_zero_test nan own is = refl
below_zero_test (inf s) own is = refl
below_zero_test (fin s zero e) own is = refl
below_zero_test (fin true (suc m) e) own is = refl
below_zero_test (fin false (suc m) e) own is = absurd (none_below (mag (fin false (suc m) e)) is)

pub test_of_special : {x : Float} → Special x → special x ≡ true
test_of_special (is_nan is) = rw is refl
test_of_special (is_infinite s is) = rw is refl
test_of_special {x} (is_zero own is) = zero_test x own is
test_of_special {x} (is_below_zero own is) = below_zero_test x own is

-- what is not special is an f32 above 0
pub record Above (x : Float) : Type 0 where
  pub own : F32 x
  pub positive : whole 0 ≺ val x

not_special : (x : Float) → Above x → special x ≡ false
not_special nan above = absurd above.own.is_finite
not_special (inf s) above = absurd above.own.is_finite
not_special (fin s zero e) above =
    absurd (lt_irrefl 0 (subst (λ (g : ℕ). 0 < g) (mag_zero s e) (positive_sign _ above.positive).mag_pos))
not_special (fin true (suc m) e) above = absurd (true≢false (positive_sign _ above.positive).plus)
not_special (fin false (suc m) e) above = refl

pub above_not_special : {x : Float} → Above x → Special x → ⊥
above_not_special {x} above is = true≢false (sym (test_of_special is) ∙ not_special x above)

pub kind : (x : Float) → T (fits binary32 x) → Special x ⊎ Above x
unfolding val
kind nan x_Fits = inl (is_nan refl)
kind (inf s) x_Fits = inl (is_infinite s refl)
kind (fin s zero e) x_Fits =
    let own : F32 (fin s zero e) = record { in_format = x_Fits; is_finite = tt } in
    inl (is_zero own (rw (val_zero s e) refl))
kind (fin true (suc m) e) x_Fits =
    let own : F32 (fin true (suc m) e) = record { in_format = x_Fits; is_finite = tt } in
    inl (is_below_zero own (minus_below m e own))
kind (fin false (suc m) e) x_Fits =
    let own : F32 (fin false (suc m) e) = record { in_format = x_Fits; is_finite = tt } in
    inr (record { own = own; positive = above (mag (fin false (suc m) e)) (mag_pos false m e own) })

-- ---- what they give
nan_root : (x : Float) → x ≡ nan → sqrt binary32 x ≡ nan
unfolding sqrt root_by_steps
nan_root x is = rw is refl

infinity_root : (x : Float) → x ≡ inf false → sqrt binary32 x ≡ inf false
unfolding sqrt root_by_steps
infinity_root x is = rw is refl

minus_infinity_root : (x : Float) → x ≡ inf true → sqrt binary32 x ≡ nan
unfolding sqrt root_by_steps
minus_infinity_root x is = rw is refl

pub zero_root : (x : Float) → F32 x → val x ≐ whole 0 → sqrt binary32 x ≡ x
unfolding sqrt root_by_steps val
zero_root nan own is = absurd own.is_finite
zero_root (inf s) own is = absurd own.is_finite
zero_root (fin s zero e) own is = refl
zero_root (fin s (suc m) e) own is = absurd (none s (mag (fin s (suc m) e)) is (mag_pos s m e own))

below_zero_root : (x : Float) → F32 x → val x ≺ whole 0 → sqrt binary32 x ≡ nan
unfolding sqrt root_by_steps val
below_zero_root nan own is = absurd own.is_finite
below_zero_root (inf s) own is = absurd own.is_finite
below_zero_root (fin s zero e) own is = absurd (none_below 0 (subst (λ (v : Z). v ≺ whole 0) (val_zero s e) is))
below_zero_root (fin true (suc m) e) own is = refl
below_zero_root (fin false (suc m) e) own is = absurd (none_below (mag (fin false (suc m) e)) is)

pub special_root : (x : Float) → SpecialGives x (sqrt binary32 x)
special_root x = record {
  of_nan = nan_root x;
  of_plus_infinity = infinity_root x;
  of_minus_infinity = minus_infinity_root x;
  of_zero = zero_root x;
  of_below_zero = below_zero_root x;
}

pub special_step : (x : Float) → special x ≡ true → root_by_steps binary32 x ≡ rooted.Special (sqrt binary32 x)
unfolding sqrt root_by_steps
special_step x is = rw is refl
