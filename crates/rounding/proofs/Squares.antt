-- Numbers of one size have one rounded square, bit for bit; so a number has the square of 1 and of -1 times it, NaN
-- and the infinities included. Assumes nothing.
use mathlib.Core.Path.{◌≡◌, refl, sym, ap, ap₂, ◌∙◌, subst}
use mathlib.Core.Bool.{Bool, true, false}
use Prim.Native.Nat.{ℕ, ◌*◌, ◌<◌}
use native.Mathlib.Nat.{mul-pos, mul_right_comm, mul-mul-mul_comm, eq_of_mul-eq-mul_right}
use lib.Dec.{T}
use lib.Ieee.{Float, nan, inf, fin, binary32, up, down, unlike, fits, round, mul, neg, of_bits}
use lib.Ieee.Fits.{down_pos}
use lib.Ieee.Scale.{round_same}
use Rattle.algebra.specs.Integer.{Z, opp, ◌≐◌}
use Rattle.algebra.proofs.Integer.{same_of_eq}
use Rattle.rounding.specs.Value.{metre, F32, mag, val}
use Rattle.rounding.specs.Literals.{one32}
use Rattle.rounding.proofs.Value.{metre_pos, mag_same, has_value, neg_f32, mag_neg, val_neg}
use Rattle.rounding.proofs.Literals.{one_f32, one_val}
use Rattle.rounding.proofs.UnitFactors.{one_mul_exact, minus_one_mul_exact}

-- ---- numbers of one size have one square
unlike_itself : (s : Bool) → unlike s s ≡ false
unlike_itself true = refl
unlike_itself false = refl

same_fraction : (a E b D g m : ℕ) → 0 < m → a * m ≡ g * E → b * m ≡ g * D → a * D ≡ b * E
same_fraction a E b D g m m_pos a_is b_is =
    eq_of_mul-eq-mul_right m m_pos (a * D) (b * E)
    (mul_right_comm a D m ∙ ap (λ (n : ℕ). n * D) a_is ∙ mul_right_comm g E D ∙ ap (λ (n : ℕ). n * E) (sym b_is)
    ∙ mul_right_comm b m E)

same_square : (a E b D : ℕ) → a * D ≡ b * E → a * a * (D * D) ≡ b * b * (E * E)
same_square a E b D h = mul-mul-mul_comm a a D D ∙ ap₂ (λ (m n : ℕ). m * n) h h ∙ sym (mul-mul-mul_comm b b E E)

square_same : {x y : Float} → F32 x → F32 y → mag x ≡ mag y → mul binary32 x x ≡ mul binary32 y y
unfolding mul
square_same {x = nan} x_f32 y_f32 same = absurd x_f32.is_finite
square_same {x = inf s} x_f32 y_f32 same = absurd x_f32.is_finite
square_same {x = fin s m e} {y = nan} x_f32 y_f32 same = absurd y_f32.is_finite
square_same {x = fin s m e} {y = inf t} x_f32 y_f32 same = absurd y_f32.is_finite
square_same {x = fin s m e} {y = fin t n d} x_f32 y_f32 same =
    let y_is = (has_value y_f32).1 ∙ ap (λ (g : ℕ). g * down d) (sym same) in
    let fraction = same_fraction (m * up e) (down e) (n * up d) (down d) (mag (fin s m e)) metre metre_pos
    (has_value x_f32).1 y_is in
    ap (λ (u : Bool). round binary32 u (m * up e * (m * up e)) (down e * down e)) (unlike_itself s)
    ∙ round_same binary32 false (m * up e * (m * up e)) (down e * down e) (n * up d * (n * up d)) (down d * down d)
    (mul-pos (down_pos e) (down_pos e)) (mul-pos (down_pos d) (down_pos d))
    (same_square (m * up e) (down e) (n * up d) (down d) fraction)
    ∙ ap (λ (u : Bool). round binary32 u (n * up d * (n * up d)) (down d * down d)) (sym (unlike_itself t))

-- ---- times 1 and times -1, squared
pub times_one_squared : (y : Float) → T (fits binary32 y)
    → mul binary32 (mul binary32 one32 y) (mul binary32 one32 y) ≡ mul binary32 y y
unfolding mul of_bits
times_one_squared nan in_format = refl
times_one_squared (inf true) in_format = refl
times_one_squared (inf false) in_format = refl
times_one_squared (fin s m e) in_format =
    let y_f32 : F32 (fin s m e) = record { in_format = in_format; is_finite = tt } in
    let exact = one_mul_exact one_f32 y_f32 (same_of_eq _ _ one_val) in
    square_same exact.own y_f32 (mag_same _ (fin s m e) exact.is)

pub times_minus_one_squared : (x : Float) → T (fits binary32 x)
    → mul binary32 (mul binary32 (neg one32) x) (mul binary32 (neg one32) x) ≡ mul binary32 x x
unfolding mul neg of_bits
times_minus_one_squared nan in_format = refl
times_minus_one_squared (inf true) in_format = refl
times_minus_one_squared (inf false) in_format = refl
times_minus_one_squared (fin s m e) in_format =
    let x_f32 : F32 (fin s m e) = record { in_format = in_format; is_finite = tt } in
    let exact = minus_one_mul_exact (neg_f32 one_f32) x_f32 (same_of_eq _ _ (val_neg one32 ∙ ap opp one_val)) in
    let minus = subst (λ (v : Z). val (mul binary32 (neg one32) (fin s m e)) ≐ v) (sym (val_neg (fin s m e)))
    exact.is in
    square_same exact.own x_f32 (mag_same _ (neg (fin s m e)) minus ∙ mag_neg (fin s m e))
