-- Times 1 changes nothing, bit for bit, at every value of the format: both zeros, the infinities and NaN among them.
-- Two finite values of the format with one sign and one size are one. Assumes nothing.
use mathlib.Core.Path.{◌≡◌, refl, sym, ap, ap₂, ◌∙◌, subst}
use mathlib.Core.Bool.{Bool, true, false, cond}
use Prim.Native.Nat.{ℕ, ◌+◌, ◌-◌, ◌*◌, ◌/◌, ◌^◌}
use lib.IntN.{ℤ, pos}
use lib.Dec.{T}
use lib.Ieee.{Float, nan, inf, fin, binary32, unlike, size, fits, mul, of_bits, to_bits}
use lib.Ieee.Bits.{of_bits-to_bits}
use Rattle.algebra.proofs.Integer.{same_of_eq}
use Rattle.rounding.specs.Literals.{one32}
use Rattle.rounding.specs.Value.{metre, F32, sign, mag}
use Rattle.rounding.proofs.Value.{mag_same}
use Rattle.rounding.proofs.Commutes.{mul_commutes}
use Rattle.rounding.proofs.Literals.{one_f32, one_val}
use Rattle.rounding.proofs.UnitFactors.{one_mul_exact}
use Rattle.rounding.proofs.Sign.{product_sign}

-- ---- one value for each sign and size
same_pattern : {x y : Float} → F32 x → F32 y → sign x ≡ sign y → mag x ≡ mag y → to_bits binary32 x ≡ to_bits binary32 y
unfolding to_bits metre
same_pattern {x = nan} x_f32 y_f32 one_sign one_size = absurd x_f32.is_finite
same_pattern {x = inf s} x_f32 y_f32 one_sign one_size = absurd x_f32.is_finite
same_pattern {x = fin s m e} {y = nan} x_f32 y_f32 one_sign one_size = absurd y_f32.is_finite
same_pattern {x = fin s m e} {y = inf t} x_f32 y_f32 one_sign one_size = absurd y_f32.is_finite
same_pattern {x = fin s m e} {y = fin t n d} x_f32 y_f32 one_sign one_size =
    ap₂ (λ (u : Bool) (g : ℕ). cond u (2 ^ 31) 0 + (size g - 24) * 2 ^ 23 + g / 2 ^ (size g - 24)) one_sign one_size

one_of_size : {x y : Float} → F32 x → F32 y → sign x ≡ sign y → mag x ≡ mag y → x ≡ y
one_of_size {x} {y} x_f32 y_f32 one_sign one_size =
    sym (of_bits-to_bits binary32 x x_f32.in_format)
    ∙ ap (of_bits binary32) (same_pattern x_f32 y_f32 one_sign one_size)
    ∙ of_bits-to_bits binary32 y y_f32.in_format

-- ---- times 1
unlike_plus : (s : Bool) → unlike s false ≡ s
unlike_plus true = refl
unlike_plus false = refl

sign_times_one : (s : Bool) (m : ℕ) (e : ℤ) → sign (mul binary32 (fin s m e) one32) ≡ s
unfolding of_bits
sign_times_one s m e = product_sign s false m 1 e (pos 0) ∙ unlike_plus s

pub times_one : (x : Float) → T (fits binary32 x) → mul binary32 x one32 ≡ x
unfolding mul of_bits
times_one nan in_format = refl
times_one (inf true) in_format = refl
times_one (inf false) in_format = refl
times_one (fin s m e) in_format =
    let x_f32 : F32 (fin s m e) = record { in_format = in_format; is_finite = tt } in
    let exact = one_mul_exact one_f32 x_f32 (same_of_eq _ _ one_val) in
    let turned = mul_commutes (fin s m e) one32 in
    one_of_size (subst F32 (sym turned) exact.own) x_f32 (sign_times_one s m e)
    (ap mag turned ∙ mag_same _ (fin s m e) exact.is)
