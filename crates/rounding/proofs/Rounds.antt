-- What is known of every result that rounds once: its value is the rounded size with the exact result's sign, and an
-- error of that size is an error of the value; then the same for sums, products and quotients, freed of the common
-- factor. Assumes nothing.
use mathlib.Core.Path.{◌≡◌, sym, ap, ◌∙◌, subst}
use Prim.Native.Nat.{ℕ, ◌+◌, ◌*◌, ◌≤◌, ◌<◌}
use native.Mathlib.Nat.{le_of_mul-le-mul_right}
use native.Mathlib.Omega.{arith}
use mathlib.Core.Bool.{Bool, true, false}
use lib.Dec.{T}
use lib.Ieee.{Float, binary32, round, unlike}
use lib.Ieee.Scale.{overflow, finite}
use Rattle.algebra.specs.Integer.{Z, signed, ◌⊟◌, ◌⊠◌, ◌⊛◌, ◌≐◌, Abs}
use Rattle.algebra.proofs.Integer.{same_sym, same_trans}
use Rattle.algebra.proofs.Magnitude.{abs_same, signed_abs}
use Rattle.rounding.specs.Value.{metre, F32, sign, mag, val}
use Rattle.rounding.proofs.Value.{metre_pos, val_signed, val_of_value, mag_of_value}
use Rattle.rounding.proofs.Rounding.{rounded, round_value, round_f32, finite_rounded}
use Rattle.rounding.proofs.Error.{Apart}
use Rattle.rounding.proofs.Operations.{Rounds, turned, mul_rounds, div_rounds, signed_product, signed_quotient}

-- ---- value and size
module _ {z : Float} {num : Z} {den : ℕ} (r : Rounds z num den) where
  pub rounds_f32 : rounded r.size den < overflow binary32 → F32 z
  rounds_f32 h = rw r.is (round_f32 r.negative r.size den h)

  pub f32_rounded : F32 z → rounded r.size den < overflow binary32
  f32_rounded own = finite_rounded r.negative r.size den
      (subst (λ (x : Float). T (finite x)) r.is own.is_finite)

  pub size_le : (n : ℕ) → Abs num n → r.size ≤ n
  size_le n h =
      signed_abs r.negative r.size n
      (abs_same num (signed r.negative r.size) n (same_sym (signed r.negative r.size) num r.exact) h)

module _ {z : Float} {num : Z} {den : ℕ} (r : Rounds z num den) (z_f32 : F32 z) where
  pub rounds_val : val z ≡ signed r.negative (rounded r.size den)
  rounds_val =
      ap val r.is
      ∙ val_of_value (round binary32 r.negative r.size den) r.negative (rounded r.size den)
      (round_value r.negative r.size den (f32_rounded r z_f32))

  pub rounds_mag : mag z ≡ rounded r.size den
  rounds_mag =
      ap mag r.is
      ∙ mag_of_value (round binary32 r.negative r.size den) r.negative (rounded r.size den)
      (round_value r.negative r.size den (f32_rounded r z_f32))

-- the size is that of the exact result
signed_size : (s t : Bool) (m n : ℕ) → signed s m ≐ signed t n → m ≡ n
signed_size true true m n e = omega arith
signed_size false false m n e = omega arith
signed_size true false m n e = omega arith
signed_size false true m n e = omega arith

rounds_size : {z : Float} {num : Z} {den : ℕ} (r : Rounds z num den) (s : Bool) (n : ℕ) → signed s n ≐ num
    → r.size ≡ n
rounds_size {num = num} r s n e =
    signed_size r.negative s r.size n
    (same_trans (signed r.negative r.size) num (signed s n) r.exact (same_sym (signed s n) num e))

module _ {x y : Float} (x_f32 : F32 x) (y_f32 : F32 y) where
  pub mul_size : (mul_rounds x_f32 y_f32).size ≡ mag x * mag y
  mul_size =
      rounds_size (mul_rounds x_f32 y_f32) (unlike (sign x) (sign y)) (mag x * mag y)
      (rw (val_signed x, val_signed y) (signed_product (sign x) (sign y) (mag x) (mag y)))

  pub div_size : (y_pos : 0 < mag y) → (div_rounds x_f32 y_f32 y_pos).size ≡ mag x
  div_size y_pos =
      rounds_size (div_rounds x_f32 y_f32 y_pos) (unlike (sign x) (sign y)) (mag x)
      (rw (val_signed x) (signed_quotient (sign x) (sign y) (mag x)))

-- ---- errors
signed_apart : (s : Bool) (k d m g w e : ℕ) (v : Z) → signed s w ≐ v → Apart (k * (g * d)) (k * (w * m)) e
    → Abs (k ⊛ (d ⊛ signed s g ⊟ m ⊛ v)) e
signed_apart true k d m g w e v exact apart =
    let h : k * m * (0 + v.1) ≡ k * m * (v.0 + w) = ap (λ (x : ℕ). k * m * x) exact in omega arith
signed_apart false k d m g w e v exact apart =
    let h : k * m * (w + v.1) ≡ k * m * (v.0 + 0) = ap (λ (x : ℕ). k * m * x) exact in omega arith

pub rounds_error : {z : Float} {num : Z} {den : ℕ} (r : Rounds z num den) → F32 z → (k e : ℕ)
    → Apart (k * (rounded r.size den * den)) (k * (r.size * metre)) e → Abs (k ⊛ (den ⊛ val z ⊟ metre ⊛ num)) e
rounds_error {z} {num} {den} r z_f32 k e apart =
    subst (λ (v : Z). Abs (k ⊛ (den ⊛ v ⊟ metre ⊛ num)) e) (sym (rounds_val r z_f32))
    (signed_apart r.negative k den metre (rounded r.size den) r.size e num r.exact apart)

-- without the metre of a sum, and one of the two of a product
pub sum_error : (k e : ℕ) (z v : Z) → Abs (k ⊛ (metre ⊛ z ⊟ metre ⊛ v)) (e * metre) → Abs (k ⊛ (z ⊟ v)) e
sum_error k e z v h = (
  le_of_mul-le-mul_right {k = metre} (omega arith) metre_pos,
  le_of_mul-le-mul_right {k = metre}
      (omega arith) metre_pos,
)

pub product_error : (k e : ℕ) (z v : Z) → Abs (k ⊛ ((metre * metre) ⊛ z ⊟ metre ⊛ v)) (e * metre)
    → Abs (k ⊛ (metre ⊛ z ⊟ v)) e
product_error k e z v h = (
  le_of_mul-le-mul_right {k = metre} (omega arith) metre_pos,
  le_of_mul-le-mul_right {k = metre}
      (omega arith) metre_pos,
)

-- with the divisor's sign
pub quotient_error : (k e : ℕ) (z v : Z) (y : Float) → Abs (k ⊛ (mag y ⊛ z ⊟ metre ⊛ turned (sign y) v)) e
    → Abs (k ⊛ (z ⊠ val y ⊟ metre ⊛ v)) e
quotient_error k e z v y h = rw val_signed (by_sign (sign y) (mag y) h)
  where
    by_sign : (s : Bool) (g : ℕ) → Abs (k ⊛ (g ⊛ z ⊟ metre ⊛ turned s v)) e → Abs (k ⊛ (z ⊠ signed s g ⊟ metre ⊛ v)) e
    by_sign true g h = omega arith
    by_sign false g h = omega arith
