-- The laws of f32 arithmetic that the upper crates cite, by their names in demand 3's proof: F1 to F4, F6 to F8 and
-- DOT, for numbers of binary32 (`F32`) and their values in units of 2^-149 m (`val`, `mag`; a metre is `metre`, 2^-25
-- m is `tick`). Bodies only cite. Assumes nothing.
use Prim.Native.Nat.{ℕ, ◌+◌, ◌*◌, ◌^◌, ◌≤◌, ◌<◌}
use lib.Dec.{T, leb}
use lib.Ieee.{Float, binary32, add, sub, mul, div}
use Rattle.algebra.specs.Integer.{whole, ◌⊞◌, ◌⊟◌, ◌⊠◌, ◌⊛◌, ◌≐◌, ◌≼◌, ◌≺◌, Abs}
use Rattle.rounding.specs.Value.{metre, tick, F32, mag, val}
use Rattle.rounding.specs.Literals.{one32}
use Rattle.rounding.proofs.Near.{Near, NearProduct, NearQuotient, add_near, sub_near, mul_near, div_near}
use Rattle.rounding.proofs.Bounds.{add_below, add_above, sub_below, sub_above, mul_below, mul_above, div_below}
use Rattle.rounding.proofs.Bounds.{div_above}
use Rattle.rounding.proofs.Exact.{Is, add_exact, sub_exact, mul_exact, div_exact}
use Rattle.rounding.proofs.Relative.{add_relative, sub_relative, mul_relative, mul_mixed, div_relative}
use Rattle.rounding.proofs.Relative.{div_mixed}
use Rattle.rounding.proofs.Doubling.{add_double, sub_double, mul_double, div_double}
use Rattle.rounding.proofs.Order.{add_mono, sub_mono, mul_mono, div_mono}
use Rattle.rounding.proofs.Sign.{Opposite, mul_negative, add_not_negative, sub_not_negative, mul_not_negative}
use Rattle.rounding.proofs.Sign.{div_not_negative}
use Rattle.rounding.proofs.Quotient.{Between, InUnit, div_in_unit}
use Rattle.rounding.proofs.Reciprocal.{Reciprocal, reciprocal}
use Rattle.rounding.proofs.Dot.{dot, DotNear, products_dot_near}

-- ---- F1: an exact result that is the value of a number r of the format is returned
pub record ExactResults (x y r : Float) : Type 0 where
  pub sum : val x ⊞ val y ≐ val r → Is (add binary32 x y) (val x ⊞ val y)
  pub difference : val x ⊟ val y ≐ val r → Is (sub binary32 x y) (val x ⊟ val y)
  pub product : val x ⊠ val y ≐ metre ⊛ val r → Is (mul binary32 x y) (val r)
  pub quotient : 0 < mag y → metre ⊛ val x ≐ val r ⊠ val y → Is (div binary32 x y) (val r)

pub exact_results : {x y r : Float} → F32 x → F32 y → F32 r → ExactResults x y r
exact_results x_f32 y_f32 r_f32 = record {
  sum = add_exact x_f32 y_f32 r_f32;
  difference = sub_exact x_f32 y_f32 r_f32;
  product = mul_exact x_f32 y_f32 r_f32;
  quotient = div_exact x_f32 y_f32 r_f32;
}

-- ---- F2: an exact result of at most 2^k m gives a finite one that is at most 2^k ticks away
pub record NearResults (k : ℕ) (x y : Float) : Type 0 where
  pub sum : (n : ℕ) → Abs (val x ⊞ val y) n → n ≤ 2 ^ k * metre → Near (add binary32 x y) (val x ⊞ val y) (2 ^ k * tick)
  pub difference : (n : ℕ) → Abs (val x ⊟ val y) n → n ≤ 2 ^ k * metre
      → Near (sub binary32 x y) (val x ⊟ val y) (2 ^ k * tick)
  pub product : (m n : ℕ) → Abs (val x) m → Abs (val y) n → m * n ≤ 2 ^ k * (metre * metre)
      → NearProduct (mul binary32 x y) (val x ⊠ val y) (2 ^ k * tick)
  pub quotient : 0 < mag y → mag x ≤ 2 ^ k * mag y → NearQuotient (div binary32 x y) x y (2 ^ k * tick)

pub near_results : (k : ℕ) {x y : Float} → T (leb k 127) → F32 x → F32 y → NearResults k x y
near_results k k_low x_f32 y_f32 = record {
  sum = λ n. add_near k n k_low x_f32 y_f32;
  difference = λ n. sub_near k n k_low x_f32 y_f32;
  product = λ m n. mul_near k m n k_low x_f32 y_f32;
  quotient = div_near k k_low x_f32 y_f32;
}

-- and relative to the exact result: 2^-24 of it; half a unit more for products and quotients below the normal range
pub record RelativeResults (x y : Float) : Type 0 where
  pub sum : (n : ℕ) → F32 (add binary32 x y) → Abs (val x ⊞ val y) n
      → Abs (2 ^ 24 ⊛ (val (add binary32 x y) ⊟ (val x ⊞ val y))) n
  pub difference : (n : ℕ) → F32 (sub binary32 x y) → Abs (val x ⊟ val y) n
      → Abs (2 ^ 24 ⊛ (val (sub binary32 x y) ⊟ (val x ⊟ val y))) n
  pub product : F32 (mul binary32 x y) → 2 ^ 23 * metre ≤ mag x * mag y
      → Abs (2 ^ 24 ⊛ (metre ⊛ val (mul binary32 x y) ⊟ val x ⊠ val y)) (mag x * mag y)
  pub product_mixed : F32 (mul binary32 x y)
      → Abs (2 ^ 24 ⊛ (metre ⊛ val (mul binary32 x y) ⊟ val x ⊠ val y)) (mag x * mag y + 2 ^ 23 * metre)
  pub quotient : 0 < mag y → F32 (div binary32 x y) → 2 ^ 23 * mag y ≤ mag x * metre
      → Abs (2 ^ 24 ⊛ (val (div binary32 x y) ⊠ val y ⊟ metre ⊛ val x)) (mag x * metre)
  pub quotient_mixed : 0 < mag y → F32 (div binary32 x y)
      → Abs (2 ^ 24 ⊛ (val (div binary32 x y) ⊠ val y ⊟ metre ⊛ val x)) (mag x * metre + 2 ^ 23 * mag y)

pub relative_results : {x y : Float} → F32 x → F32 y → RelativeResults x y
relative_results x_f32 y_f32 = record {
  sum = add_relative x_f32 y_f32;
  difference = sub_relative x_f32 y_f32;
  product = mul_relative x_f32 y_f32;
  product_mixed = mul_mixed x_f32 y_f32;
  quotient = div_relative x_f32 y_f32;
  quotient_mixed = div_mixed x_f32 y_f32;
}

-- ---- F3: an exact result of at most r rounds to at most r, and one of at least r to at least r
pub record OrderedResults (x y r : Float) : Type 0 where
  pub sum_below : F32 (add binary32 x y) → val x ⊞ val y ≼ val r → val (add binary32 x y) ≼ val r
  pub sum_above : F32 (add binary32 x y) → val r ≼ val x ⊞ val y → val r ≼ val (add binary32 x y)
  pub difference_below : F32 (sub binary32 x y) → val x ⊟ val y ≼ val r → val (sub binary32 x y) ≼ val r
  pub difference_above : F32 (sub binary32 x y) → val r ≼ val x ⊟ val y → val r ≼ val (sub binary32 x y)
  pub product_below : F32 (mul binary32 x y) → val x ⊠ val y ≼ metre ⊛ val r → val (mul binary32 x y) ≼ val r
  pub product_above : F32 (mul binary32 x y) → metre ⊛ val r ≼ val x ⊠ val y → val r ≼ val (mul binary32 x y)
  pub quotient_below : whole 0 ≺ val y → F32 (div binary32 x y) → metre ⊛ val x ≼ val r ⊠ val y
      → val (div binary32 x y) ≼ val r
  pub quotient_above : whole 0 ≺ val y → F32 (div binary32 x y) → val r ⊠ val y ≼ metre ⊛ val x
      → val r ≼ val (div binary32 x y)

pub ordered_results : {x y r : Float} → F32 x → F32 y → F32 r → OrderedResults x y r
ordered_results x_f32 y_f32 r_f32 = record {
  sum_below = add_below x_f32 y_f32 r_f32;
  sum_above = add_above x_f32 y_f32 r_f32;
  difference_below = sub_below x_f32 y_f32 r_f32;
  difference_above = sub_above x_f32 y_f32 r_f32;
  product_below = mul_below x_f32 y_f32 r_f32;
  product_above = mul_above x_f32 y_f32 r_f32;
  quotient_below = div_below x_f32 y_f32 r_f32;
  quotient_above = div_above x_f32 y_f32 r_f32;
}

-- and results rise with the exact ones
pub record RisingResults (x y x' y' : Float) : Type 0 where
  pub sum : F32 (add binary32 x y) → F32 (add binary32 x' y') → val x ⊞ val y ≼ val x' ⊞ val y'
      → val (add binary32 x y) ≼ val (add binary32 x' y')
  pub difference : F32 (sub binary32 x y) → F32 (sub binary32 x' y') → val x ⊟ val y ≼ val x' ⊟ val y'
      → val (sub binary32 x y) ≼ val (sub binary32 x' y')
  pub product : F32 (mul binary32 x y) → F32 (mul binary32 x' y') → val x ⊠ val y ≼ val x' ⊠ val y'
      → val (mul binary32 x y) ≼ val (mul binary32 x' y')
  pub quotient : F32 (div binary32 x y) → F32 (div binary32 x' y') → whole 0 ≺ val y → whole 0 ≺ val y'
      → val x ⊠ val y' ≼ val x' ⊠ val y → val (div binary32 x y) ≼ val (div binary32 x' y')

pub rising_results : {x y x' y' : Float} → F32 x → F32 y → F32 x' → F32 y' → RisingResults x y x' y'
rising_results x_f32 y_f32 x'_f32 y'_f32 = record {
  sum = add_mono x_f32 y_f32 x'_f32 y'_f32;
  difference = sub_mono x_f32 y_f32 x'_f32 y'_f32;
  product = mul_mono x_f32 y_f32 x'_f32 y'_f32;
  quotient = div_mono x_f32 y_f32 x'_f32 y'_f32;
}

-- ---- F4: a finite result is at most twice the exact one in size
pub record DoubledResults (x y : Float) : Type 0 where
  pub sum : (n : ℕ) → F32 (add binary32 x y) → Abs (val x ⊞ val y) n → Abs (val (add binary32 x y)) (2 * n)
  pub difference : (n : ℕ) → F32 (sub binary32 x y) → Abs (val x ⊟ val y) n → Abs (val (sub binary32 x y)) (2 * n)
  pub product : F32 (mul binary32 x y) → mag (mul binary32 x y) * metre ≤ 2 * (mag x * mag y)
  pub quotient : 0 < mag y → F32 (div binary32 x y) → mag (div binary32 x y) * mag y ≤ 2 * (mag x * metre)

pub doubled_results : {x y : Float} → F32 x → F32 y → DoubledResults x y
doubled_results x_f32 y_f32 = record {
  sum = add_double x_f32 y_f32;
  difference = sub_double x_f32 y_f32;
  product = mul_double x_f32 y_f32;
  quotient = div_double x_f32 y_f32;
}

-- ---- F6: the reciprocal of a number from 2^-j m to 2^k m is within a relative 2^-24
pub reciprocal_near : (j k : ℕ) {l : Float} → T (leb j 127) → T (leb k 126) → F32 l → metre ≤ 2 ^ j * mag l
    → mag l ≤ 2 ^ k * metre
    → Reciprocal (div binary32 one32 l) l
reciprocal_near = reciprocal

-- ---- F7: a product below 0 has factors of opposite signs
pub product_negative : {x y : Float} → F32 x → F32 y → val (mul binary32 x y) ≺ whole 0 → Opposite (val x) (val y)
product_negative = mul_negative

-- and a result is not negative where the exact one is not
pub record NotNegativeResults (x y : Float) : Type 0 where
  pub sum : whole 0 ≼ val x ⊞ val y → whole 0 ≼ val (add binary32 x y)
  pub difference : whole 0 ≼ val x ⊟ val y → whole 0 ≼ val (sub binary32 x y)
  pub product : whole 0 ≼ val x ⊠ val y → whole 0 ≼ val (mul binary32 x y)
  pub quotient : whole 0 ≼ val x → whole 0 ≺ val y → whole 0 ≼ val (div binary32 x y)

pub not_negative_results : {x y : Float} → F32 x → F32 y → NotNegativeResults x y
not_negative_results x_f32 y_f32 = record {
  sum = add_not_negative x_f32 y_f32;
  difference = sub_not_negative x_f32 y_f32;
  product = mul_not_negative x_f32 y_f32;
  quotient = div_not_negative x_f32 y_f32;
}

-- ---- F8: a quotient of a number by one of the same sign that is no smaller lies in [0, 1]
pub quotient_in_unit : {x y : Float} → F32 x → F32 y → Between (val x) (val y) → InUnit (div binary32 x y)
quotient_in_unit = div_in_unit

-- ---- DOT(5) and DOT(7): products of at most 32 m², and of at most 128 m²
module _ {ax ay bx by : Float} (ax_f32 : F32 ax) (ay_f32 : F32 ay) (bx_f32 : F32 bx) (by_f32 : F32 by) where
  pub dot_near_5 : Abs (val ax ⊠ val bx) (32 * (metre * metre)) → Abs (val ay ⊠ val by) (32 * (metre * metre))
      → DotNear (dot ax ay bx by) (val ax ⊠ val bx ⊞ val ay ⊠ val by) 5 32
  dot_near_5 = products_dot_near 5 32 tt tt tt ax_f32 ay_f32 bx_f32 by_f32

  pub dot_near_7 : Abs (val ax ⊠ val bx) (128 * (metre * metre)) → Abs (val ay ⊠ val by) (128 * (metre * metre))
      → DotNear (dot ax ay bx by) (val ax ⊠ val bx ⊞ val ay ⊠ val by) 7 128
  dot_near_7 = products_dot_near 7 128 tt tt tt ax_f32 ay_f32 bx_f32 by_f32
