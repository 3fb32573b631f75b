-- Error and size at once, for a chain of operations: a sum, a difference or a product that is exactly at most h m in
-- size, for a whole h ≤ 2^k, is finite, off by at most 2^k ticks (F2) and itself at most h m in size (F3). Assumes
-- nothing.
use Prim.Native.Nat.{ℕ, ◌+◌, ◌*◌, ◌^◌, ◌≤◌}
use native.Mathlib.Nat.{le_refl, le_trans, mul-le-mul_right}
use native.Mathlib.Omega.{arith}
use lib.Dec.{T, leb, leb→le, le→leb, lit≤}
use lib.Pow.{pow_mono}
use lib.Ieee.{Float, binary32, add, sub, mul}
use Rattle.algebra.specs.Integer.{Z, ◌⊞◌, ◌⊟◌, ◌⊠◌, ◌⊛◌, Abs}
use Rattle.algebra.proofs.Magnitude.{abs_product}
use Rattle.rounding.specs.Value.{metre, tick, F32, val}
use Rattle.rounding.proofs.Near.{add_near, sub_near, product_near}
use Rattle.rounding.proofs.Caps.{Capped, add_cap, sub_cap, product_cap}

-- z is v within 2^k ticks, and at most h m in size
pub record Sized (z : Float) (v : Z) (k h : ℕ) : Type 0 where
  pub capped : Capped z h
  pub err : Abs (val z ⊟ v) (2 ^ k * tick)

-- z is v / metre within 2^k ticks, and at most h m in size
pub record SizedProduct (z : Float) (v : Z) (k h : ℕ) : Type 0 where
  pub capped : Capped z h
  pub err : Abs (metre ⊛ val z ⊟ v) (2 ^ k * tick * metre)

-- ---- by the size of the exact result
module _ (k h : ℕ) {x y : Float} (k_low : T (leb k 24)) (h_low : T (leb h (2 ^ k))) (x_f32 : F32 x)
    (y_f32 : F32 y) where
  h_le : h ≤ 2 ^ k
  h_le = leb→le h (2 ^ k) h_low

  k_fits : T (leb k 127)
  k_fits = le→leb k 127 (le_trans (leb→le k 24 k_low) (lit≤ tt))

  h_fits : T (leb h (2 ^ 24))
  h_fits = le→leb h (2 ^ 24) (le_trans h_le (pow_mono (leb→le k 24 k_low)))

  pub add_sized : Abs (val x ⊞ val y) (h * metre) → Sized (add binary32 x y) (val x ⊞ val y) k h
  add_sized size = record {
    capped = add_cap h h_fits x_f32 y_f32 (h * metre) size (le_refl (h * metre));
    err = (add_near k (h * metre) k_fits x_f32 y_f32 size (mul-le-mul_right metre h_le)).err;
  }

  sub_sized : Abs (val x ⊟ val y) (h * metre) → Sized (sub binary32 x y) (val x ⊟ val y) k h
  sub_sized size = record {
    capped = sub_cap h h_fits x_f32 y_f32 (h * metre) size (le_refl (h * metre));
    err = (sub_near k (h * metre) k_fits x_f32 y_f32 size (mul-le-mul_right metre h_le)).err;
  }

  pub mul_sized : Abs (val x ⊠ val y) (h * (metre * metre)) → SizedProduct (mul binary32 x y) (val x ⊠ val y) k h
  mul_sized size = record {
    capped = product_cap h h_fits x_f32 y_f32 (h * (metre * metre)) size (le_refl (h * (metre * metre)));
    err = (product_near k (h * (metre * metre)) k_fits x_f32 y_f32 size (mul-le-mul_right (metre * metre) h_le)).err;
  }

-- ---- by the sizes of the two numbers, a and b m
module _ (k a b : ℕ) {x y : Float} (k_low : T (leb k 24)) (low : T (leb (a + b) (2 ^ k))) (x_cap : Capped x a)
    (y_cap : Capped y b) where
  pub sum_sized : Sized (add binary32 x y) (val x ⊞ val y) k (a + b)
  sum_sized =
      add_sized k (a + b) k_low low x_cap.own y_cap.own (joined (val x) (val y) x_cap.cap y_cap.cap)
    where
      joined : (v w : Z) → Abs v (a * metre) → Abs w (b * metre) → Abs (v ⊞ w) ((a + b) * metre)
      joined v w h k = omega arith

  pub difference_sized : Sized (sub binary32 x y) (val x ⊟ val y) k (a + b)
  difference_sized =
      sub_sized k (a + b) k_low low x_cap.own y_cap.own (apart (val x) (val y) x_cap.cap y_cap.cap)
    where
      apart : (v w : Z) → Abs v (a * metre) → Abs w (b * metre) → Abs (v ⊟ w) ((a + b) * metre)
      apart v w h k = omega arith

module _ (k a b : ℕ) {x y : Float} (k_low : T (leb k 24)) (low : T (leb (a * b) (2 ^ k))) (x_cap : Capped x a)
    (y_cap : Capped y b) where
  pub product_sized : SizedProduct (mul binary32 x y) (val x ⊠ val y) k (a * b)
  product_sized =
      mul_sized k (a * b) k_low low x_cap.own y_cap.own
      (squared (val x ⊠ val y) (abs_product (val x) (val y) (a * metre) (b * metre) x_cap.cap y_cap.cap))
    where
      squared : (v : Z) → Abs v (a * metre * (b * metre)) → Abs v (a * b * (metre * metre))
      squared v h = omega arith
