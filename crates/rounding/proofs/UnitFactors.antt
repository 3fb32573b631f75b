-- Multiplying by 0, 1 or -1 and adding or subtracting 0 are exact at every number of the format, -0 included: each
-- exact result is the value of a number at hand. Assumes nothing.
use native.Mathlib.Omega.{arith}
use lib.Ieee.{Float, binary32, add, sub, mul}
use Rattle.algebra.specs.Integer.{Z, whole, opp, ◌⊞◌, ◌⊟◌, ◌⊠◌, ◌⊛◌, ◌≐◌}
use Rattle.algebra.proofs.Integer.{same_refl, same_trans}
use Rattle.algebra.proofs.Products.{product_same}
use Rattle.rounding.specs.Value.{metre, F32, val}
use Rattle.rounding.proofs.Value.{val_neg, neg_f32}
use Rattle.rounding.proofs.Exact.{Is, add_exact, sub_exact, mul_exact}
use Rattle.rounding.proofs.Literals.{zero_f32, zero_val}

same : {z : Float} (v w : Z) → v ≐ w → Is z v → Is z w
same {z} v w e h = record { own = h.own; is = same_trans (val z) v w h.is e }

factor : (u k v w : Z) → u ≐ k → k ⊠ v ≐ w → u ⊠ v ≐ w
factor u k v w e h = same_trans (u ⊠ v) (k ⊠ v) w (product_same u k v v e (same_refl v)) h

module _ {u x : Float} (u_f32 : F32 u) (x_f32 : F32 x) where
  pub one_mul_exact : val u ≐ whole metre → Is (mul binary32 u x) (val x)
  one_mul_exact e = mul_exact u_f32 x_f32 x_f32 (factor (val u) (whole metre) (val x) (metre ⊛ val x) e (omega arith))

  pub minus_one_mul_exact : val u ≐ opp (whole metre) → Is (mul binary32 u x) (opp (val x))
  minus_one_mul_exact e =
      rw val_neg at (mul_exact u_f32 x_f32 (neg_f32 x_f32)
      (rw val_neg (factor (val u) (opp (whole metre)) (val x) (metre ⊛ opp (val x)) e (omega arith))))

  pub zero_mul_exact : val u ≐ whole 0 → Is (mul binary32 u x) (whole 0)
  zero_mul_exact e = rw zero_val at (mul_exact u_f32 x_f32 zero_f32
      (rw zero_val (factor (val u) (whole 0) (val x) (metre ⊛ whole 0) e (omega arith))))

module _ {x y : Float} (x_f32 : F32 x) (y_f32 : F32 y) where
  pub sub_zero_exact : val y ≐ whole 0 → Is (sub binary32 x y) (val x)
  sub_zero_exact e = same (val x ⊟ val y) (val x) (omega arith) (sub_exact x_f32 y_f32 x_f32 (omega arith))

  pub zero_sub_exact : val x ≐ whole 0 → Is (sub binary32 x y) (opp (val y))
  zero_sub_exact e =
      same (val x ⊟ val y) (opp (val y)) (omega arith)
      (sub_exact x_f32 y_f32 (neg_f32 y_f32) (rw val_neg (omega arith)))

  pub add_zero_exact : val y ≐ whole 0 → Is (add binary32 x y) (val x)
  add_zero_exact e = same (val x ⊞ val y) (val x) (omega arith) (add_exact x_f32 y_f32 x_f32 (omega arith))

  pub zero_add_exact : val x ≐ whole 0 → Is (add binary32 x y) (val y)
  zero_add_exact e = same (val x ⊞ val y) (val y) (omega arith) (add_exact x_f32 y_f32 y_f32 (omega arith))
