-- F1: a result whose exact value is that of some number of the format has that value, and is one itself: sum,
-- difference, product and quotient. Assumes nothing.
use mathlib.Core.Path.{subst}
use Prim.Native.Nat.{ℕ, ◌<◌}
use native.Mathlib.Omega.{arith}
use mathlib.Core.Bool.{Bool, true, false}
use lib.Ieee.{Float, binary32, add, sub, mul, div}
use Rattle.algebra.specs.Integer.{Z, signed, ◌⊞◌, ◌⊟◌, ◌⊠◌, ◌⊛◌, ◌≐◌}
use Rattle.algebra.proofs.Integer.{same_sym, same_trans, le_antisym, le_of_same, multiple_same, multiple_of_multiple}
use Rattle.rounding.specs.Value.{metre, F32, sign, mag, val}
use Rattle.rounding.proofs.Value.{val_signed}
use Rattle.rounding.proofs.Operations.{Rounds, turned, add_rounds, sub_rounds, mul_rounds, div_rounds}
use Rattle.rounding.proofs.Bounds.{rounds_below, rounds_above, rounds_finite}

-- z is a number of the format, and its value is v
pub record Is (z : Float) (v : Z) : Type 0 where
  pub own : F32 z
  pub is : val z ≐ v

-- ---- one rounding: it lies between r and r
rounds_exact : {z r : Float} {num : Z} {den : ℕ} → Rounds z num den → F32 r → metre ⊛ num ≐ den ⊛ val r
    → Is z (val r)
rounds_exact {z} {r} {num} {den} rounds r_f32 e =
    let below = le_of_same (metre ⊛ num) (den ⊛ val r) e in
    let above = le_of_same (den ⊛ val r) (metre ⊛ num) (same_sym (metre ⊛ num) (den ⊛ val r) e) in
    let own = rounds_finite rounds r_f32 r_f32 above below in
    record {
      own = own;
      is = le_antisym (val z) (val r) (rounds_below rounds r_f32 own below)
          (rounds_above rounds r_f32 own above);
    }

-- ---- the operations
sum_exact : {z r : Float} {v : Z} → Rounds z v metre → F32 r → v ≐ val r → Is z v
sum_exact {z} {r} {v} rounds r_f32 e =
    let h = rounds_exact rounds r_f32 (multiple_same metre v (val r) e) in
    record { own = h.own; is = same_trans (val z) (val r) v h.is (same_sym v (val r) e) }

module _ {x y r : Float} (x_f32 : F32 x) (y_f32 : F32 y) (r_f32 : F32 r) where
  pub add_exact : val x ⊞ val y ≐ val r → Is (add binary32 x y) (val x ⊞ val y)
  add_exact e = sum_exact (add_rounds x_f32 y_f32) r_f32 e

  pub sub_exact : val x ⊟ val y ≐ val r → Is (sub binary32 x y) (val x ⊟ val y)
  sub_exact e = sum_exact (sub_rounds x_f32 y_f32) r_f32 e

  pub mul_exact : val x ⊠ val y ≐ metre ⊛ val r → Is (mul binary32 x y) (val r)
  mul_exact e =
      rounds_exact (mul_rounds x_f32 y_f32) r_f32
      (subst (λ (u : Z). metre ⊛ (val x ⊠ val y) ≐ u) (multiple_of_multiple metre metre (val r))
      (multiple_same metre (val x ⊠ val y) (metre ⊛ val r) e))

  pub div_exact : 0 < mag y → metre ⊛ val x ≐ val r ⊠ val y → Is (div binary32 x y) (val r)
  div_exact y_pos e = rounds_exact (div_rounds x_f32 y_f32 y_pos) r_f32
      (by_sign (sign y) (mag y) (rw (val_signed y) at e))
    where
      by_sign : (s : Bool) (n : ℕ) → metre ⊛ val x ≐ val r ⊠ signed s n → metre ⊛ turned s (val x) ≐ n ⊛ val r
      by_sign true n e = omega arith
      by_sign false n e = omega arith
