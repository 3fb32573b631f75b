-- F4: a finite result is at most twice the exact one in size: below half a unit it is 0, and from there on rounding up
-- at most doubles. One law for every rounding, then the four operations. Assumes nothing.
use mathlib.Core.Path.{sym, subst}
use Prim.Native.Nat.{ℕ, ◌*◌, ◌≤◌, ◌<◌}
use native.Mathlib.Nat.{le_trans, mul-le-mul_left, le_of_mul-le-mul_right}
use native.Mathlib.Omega.{arith}
use lib.Ieee.{Float, binary32, add, sub, mul, div}
use Rattle.algebra.specs.Integer.{Z, ◌⊞◌, ◌⊟◌, Abs}
use Rattle.algebra.proofs.Magnitude.{abs_widen}
use Rattle.rounding.specs.Value.{metre, F32, mag, val}
use Rattle.rounding.proofs.Value.{metre_is, metre_pos, abs_mag}
use Rattle.rounding.proofs.Rounding.{rounded, rounded_double}
use Rattle.rounding.proofs.Operations.{Rounds, add_rounds, sub_rounds, mul_rounds, div_rounds}
use Rattle.rounding.proofs.Rounds.{rounds_mag, size_le, mul_size, div_size}

pub rounds_double : {z : Float} {num : Z} {den : ℕ} (r : Rounds z num den) → F32 z → mag z * den ≤ 2 * (r.size * metre)
rounds_double {z} {num} {den} r z_f32 =
    rw (rounds_mag r z_f32)
    (subst (λ (m : ℕ). rounded r.size den * den ≤ 2 * (r.size * m)) (sym metre_is)
    (rounded_double r.size den r.den_pos))

sum_double : {z : Float} {v : Z} (n : ℕ) → Rounds z v metre → F32 z → Abs v n → Abs (val z) (2 * n)
sum_double {z} n r z_f32 v_abs =
    let h = rounds_double r z_f32 in
    let twice : mag z ≤ 2 * r.size = le_of_mul-le-mul_right {k = metre} (omega arith) metre_pos in
    abs_widen (val z) (mag z) (2 * n) (abs_mag z) (le_trans twice (mul-le-mul_left 2 (size_le r n v_abs)))

module _ {x y : Float} (x_f32 : F32 x) (y_f32 : F32 y) where
  pub add_double : (n : ℕ) → F32 (add binary32 x y) → Abs (val x ⊞ val y) n → Abs (val (add binary32 x y)) (2 * n)
  add_double n own h = sum_double n (add_rounds x_f32 y_f32) own h

  pub sub_double : (n : ℕ) → F32 (sub binary32 x y) → Abs (val x ⊟ val y) n → Abs (val (sub binary32 x y)) (2 * n)
  sub_double n own h = sum_double n (sub_rounds x_f32 y_f32) own h

  pub mul_double : F32 (mul binary32 x y) → mag (mul binary32 x y) * metre ≤ 2 * (mag x * mag y)
  mul_double own =
      le_of_mul-le-mul_right
      (one_metre_less (mag (mul binary32 x y)) (mag x * mag y)
      (subst (λ (w : ℕ). mag (mul binary32 x y) * (metre * metre) ≤ 2 * (w * metre)) (mul_size x_f32 y_f32)
      (rounds_double (mul_rounds x_f32 y_f32) own)))
      metre_pos
    where
      one_metre_less : (z n : ℕ) → z * (metre * metre) ≤ 2 * (n * metre) → z * metre * metre ≤ 2 * n * metre
      one_metre_less z n h = omega arith

  pub div_double : 0 < mag y → F32 (div binary32 x y) → mag (div binary32 x y) * mag y ≤ 2 * (mag x * metre)
  div_double y_pos own =
      subst (λ (w : ℕ). mag (div binary32 x y) * mag y ≤ 2 * (w * metre)) (div_size x_f32 y_f32 y_pos)
      (rounds_double (div_rounds x_f32 y_f32 y_pos) own)
