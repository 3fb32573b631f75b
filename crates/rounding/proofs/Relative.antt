-- The relative laws: an error of at most 2^-24 of the exact result. Sums and differences have it always, a subnormal
-- one being exact; products and quotients in the normal range, from 2^-126 m on, and else with half a unit, 2^-150 m,
-- more. Assumes nothing.
use mathlib.Core.Path.{◌≡◌, sym, ap, ◌∙◌}
use Prim.Native.Nat.{ℕ, ◌+◌, ◌*◌, ◌^◌, ◌≤◌, ◌<◌}
use native.Mathlib.Nat.{le_trans, le_of_eq, lt_trans, lt_of_not-le, mul-one, mul_assoc, mul-le-mul_right, mul-pos}
use native.Mathlib.Decide.{dec_le}
use native.Mathlib.Omega.{arith}
use lib.Dec.{lit<}
use lib.Ieee.{Float, binary32, add, sub, mul, div}
use Rattle.algebra.specs.Integer.{Z, ◌⊞◌, ◌⊟◌, ◌⊠◌, ◌⊛◌, Abs}
use Rattle.algebra.proofs.Magnitude.{abs_widen}
use Rattle.rounding.specs.Value.{metre, F32, mag, val}
use Rattle.rounding.proofs.Value.{metre_is, metre_pos}
use Rattle.rounding.proofs.Rounding.{rounded, rounded_exact}
use Rattle.rounding.proofs.Error.{Apart, rounded_mixed, rounded_relative}
use Rattle.rounding.proofs.Operations.{Rounds, add_rounds, sub_rounds, mul_rounds, div_rounds}
use Rattle.rounding.proofs.Rounds.{rounds_error, size_le, mul_size, div_size, sum_error, product_error}
use Rattle.rounding.proofs.Rounds.{quotient_error}

-- ---- sums
-- a sum below 2^23 units is exact
sum_apart : (w : ℕ) → Apart (2 ^ 24 * (rounded w metre * metre)) (2 ^ 24 * (w * metre)) (w * metre)
sum_apart w = elim (dec_le (2 ^ 23) w) [
  | yes normal ↦ rounded_relative w metre metre_pos (mul-le-mul_right metre normal)
  | no small ↦
      let e : rounded w metre ≡ w * 2 ^ 0 =
      rounded_exact w metre w 0 metre_pos (lt_trans (lt_of_not-le small) (lit< tt)) (units w) in
      same (rounded w metre) (e ∙ mul-one w)
]
  where
    units : (w : ℕ) → w * 2 ^ 149 ≡ w * 2 ^ 0 * metre
    units w = ap (λ (n : ℕ). w * n) (sym metre_is) ∙ ap (λ (n : ℕ). n * metre) (sym (mul-one w))

    same : (g : ℕ) → g ≡ w → Apart (2 ^ 24 * (g * metre)) (2 ^ 24 * (w * metre)) (w * metre)
    same g e = rw e (omega arith)

sum_relative : {z : Float} {v : Z} (n : ℕ) → Rounds z v metre → F32 z → Abs v n → Abs (2 ^ 24 ⊛ (val z ⊟ v)) n
sum_relative {z} {v} n r z_f32 v_abs =
    abs_widen (2 ^ 24 ⊛ (val z ⊟ v)) r.size n
    (sum_error (2 ^ 24) r.size (val z) v (rounds_error r z_f32 (2 ^ 24) (r.size * metre) (sum_apart r.size)))
    (size_le r n v_abs)

square_pos : 0 < metre * metre
square_pos = mul-pos metre_pos metre_pos

module _ {x y : Float} (x_f32 : F32 x) (y_f32 : F32 y) where
  pub add_relative : (n : ℕ) → F32 (add binary32 x y) → Abs (val x ⊞ val y) n
      → Abs (2 ^ 24 ⊛ (val (add binary32 x y) ⊟ (val x ⊞ val y))) n
  add_relative n own h = sum_relative n (add_rounds x_f32 y_f32) own h

  pub sub_relative : (n : ℕ) → F32 (sub binary32 x y) → Abs (val x ⊟ val y) n
      → Abs (2 ^ 24 ⊛ (val (sub binary32 x y) ⊟ (val x ⊟ val y))) n
  sub_relative n own h = sum_relative n (sub_rounds x_f32 y_f32) own h

  -- ---- products
  pub mul_relative : F32 (mul binary32 x y) → 2 ^ 23 * metre ≤ mag x * mag y
      → Abs (2 ^ 24 ⊛ (metre ⊛ val (mul binary32 x y) ⊟ val x ⊠ val y)) (mag x * mag y)
  mul_relative own normal =
      let n = mag x * mag y in
      product_error (2 ^ 24) n (val (mul binary32 x y)) (val x ⊠ val y)
      (rounds_error (mul_rounds x_f32 y_f32) own (2 ^ 24) (n * metre)
      (rw (mul_size x_f32 y_f32) (rounded_relative n (metre * metre) square_pos
      (le_trans (le_of_eq (sym (mul_assoc (2 ^ 23) metre metre))) (mul-le-mul_right metre normal)))))

  pub mul_mixed : F32 (mul binary32 x y)
      → Abs (2 ^ 24 ⊛ (metre ⊛ val (mul binary32 x y) ⊟ val x ⊠ val y)) (mag x * mag y + 2 ^ 23 * metre)
  mul_mixed own =
      let n = mag x * mag y in
      product_error (2 ^ 24) (n + 2 ^ 23 * metre) (val (mul binary32 x y)) (val x ⊠ val y)
      (rounds_error (mul_rounds x_f32 y_f32) own (2 ^ 24) ((n + 2 ^ 23 * metre) * metre)
      (rw (mul_size x_f32 y_f32) (rw (fold n) (rounded_mixed n (metre * metre) square_pos))))
    where
      fold : (n : ℕ) → (n + 2 ^ 23 * metre) * metre ≡ n * metre + 2 ^ 23 * (metre * metre)
      fold n = omega arith

  -- ---- quotients
  module _ (y_pos : 0 < mag y) (own : F32 (div binary32 x y)) where
    pub div_relative : 2 ^ 23 * mag y ≤ mag x * metre
        → Abs (2 ^ 24 ⊛ (val (div binary32 x y) ⊠ val y ⊟ metre ⊛ val x)) (mag x * metre)
    div_relative normal =
        quotient_error (2 ^ 24) (mag x * metre) (val (div binary32 x y)) (val x) y
        (rounds_error (div_rounds x_f32 y_f32 y_pos) own (2 ^ 24) (mag x * metre)
        (rw (div_size x_f32 y_f32 y_pos) (rounded_relative (mag x) (mag y) y_pos normal)))

    pub div_mixed : Abs (2 ^ 24 ⊛ (val (div binary32 x y) ⊠ val y ⊟ metre ⊛ val x)) (mag x * metre + 2 ^ 23 * mag y)
    div_mixed =
        quotient_error (2 ^ 24) (mag x * metre + 2 ^ 23 * mag y) (val (div binary32 x y)) (val x) y
        (rounds_error (div_rounds x_f32 y_f32 y_pos) own (2 ^ 24) (mag x * metre + 2 ^ 23 * mag y)
        (rw (div_size x_f32 y_f32 y_pos) (rounded_mixed (mag x) (mag y) y_pos)))
