-- F8: a quotient of 0 ≤ x ≤ y, y above 0, or of y ≤ x ≤ 0, y below 0, is finite and in [0, 1]. Assumes nothing.
use mathlib.Core.Logic.{◌⊎◌, inl, inr}
use Prim.Native.Nat.{ℕ, ◌<◌}
use native.Mathlib.Nat.{mul-le-mul_left}
use native.Mathlib.Omega.{arith}
use mathlib.Core.Bool.{Bool, true, false}
use lib.Ieee.{Float, binary32, div}
use Rattle.algebra.specs.Integer.{Z, whole, signed, ◌⊛◌, ◌≼◌, ◌≺◌}
use Rattle.rounding.specs.Value.{metre, F32, sign, mag, val}
use Rattle.rounding.specs.Literals.{zero32, one32}
use Rattle.rounding.proofs.Value.{val_signed}
use Rattle.rounding.proofs.Operations.{turned, div_rounds}
use Rattle.rounding.proofs.Bounds.{rounds_below, rounds_above, rounds_finite}
use Rattle.rounding.proofs.Literals.{zero_f32, zero_val, one_f32, one_val}

-- z is in [0, 1]
pub record InUnit (z : Float) : Type 0 where
  pub own : F32 z
  pub low : whole 0 ≼ val z
  pub top : val z ≼ whole metre

-- a is from 0 to b, and b is not 0
abbrev pub Between : Z → Z → Type 0
Between a b = ((whole 0 ≼ a) × ((a ≼ b) × (whole 0 ≺ b))) ⊎ ((a ≼ whole 0) × ((b ≼ a) × (b ≺ whole 0)))

-- in the divisor's sign: 0 ≤ a ≤ n, 0 < n
record Fraction (s : Bool) (n : ℕ) (a : Z) : Type 0 where
  not_zero : 0 < n
  not_negative : whole 0 ≼ turned s a
  at_most : turned s a ≼ whole n

fraction : (s : Bool) (n : ℕ) (a : Z) → Between a (signed s n) → Fraction s n a
fraction false n a (inl h) = let p = h.1.1 in record {
  not_zero = omega arith;
  not_negative = h.0;
  at_most = h.1.0;
}
fraction false n a (inr h) = absurd (let p = h.1.1 in omega arith)
fraction true n a (inl h) = absurd (let p = h.1.1 in omega arith)
fraction true n a (inr h) =
    let low = h.0 in
    let high = h.1.0 in
    let p = h.1.1 in
    record { not_zero = omega arith; not_negative = omega arith; at_most = omega arith }

pub div_in_unit : {x y : Float} → F32 x → F32 y → Between (val x) (val y) → InUnit (div binary32 x y)
div_in_unit {x} {y} x_f32 y_f32 between =
    let f = fraction (sign y) (mag y) (val x) (rw (val_signed y) at between) in
    let rounds = div_rounds x_f32 y_f32 f.not_zero in
    let v = turned (sign y) (val x) in
    let above : mag y ⊛ val zero32 ≼ metre ⊛ v = rw zero_val (scaled_low (mag y) v f.not_negative) in
    let below : metre ⊛ v ≼ mag y ⊛ val one32 = rw one_val (scaled_high (mag y) v f.at_most) in
    let own = rounds_finite rounds zero_f32 one_f32 above below in
    record {
      own = own;
      low = rw zero_val at (rounds_above rounds zero_f32 own above);
      top = rw one_val at (rounds_below rounds one_f32 own below);
    }
  where
    scaled_low : (n : ℕ) (a : Z) → whole 0 ≼ a → n ⊛ whole 0 ≼ metre ⊛ a
    scaled_low n a h = let m = mul-le-mul_left metre h in omega arith

    scaled_high : (n : ℕ) (a : Z) → a ≼ whole n → metre ⊛ a ≼ n ⊛ whole metre
    scaled_high n a h = let m = mul-le-mul_left metre h in omega arith
