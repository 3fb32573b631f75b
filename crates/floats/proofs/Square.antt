-- The rounded square of a number of at most 2^49 m: within a relative 2^-24 and half a unit of the exact one. Assumes
-- nothing.
use mathlib.Core.Path.{◌≡◌, refl, sym, ap, subst}
use mathlib.Core.Bool.{Bool, true, false}
use Prim.Native.Nat.{ℕ, ◌+◌, ◌*◌, ◌^◌, ◌≤◌, ◌<◌}
use native.Mathlib.Nat.{le_trans, le_of_lt, mul-le-mul, mul-le-mul_left, le_of_mul-le-mul_right}
use native.Mathlib.Omega.{arith}
use lib.Dec.{lit≤}
use lib.Ieee.{Float, binary32, mul}
use Rattle.algebra.specs.Integer.{Z, whole, signed, ◌⊟◌, ◌⊠◌, ◌⊛◌, ◌≐◌, ◌≼◌, Abs}
use Rattle.algebra.proofs.Products.{square_not_negative}
use Rattle.rounding.specs.Value.{metre, F32, sign, mag, val}
use Rattle.rounding.proofs.Value.{metre_is, metre_pos, val_signed, abs_mag, least_is}
use Rattle.rounding.proofs.Near.{mul_near}
use Rattle.rounding.proofs.Theorem.{relative_results, doubled_results, not_negative_results}

signed_square : (s : Bool) (m : ℕ) → signed s m ⊠ signed s m ≐ whole (m * m)
signed_square true m = omega arith
signed_square false m = omega arith

pub square_is : (x : Float) → val x ⊠ val x ≐ whole (mag x * mag x)
square_is x = rw (val_signed x) (signed_square (sign x) (mag x))

-- s is x x, rounded: within a relative 2^-24 and half a unit
pub record Square (x s : Float) : Type 0 where
  pub own : F32 s
  pub least : whole 0 ≼ val s
  pub near : Abs (2 ^ 24 ⊛ (metre ⊛ whole (mag s) ⊟ whole (mag x * mag x))) (mag x * mag x + 2 ^ 23 * metre)
  pub size : mag s ≤ 2 ^ 99 * metre

pub square : {x : Float} → F32 x → mag x ≤ 2 ^ 49 * metre → Square x (mul binary32 x x)
square {x} own low =
    let s = mul binary32 x x in
    let squares : mag x * mag x ≤ 2 ^ 98 * (metre * metre) = room (mag x) (mul-le-mul low low) in
    let s_own : F32 s = (mul_near 98 (mag x) (mag x) tt own own (abs_mag x) (abs_mag x) squares).own in
    let least = (not_negative_results own own).product (square_not_negative (val x)) in
    record {
      own = s_own;
      least = least;
      near = exact (val s) (mag s) (val x ⊠ val x) (mag x * mag x) (least_is s least) (square_is x)
          ((relative_results own own).product_mixed s_own);
      size = le_of_mul-le-mul_right
          (le_trans ((doubled_results own own).product s_own) (twice (mag x * mag x) squares))
          metre_pos;
    }
  where
    room : (m : ℕ) → m * m ≤ 2 ^ 49 * metre * (2 ^ 49 * metre) → m * m ≤ 2 ^ 98 * (metre * metre)
    room m h = omega arith

    twice : (m : ℕ) → m ≤ 2 ^ 98 * (metre * metre) → 2 * m ≤ 2 ^ 99 * metre * metre
    twice m h = omega arith

    exact : (v : Z) (n : ℕ) (w : Z) (m : ℕ) → v ≐ whole n → w ≐ whole m
        → Abs (2 ^ 24 ⊛ (metre ⊛ v ⊟ w)) (m + 2 ^ 23 * metre)
        → Abs (2 ^ 24 ⊛ (metre ⊛ whole n ⊟ whole m)) (m + 2 ^ 23 * metre)
    exact v n w m v_is w_is h =
        let e : metre * (v.0 + 0) ≡ metre * (n + v.1) = ap (λ (k : ℕ). metre * k) v_is in
        omega arith

-- a coordinate a above 1 m gives a squared length k of at least 1/4 m²; m is its square rounded, n the other one
pub reaches : (a m n k : ℕ) → metre < a → Abs (2 ^ 24 ⊛ (metre ⊛ whole m ⊟ whole (a * a))) (a * a + 2 ^ 23 * metre)
    → Abs (2 ^ 24 ⊛ (whole k ⊟ whole (m + n))) (m + n) → metre ≤ 2 ^ (1 + 1) * k
reaches a m n k large near sum =
    last (le_of_mul-le-mul_right
    (go (a * a) (metre * m) (mul-le-mul (le_of_lt large) (le_of_lt large)) (part near) refl
    (mul-le-mul_left metre (half sum))) metre_pos)
    (subst (λ (u : ℕ). 4 ≤ u) (sym metre_is) (lit≤ tt))
  where
    half : Abs (2 ^ 24 ⊛ (whole k ⊟ whole (m + n))) (m + n) → 2 * m ≤ 3 * k
    half h = omega arith

    part : Abs (2 ^ 24 ⊛ (metre ⊛ whole m ⊟ whole (a * a))) (a * a + 2 ^ 23 * metre) → a * a ≤ 2 * (metre * m) + metre
    part h = omega arith

    go : (e p : ℕ) → metre * metre ≤ e → e ≤ 2 * p + metre → p ≡ metre * m → metre * (2 * m) ≤ metre * (3 * k)
        → metre * metre ≤ (3 * k + 1) * metre
    go e p h g is f = omega arith

    last : metre ≤ 3 * k + 1 → 4 ≤ metre → metre ≤ 2 ^ (1 + 1) * k
    last h g = omega arith
