-- F6: the reciprocal i of a number l between 2^-127 m and 2^126 m is finite, and i l is within a relative 2^-24 of 1:
-- |i l - metre²| ≤ 2 ticks, times a metre. Assumes nothing.
use mathlib.Core.Path.{sym, ap, ◌∙◌}
use Prim.Native.Nat.{ℕ, zero, suc, ◌+◌, ◌*◌, ◌^◌, ◌≤◌, ◌<◌}
use native.Mathlib.Nat.{le_refl, le_trans, le_of_eq, mul_assoc, mul-le-mul_left, mul-le-mul_right, zero-lt-suc}
use native.Mathlib.Omega.{arith}
use lib.Dec.{T, leb, leb→le, lit<}
use lib.Pow.{pow_mono}
use lib.Ieee.{Float, binary32, div}
use Rattle.algebra.specs.Integer.{Z, whole, ◌⊟◌, ◌⊠◌, ◌⊛◌, Abs}
use Rattle.algebra.proofs.Magnitude.{abs_unscale, abs_whole}
use Rattle.rounding.specs.Value.{metre, tick, F32, mag, val}
use Rattle.rounding.specs.Literals.{one32}
use Rattle.rounding.proofs.Value.{metre_is, metre_pos, metre_square}
use Rattle.rounding.proofs.Operations.{product_size}
use Rattle.rounding.proofs.Near.{div_near}
use Rattle.rounding.proofs.Relative.{div_relative}
use Rattle.rounding.proofs.Literals.{one_f32, one_val, one_mag}

pub record Reciprocal (i l : Float) : Type 0 where
  pub own : F32 i
  pub err : Abs (val i ⊠ val l ⊟ whole (metre * metre)) (2 * tick * metre)
  pub size : mag i * mag l ≤ metre * metre + 2 * tick * metre

-- 2^23 l ≤ metre²
normal_range : (l : ℕ) → l ≤ 2 ^ 126 * metre → 2 ^ 23 * l ≤ metre * metre
normal_range l h =
    le_trans (mul-le-mul_left (2 ^ 23) h)
    (le_of_eq (sym (mul_assoc (2 ^ 23) (2 ^ 126) metre) ∙ ap (λ (n : ℕ). n * metre) (sym metre_is)))

above_zero : (p l : ℕ) → metre ≤ p * l → 0 < l
above_zero p zero h = absurd (let m = metre_pos in omega arith)
above_zero p (suc l) h = zero-lt-suc l

-- l from 2^-j m to 2^k m
pub reciprocal : (j k : ℕ) {l : Float} → T (leb j 127) → T (leb k 126) → F32 l → metre ≤ 2 ^ j * mag l
    → mag l ≤ 2 ^ k * metre
    → Reciprocal (div binary32 one32 l) l
reciprocal j k {l} j_low k_low l_f32 low high =
    let i = div binary32 one32 l in
    let l_pos = above_zero (2 ^ j) (mag l) low in
    let own : F32 i = (div_near j j_low one_f32 l_f32 l_pos (rw one_mag low)).own in
    let high' : mag l ≤ 2 ^ 126 * metre = le_trans high (mul-le-mul_right metre (pow_mono (leb→le k 126 k_low))) in
    let relative = div_relative one_f32 l_f32 l_pos own (rw one_mag (normal_range (mag l) high')) in
    let err : Abs (val i ⊠ val l ⊟ whole (metre * metre)) (2 * tick * metre) =
    abs_unscale (2 ^ 24) (2 * tick * metre) (val i ⊠ val l ⊟ whole (metre * metre)) (lit< tt)
    (in_ticks (val i ⊠ val l) (rw (one_val, one_mag) at relative)) in
    record {
      own = own;
      err = err;
      size = product_size i l (metre * metre + 2 * tick * metre)
          (total (val i ⊠ val l) (whole (metre * metre)) (metre * metre) (2 * tick * metre) err
          (abs_whole (metre * metre) (metre * metre) (le_refl (metre * metre))));
    }
  where
    in_ticks : (v : Z) → Abs (2 ^ 24 ⊛ (v ⊟ metre ⊛ whole metre)) (metre * metre)
        → Abs (2 ^ 24 ⊛ (v ⊟ whole (metre * metre))) (2 ^ 24 * (2 * tick * metre))
    in_ticks v h = let e = metre_square in omega arith

    total : (v w : Z) (n e : ℕ) → Abs (v ⊟ w) e → Abs w n → Abs v (n + e)
    total v w n e h k = omega arith
