-- Each headline law applied to closed numbers, 0, 1/2, 1 and -1: the hypotheses of none are vacuous. Assumes nothing.
use mathlib.Core.Path.{refl, sym}
use mathlib.Core.Logic.{inl}
use Prim.Native.Nat.{ℕ, ◌+◌, ◌*◌, ◌^◌, ◌≤◌}
use native.Mathlib.Nat.{le_trans, le_of_eq, one-mul, mul-le-mul_right}
use native.Mathlib.Omega.{arith}
use lib.Dec.{T, lit≤}
use lib.Ieee.{binary32, neg, add, mul, div, lt}
use Rattle.algebra.specs.Integer.{whole, ◌⊞◌, ◌⊟◌, ◌⊠◌, ◌⊛◌, ◌≐◌, ◌≼◌, ◌≺◌, Abs}
use Rattle.rounding.specs.Value.{metre, tick, val}
use Rattle.rounding.specs.Literals.{zero32, half32, one32}
use Rattle.rounding.proofs.Value.{metre_pos, val_neg, neg_f32}
use Rattle.rounding.proofs.Comparison.{val_lt, not_lt_val, val_not_lt}
use Rattle.rounding.proofs.Near.{Near, near_size, near_product_size}
use Rattle.rounding.proofs.Exact.{Is}
use Rattle.rounding.proofs.Dyadic.{Dyadic, exact_add}
use Rattle.rounding.proofs.Literals.{zero_f32, zero_val, half_dyadic, half_f32, half_val, one_f32, one_val}
use Rattle.rounding.proofs.Literals.{one_mag}
use Rattle.rounding.proofs.UnitFactors.{minus_one_mul_exact, zero_mul_exact}
use Rattle.rounding.proofs.Sign.{Opposite}
use Rattle.rounding.proofs.Quotient.{InUnit}
use Rattle.rounding.proofs.Reciprocal.{Reciprocal}
use Rattle.rounding.proofs.Dot.{dot, DotNear, dot_near}
use Rattle.rounding.proofs.Theorem.{exact_results, near_results, relative_results, ordered_results}
use Rattle.rounding.proofs.Theorem.{rising_results, doubled_results, not_negative_results}
use Rattle.rounding.proofs.Theorem.{reciprocal_near, product_negative, quotient_in_unit, dot_near_5}
use Rattle.rounding.proofs.Theorem.{dot_near_7}

-- ---- values
halves : val half32 ⊞ val half32 ≐ val one32
halves = rw one_val (let h = half_val in omega arith)

one_abs : Abs (val one32) metre
one_abs = rw one_val (omega arith)

pub half_low : val half32 ≼ val one32
half_low = rw one_val (let h = half_val in omega arith)

pub half_pos : whole 0 ≺ val half32
half_pos = let h = half_val in let m = metre_pos in omega arith

pub one_pos : whole 0 ≺ val one32
one_pos = rw one_val (let m = metre_pos in omega arith)

halves_abs : Abs (val half32 ⊞ val half32) metre
halves_abs = let h = half_val in omega arith

-- ---- F1
half_sum : Is (add binary32 half32 half32) (val half32 ⊞ val half32)
half_sum = (exact_results half_f32 half_f32 one_f32).sum halves

half_sum_dyadic : Dyadic (add binary32 half32 half32) (whole 1 ⊞ whole 1) 1
half_sum_dyadic = exact_add 1 tt half_dyadic half_dyadic (omega arith)

-- ---- F2 and the relative law
half_sum_near : Near (add binary32 half32 half32) (val half32 ⊞ val half32) (2 ^ 0 * tick)
half_sum_near = (near_results 0 tt half_f32 half_f32).sum metre halves_abs (le_of_eq (sym (one-mul metre)))

-- so at most 1 m and a tick
half_sum_size : Abs (val (add binary32 half32 half32)) (metre + 2 ^ 0 * tick)
half_sum_size = near_size metre half_sum_near halves_abs

one_product_size : Abs (val (mul binary32 one32 one32)) (metre + 2 ^ 0 * tick)
one_product_size =
    near_product_size metre ((near_results 0 tt one_f32 one_f32).product metre metre one_abs one_abs (omega arith))
    (rw one_val (omega arith))

half_sum_relative : Abs (2 ^ 24 ⊛ (val (add binary32 half32 half32) ⊟ (val half32 ⊞ val half32))) metre
half_sum_relative = (relative_results half_f32 half_f32).sum metre half_sum.own halves_abs

-- ---- F3
half_sum_below : val (add binary32 half32 half32) ≼ val one32
half_sum_below = (ordered_results half_f32 half_f32 one_f32).sum_below half_sum.own (let h = halves in omega arith)

half_sum_rises : val (add binary32 half32 half32) ≼ val (add binary32 half32 one32)
half_sum_rises =
    (rising_results half_f32 half_f32 half_f32 one_f32).sum half_sum.own
    ((near_results 1 tt half_f32 one_f32).sum (2 * metre) (let h = half_val in rw one_val (omega arith))
    (omega arith)).own
    (let h = half_low in omega arith)

-- ---- F4
half_sum_double : Abs (val (add binary32 half32 half32)) (2 * metre)
half_sum_double = (doubled_results half_f32 half_f32).sum metre half_sum.own halves_abs

-- ---- F6
reciprocal_of_one : Reciprocal (div binary32 one32 one32) one32
reciprocal_of_one =
    reciprocal_near 8 4 tt tt one_f32 (rw one_mag (at_least (2 ^ 8) (lit≤ tt)))
    (rw one_mag (at_least (2 ^ 4) (lit≤ tt)))
  where
    at_least : (n : ℕ) → 1 ≤ n → metre ≤ n * metre
    at_least n h = le_trans (le_of_eq (sym (one-mul metre))) (mul-le-mul_right metre h)

-- ---- F7
minus_one_product : Opposite (val (neg one32)) (val one32)
minus_one_product =
    product_negative (neg_f32 one_f32) one_f32
    (let z = (minus_one_mul_exact (neg_f32 one_f32) one_f32
    (rw (val_neg one32, one_val) refl)).is in let p = one_pos in omega arith)

half_sum_least : whole 0 ≼ val (add binary32 half32 half32)
half_sum_least = (not_negative_results half_f32 half_f32).sum (let p = half_pos in omega arith)

-- times 0
zero_times_one : Is (mul binary32 zero32 one32) (whole 0)
zero_times_one = zero_mul_exact zero_f32 one_f32 (rw zero_val (omega arith))

-- ---- F8
half_quotient : InUnit (div binary32 half32 one32)
half_quotient = quotient_in_unit half_f32 one_f32 (inl (let p = half_pos in omega arith, (half_low, one_pos)))

-- ---- DOT
one_product_abs : (h : ℕ) → 1 ≤ h → Abs (val one32 ⊠ val one32) (h * (metre * metre))
one_product_abs h h_pos = rw one_val (let m : 1 * (metre * metre) ≤ h * (metre * metre) = mul-le-mul_right
    (metre * metre) h_pos in omega arith)

ones_dot_5 : DotNear (dot one32 one32 one32 one32) (val one32 ⊠ val one32 ⊞ val one32 ⊠ val one32) 5 32
ones_dot_5 = dot_near_5 one_f32 one_f32 one_f32 one_f32 (one_product_abs 32 (lit≤ tt)) (one_product_abs 32 (lit≤ tt))

ones_dot_7 : DotNear (dot one32 one32 one32 one32) (val one32 ⊠ val one32 ⊞ val one32 ⊠ val one32) 7 128
ones_dot_7 = dot_near_7 one_f32 one_f32 one_f32 one_f32 (one_product_abs 128 (lit≤ tt)) (one_product_abs 128 (lit≤ tt))

-- by the sizes of the coordinates
ones_dot : DotNear (dot one32 one32 one32 one32) (val one32 ⊠ val one32 ⊞ val one32 ⊠ val one32) 0 1
ones_dot =
    dot_near 0 1 tt tt tt one_f32 one_f32 one_f32 one_f32 metre metre one_abs one_abs one_abs one_abs (omega arith)

-- ---- comparisons
one_not_lt_half : val half32 ≼ val one32
one_not_lt_half = not_lt_val one_f32 half_f32 (val_not_lt one_f32 half_f32 half_low)

half_lt_one : T (lt half32 one32)
half_lt_one = val_lt half_f32 one_f32 (rw one_val (let h = half_val in let m = metre_pos in omega arith))
