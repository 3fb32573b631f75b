-- F2, the absolute rounding law: an exact result of at most 2^k m gives a finite result that is at most 2^k ticks
-- away, subnormal results included. One law for every rounding, then sum, difference, product and quotient; and the
-- sizes of results. Assumes nothing.
use Prim.Native.Nat.{ℕ, ◌+◌, ◌*◌, ◌^◌, ◌≤◌, ◌<◌}
use native.Mathlib.Nat.{le_trans, mul_assoc}
use native.Mathlib.Omega.{arith}
use lib.Dec.{T, leb, leb→le}
use lib.Ieee.{Float, binary32, add, sub, mul, div}
use Rattle.algebra.specs.Integer.{Z, ◌⊞◌, ◌⊟◌, ◌⊠◌, ◌⊛◌, Abs}
use Rattle.algebra.proofs.Magnitude.{abs_unscale, abs_product}
use Rattle.rounding.specs.Value.{metre, tick, F32, sign, mag, val}
use Rattle.rounding.proofs.Value.{metre_pos, abs_mag}
use Rattle.rounding.proofs.Error.{rounded_low, rounded_absolute}
use Rattle.rounding.proofs.Operations.{Rounds, abs_turned, add_rounds, sub_rounds, mul_rounds, div_rounds}
use Rattle.rounding.proofs.Rounds.{rounds_f32, rounds_error, size_le, sum_error, product_error, quotient_error}

-- z is v, at most e away
pub record Near (z : Float) (v : Z) (e : ℕ) : Type 0 where
  pub own : F32 z
  pub err : Abs (val z ⊟ v) e

-- z is v metres squared, at most e away
pub record NearProduct (z : Float) (v : Z) (e : ℕ) : Type 0 where
  pub own : F32 z
  pub err : Abs (metre ⊛ val z ⊟ v) (e * metre)

-- z is x over y, at most e away
pub record NearQuotient (z x y : Float) (e : ℕ) : Type 0 where
  pub own : F32 z
  pub err : Abs (val z ⊠ val y ⊟ metre ⊛ val x) (e * mag y)

-- ---- one rounding
rounds_near_f32 : (k n : ℕ) {z : Float} {num : Z} {den : ℕ} → T (leb k 127) → Rounds z num den → Abs num n
    → n ≤ 2 ^ k * den → F32 z
rounds_near_f32 k n {den = den} k_low r num_abs n_low =
    rounds_f32 r (rounded_low r.size den k r.den_pos (leb→le k 127 k_low) (le_trans (size_le r n num_abs) n_low))

rounds_near : (k n : ℕ) {z : Float} {num : Z} {den : ℕ} → T (leb k 127) → Rounds z num den → Abs num n
    → n ≤ 2 ^ k * den
    → Abs (1 ⊛ (den ⊛ val z ⊟ metre ⊛ num)) (2 ^ k * tick * den)
rounds_near k n {den = den} k_low r num_abs n_low =
    let h = rounded_absolute r.size den k r.den_pos (le_trans (size_le r n num_abs) n_low) in
    rounds_error r (rounds_near_f32 k n k_low r num_abs n_low) 1 (2 ^ k * tick * den) (omega arith)

once : (a : Z) (e : ℕ) → Abs (1 ⊛ a) e → Abs a e
once a e h = omega arith

-- ---- the operations
sum_near : (k n : ℕ) {z : Float} {v : Z} → T (leb k 127) → Rounds z v metre → Abs v n → n ≤ 2 ^ k * metre
    → Near z v (2 ^ k * tick)
sum_near k n {z} {v} k_low r v_abs n_low = record {
  own = rounds_near_f32 k n k_low r v_abs n_low;
  err = once (val z ⊟ v) (2 ^ k * tick) (sum_error 1 (2 ^ k * tick) (val z) v (rounds_near k n k_low r v_abs n_low));
}

pub add_near : (k n : ℕ) {x y : Float} → T (leb k 127) → F32 x → F32 y → Abs (val x ⊞ val y) n → n ≤ 2 ^ k * metre
    → Near (add binary32 x y) (val x ⊞ val y) (2 ^ k * tick)
add_near k n k_low x_f32 y_f32 = sum_near k n k_low (add_rounds x_f32 y_f32)

pub sub_near : (k n : ℕ) {x y : Float} → T (leb k 127) → F32 x → F32 y → Abs (val x ⊟ val y) n → n ≤ 2 ^ k * metre
    → Near (sub binary32 x y) (val x ⊟ val y) (2 ^ k * tick)
sub_near k n k_low x_f32 y_f32 = sum_near k n k_low (sub_rounds x_f32 y_f32)

pub product_near : (k n : ℕ) {x y : Float} → T (leb k 127) → F32 x → F32 y → Abs (val x ⊠ val y) n
    → n ≤ 2 ^ k * (metre * metre)
    → NearProduct (mul binary32 x y) (val x ⊠ val y) (2 ^ k * tick)
product_near k n {x} {y} k_low x_f32 y_f32 v_abs n_low =
    let r = mul_rounds x_f32 y_f32 in
    let z = val (mul binary32 x y) in
    record {
      own = rounds_near_f32 k n k_low r v_abs n_low;
      err = once (metre ⊛ z ⊟ val x ⊠ val y) (2 ^ k * tick * metre)
          (product_error 1 (2 ^ k * tick * metre) z (val x ⊠ val y)
          (rw (mul_assoc (2 ^ k * tick) metre metre) (rounds_near k n k_low r v_abs n_low)));
    }

-- |x| ≤ m and |y| ≤ n, both in units
pub mul_near : (k m n : ℕ) {x y : Float} → T (leb k 127) → F32 x → F32 y → Abs (val x) m → Abs (val y) n
    → m * n ≤ 2 ^ k * (metre * metre)
    → NearProduct (mul binary32 x y) (val x ⊠ val y) (2 ^ k * tick)
mul_near k m n {x} {y} k_low x_f32 y_f32 x_abs y_abs =
    product_near k (m * n) k_low x_f32 y_f32 (abs_product (val x) (val y) m n x_abs y_abs)

-- |x| ≤ 2^k |y|
pub div_near : (k : ℕ) {x y : Float} → T (leb k 127) → F32 x → F32 y → 0 < mag y → mag x ≤ 2 ^ k * mag y
    → NearQuotient (div binary32 x y) x y (2 ^ k * tick)
div_near k {x} {y} k_low x_f32 y_f32 y_pos x_low =
    let r = div_rounds x_f32 y_f32 y_pos in
    let z = val (div binary32 x y) in
    let v_abs = abs_turned (sign y) (val x) (mag x) (abs_mag x) in
    record {
      own = rounds_near_f32 k (mag x) k_low r v_abs x_low;
      err = once (z ⊠ val y ⊟ metre ⊛ val x) (2 ^ k * tick * mag y)
          (quotient_error 1 (2 ^ k * tick * mag y) z (val x) y (rounds_near k (mag x) k_low r v_abs x_low));
    }

-- ---- sizes of results
pub near_size : {z : Float} {v : Z} {e : ℕ} (n : ℕ) → Near z v e → Abs v n → Abs (val z) (n + e)
near_size n z_near v_abs = let h = z_near.err in omega arith

pub near_product_size : {z : Float} {v : Z} {e : ℕ} (n : ℕ) → NearProduct z v e → Abs v (n * metre)
    → Abs (val z) (n + e)
near_product_size {z} {v} {e} n z_near v_abs =
    abs_unscale metre (n + e) (val z) metre_pos (let h = z_near.err in omega arith)
