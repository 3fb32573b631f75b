-- Finite numbers of at most 2^k m in size: sums, differences, products and vectors of them. Assumes nothing.
use Prim.Native.Nat.{ℕ, suc, ◌+◌, ◌*◌, ◌^◌, ◌≤◌, ◌<◌}
use mathlib.Core.Path.{◌≡◌, refl, sym, ap, ◌∙◌, subst}
use native.Mathlib.Nat.{le_trans, le_of_eq, lt_of_le_of_lt, mul-le-mul, mul-one, one-mul, mul_assoc, mul-mul-mul_comm}
use native.Mathlib.Nat.{pow-succ'}
use native.Mathlib.Omega.{arith}
use lib.Dec.{T, leb, leb→le, lit<}
use lib.Pow.{pow-add, pow_mono}
use lib.Ieee.{Float, binary32, neg, add, sub, mul}
use lib.Ieee.Scale.{overflow}
use Rattle.algebra.specs.Integer.{Z, Abs}
use Rattle.algebra.proofs.Magnitude.{abs_sum, abs_difference, abs_product}
use Rattle.rounding.specs.Value.{metre, F32, mag, val}
use Rattle.rounding.proofs.Value.{metre_is, metre_power, abs_mag, mag_neg, neg_f32}
use Rattle.rounding.proofs.Rounding.{rounded, rounded_exact}
use Rattle.rounding.proofs.Operations.{Rounds, add_rounds, sub_rounds, mul_rounds}
use Rattle.rounding.proofs.Rounds.{rounds_f32, rounds_mag, size_le}
use Rattle.rounding.proofs.Order.{rounded_mono}

pub record Cap (x : Float) (k : ℕ) : Type 0 where
  pub own : F32 x
  pub size : mag x ≤ 2 ^ k * metre

-- 2^k is a number of the format
power_there : (k : ℕ) → rounded (2 ^ k) 1 ≡ 2 ^ k * metre
power_there k =
    rounded_exact (2 ^ k) 1 1 (k + 149) (omega arith) (lit< tt)
    (ap (λ (m : ℕ). 2 ^ k * m) (sym metre_is) ∙ sym (metre_power k) ∙ sym (one-mul (2 ^ (k + 149)))
    ∙ sym (mul-one (1 * 2 ^ (k + 149))))
    ∙ one-mul (2 ^ (k + 149)) ∙ metre_power k

power_finite : (k : ℕ) → k ≤ 100 → 2 ^ k * metre < overflow binary32
power_finite k low =
    rw (← metre_power k) (lt_of_le_of_lt (pow_mono {i = k + 149} {j = 249} (omega arith)) (lit< tt))

pub rounds_cap : (k n : ℕ) {z : Float} {num : Z} {den : ℕ} → T (leb k 100) → Rounds z num den → Abs num n
    → n ≤ 2 ^ k * den → Cap z k
rounds_cap k n {z} {num} {den} k_low r num_abs n_low =
    let high = power_finite k (leb→le k 100 k_low) in
    let is_power = power_there k in
    let below : rounded r.size den ≤ 2 ^ k * metre =
    le_trans (rounded_mono r.size den (2 ^ k) 1 r.den_pos (omega arith)
    (le_trans (le_of_eq (mul-one r.size)) (le_trans (size_le r n num_abs) n_low))
    (subst (λ (g : ℕ). g < overflow binary32) (sym is_power) high)) (le_of_eq is_power) in
    let own = rounds_f32 r (lt_of_le_of_lt below high) in
    record { own = own; size = rw (rounds_mag r own) below }

pub cap_widen : {x : Float} (j k : ℕ) → T (leb j k) → Cap x j → Cap x k
cap_widen j k wider h = record {
  own = h.own;
  size = le_trans h.size (mul-le-mul (pow_mono {i = j} {j = k} (leb→le j k wider)) (le_of_eq refl));
}

pub cap_neg : {x : Float} (k : ℕ) → Cap x k → Cap (neg x) k
cap_neg {x} k h = record { own = neg_f32 h.own; size = rw (mag_neg x) h.size }

twice : (k m n : ℕ) → m ≤ 2 ^ k * metre → n ≤ 2 ^ k * metre → m + n ≤ 2 ^ suc k * metre
twice k m n first second =
    let double : 2 ^ suc k * metre ≡ 2 * (2 ^ k * metre) =
    ap (λ (p : ℕ). p * metre) (pow-succ' 2 k) ∙ mul_assoc 2 (2 ^ k) metre in
    omega arith

module _ {x y : Float} where
  pub cap_add : (k : ℕ) → T (leb (suc k) 100) → Cap x k → Cap y k → Cap (add binary32 x y) (suc k)
  cap_add k low h g =
      rounds_cap (suc k) (mag x + mag y) low (add_rounds h.own g.own)
      (abs_sum (val x) (val y) (mag x) (mag y) (abs_mag x) (abs_mag y)) (twice k (mag x) (mag y) h.size g.size)

  pub cap_sub : (k : ℕ) → T (leb (suc k) 100) → Cap x k → Cap y k → Cap (sub binary32 x y) (suc k)
  cap_sub k low h g =
      rounds_cap (suc k) (mag x + mag y) low (sub_rounds h.own g.own)
      (abs_difference (val x) (val y) (mag x) (mag y) (abs_mag x) (abs_mag y))
      (twice k (mag x) (mag y) h.size g.size)

  pub cap_mul : (j k : ℕ) → T (leb (j + k) 100) → Cap x j → Cap y k → Cap (mul binary32 x y) (j + k)
  cap_mul j k low h g =
      rounds_cap (j + k) (mag x * mag y) low (mul_rounds h.own g.own)
      (abs_product (val x) (val y) (mag x) (mag y) (abs_mag x) (abs_mag y))
      (le_trans (mul-le-mul h.size g.size)
      (le_of_eq (mul-mul-mul_comm (2 ^ j) metre (2 ^ k) metre
      ∙ ap (λ (n : ℕ). n * (metre * metre)) (sym (pow-add 2 j k)))))
