-- F3 against whole metres: an exact result of at most h m in size, for a whole h ≤ 2^24, gives a finite result of at
-- most h m. One law for every rounding, then sums, products and quotients. Assumes nothing.
use mathlib.Core.Path.{sym, ap, subst}
use Prim.Native.Nat.{ℕ, ◌*◌, ◌^◌, ◌≤◌, ◌<◌}
use native.Mathlib.Nat.{le_trans, le_of_eq, lt_of_le_of_lt, mul-one}
use lib.Dec.{T, leb, leb→le, lit≤}
use lib.Pow.{pow_pos}
use lib.Ieee.{Float, binary32, neg, add, sub, mul, div}
use Rattle.algebra.specs.Integer.{Z, ◌⊞◌, ◌⊟◌, ◌⊠◌, Abs}
use Rattle.algebra.proofs.Magnitude.{abs_product, abs_widen, abs_opposite}
use lib.Ieee.Scale.{overflow}
use Rattle.rounding.specs.Value.{metre, F32, sign, mag, val}
use Rattle.rounding.proofs.Value.{metre_is, abs_mag, neg_f32, val_neg}
use Rattle.rounding.proofs.Rounding.{rounded}
use Rattle.rounding.proofs.Operations.{Rounds, abs_turned, add_rounds, sub_rounds, mul_rounds, div_rounds}
use Rattle.rounding.proofs.Rounds.{rounds_f32, rounds_mag, size_le}
use Rattle.rounding.proofs.Order.{rounded_mono}
use Rattle.rounding.proofs.Dyadic.{rounded_dyadic, dyadic_finite}

-- z is at most h m in size
pub record Capped (z : Float) (h : ℕ) : Type 0 where
  pub own : F32 z
  pub cap : Abs (val z) (h * metre)

rounds_cap : (h n : ℕ) {z : Float} {num : Z} {den : ℕ} → T (leb h (2 ^ 24)) → Rounds z num den → Abs num n
    → n ≤ h * den → Capped z h
rounds_cap h n {z} {num} {den} h_low r num_abs n_low =
    let h_le = leb→le h (2 ^ 24) h_low in
    let is_h = rounded_dyadic h 0 h_le (lit≤ tt) in
    let high = dyadic_finite h 0 h_le in
    let le : rounded r.size den ≤ h * 2 ^ 149 =
    le_trans (rounded_mono r.size den h (2 ^ 0) r.den_pos (pow_pos 0)
    (le_trans (le_of_eq (mul-one r.size)) (le_trans (size_le r n num_abs) n_low))
    (subst (λ (g : ℕ). g < overflow binary32) (sym is_h) high)) (le_of_eq is_h) in
    let own = rounds_f32 r (lt_of_le_of_lt le high) in
    record {
      own = own;
      cap = abs_widen (val z) (mag z) (h * metre) (abs_mag z)
          (rw (rounds_mag r own) (le_trans le (le_of_eq (ap (λ (m : ℕ). h * m) (sym metre_is)))));
    }

-- ---- negated
pub neg_cap : {x : Float} {h : ℕ} → Capped x h → Capped (neg x) h
neg_cap {x} {h} x_cap = record {
  own = neg_f32 x_cap.own;
  cap = rw (val_neg x) (abs_opposite (val x) (h * metre) x_cap.cap);
}

-- ---- the operations
module _ (h : ℕ) {x y : Float} (h_low : T (leb h (2 ^ 24))) (x_f32 : F32 x) (y_f32 : F32 y) where
  pub add_cap : (n : ℕ) → Abs (val x ⊞ val y) n → n ≤ h * metre → Capped (add binary32 x y) h
  add_cap n = rounds_cap h n h_low (add_rounds x_f32 y_f32)

  pub sub_cap : (n : ℕ) → Abs (val x ⊟ val y) n → n ≤ h * metre → Capped (sub binary32 x y) h
  sub_cap n = rounds_cap h n h_low (sub_rounds x_f32 y_f32)

  pub product_cap : (n : ℕ) → Abs (val x ⊠ val y) n → n ≤ h * (metre * metre) → Capped (mul binary32 x y) h
  product_cap n = rounds_cap h n h_low (mul_rounds x_f32 y_f32)

  pub mul_cap : (m n : ℕ) → Abs (val x) m → Abs (val y) n → m * n ≤ h * (metre * metre) → Capped (mul binary32 x y) h
  mul_cap m n x_abs y_abs = rounds_cap h (m * n) h_low (mul_rounds x_f32 y_f32)
      (abs_product (val x) (val y) m n x_abs y_abs)

  pub div_cap : 0 < mag y → mag x ≤ h * mag y → Capped (div binary32 x y) h
  div_cap y_pos = rounds_cap h (mag x) h_low (div_rounds x_f32 y_f32 y_pos)
      (abs_turned (sign y) (val x) (mag x) (abs_mag x))
