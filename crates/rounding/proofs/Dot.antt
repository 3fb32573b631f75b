-- DOT: where both products of a dot product are at most h m², h ≤ 2^k, it is off by at most 4 2^k ticks and at most 2 h
-- m in size: two products by F2(k), capped at h m by F3, and their sum by F2(k + 1). Assumes nothing.
use mathlib.Core.Path.{◌≡◌, sym, ap, ◌∙◌, subst}
use Prim.Native.Nat.{ℕ, ◌+◌, ◌*◌, ◌^◌, ◌≤◌}
use native.Mathlib.Nat.{le_refl, mul_assoc, mul-le-mul_right, mul-le-mul_left}
use native.Mathlib.Omega.{arith}
use lib.Dec.{T, leb, leb→le, le→leb}
use lib.Pow.{pow-add}
use lib.Ieee.{Float, binary32, add, mul}
use Rattle.algebra.specs.Integer.{Z, ◌⊞◌, ◌⊟◌, ◌⊠◌, ◌⊛◌, Abs}
use Rattle.algebra.proofs.Magnitude.{abs_sum, abs_product, abs_widen}
use Rattle.rounding.specs.Value.{metre, tick, F32, val}
use Rattle.rounding.proofs.Near.{product_near, add_near}
use Rattle.rounding.proofs.Caps.{product_cap, add_cap}

abbrev pub dot : Float → Float → Float → Float → Float
dot ax ay bx by = add binary32 (mul binary32 ax bx) (mul binary32 ay by)

pub record DotNear (z : Float) (v : Z) (k h : ℕ) : Type 0 where
  pub own : F32 z
  pub err : Abs (metre ⊛ val z ⊟ v) (4 * 2 ^ k * tick * metre)
  pub cap : Abs (val z) (2 * h * metre)

-- two errors of e, and one of 2 e
total : (e : ℕ) (p q z u v : Z) → Abs (metre ⊛ p ⊟ u) (e * metre) → Abs (metre ⊛ q ⊟ v) (e * metre)
    → Abs (z ⊟ (p ⊞ q)) (2 * e) → Abs (metre ⊛ z ⊟ (u ⊞ v)) (4 * e * metre)
total e p q z u v p_near q_near z_near =
    let over : metre * (z.0 + (p.1 + q.1)) ≤ metre * (z.1 + (p.0 + q.0) + 2 * e) =
    mul-le-mul_left metre z_near.0 in
    let under : metre * (z.1 + (p.0 + q.0)) ≤ metre * (z.0 + (p.1 + q.1) + 2 * e) =
    mul-le-mul_left metre z_near.1 in
    omega arith

module _ (k h : ℕ) {ax ay bx by : Float} (k_low : T (leb (1 + k) 127)) (h_low : T (leb h (2 ^ k)))
    (h_few : T (leb (2 * h) (2 ^ 24)))
    (ax_f32 : F32 ax) (ay_f32 : F32 ay) (bx_f32 : F32 bx) (by_f32 : F32 by) where
  pub products_dot_near : Abs (val ax ⊠ val bx) (h * (metre * metre)) → Abs (val ay ⊠ val by) (h * (metre * metre))
      → DotNear (dot ax ay bx by) (val ax ⊠ val bx ⊞ val ay ⊠ val by) k h
  products_dot_near x_abs y_abs =
      let h_le : h ≤ 2 ^ k = leb→le h (2 ^ k) h_low in
      let scaled : h * (metre * metre) ≤ 2 ^ k * (metre * metre) = mul-le-mul_right (metre * metre) h_le in
      let k_le = le→leb k 127 (below k (leb→le (1 + k) 127 k_low)) in
      let h_le24 = le→leb h (2 ^ 24) (half (2 ^ 24) (leb→le (2 * h) (2 ^ 24) h_few)) in
      let p = product_near k (h * (metre * metre)) k_le ax_f32 bx_f32 x_abs scaled in
      let q = product_near k (h * (metre * metre)) k_le ay_f32 by_f32 y_abs scaled in
      let p_cap = product_cap h h_le24 ax_f32 bx_f32 (h * (metre * metre)) x_abs (le_refl (h * (metre * metre))) in
      let q_cap = product_cap h h_le24 ay_f32 by_f32 (h * (metre * metre)) y_abs (le_refl (h * (metre * metre))) in
      let px = val (mul binary32 ax bx) in
      let py = val (mul binary32 ay by) in
      let sum_abs : Abs (px ⊞ py) (h * metre + h * metre) = abs_sum px py (h * metre) (h * metre) p_cap.cap
      q_cap.cap in
      let z = add_near (1 + k) (h * metre + h * metre) k_low p.own q.own sum_abs
      (doubled (2 ^ k) (2 ^ (1 + k)) h_le (pow-add 2 1 k)) in
      let z_cap = add_cap (2 * h) h_few p.own q.own (h * metre + h * metre) sum_abs (twice h) in
      record {
        own = z.own;
        err = subst (λ (e : ℕ). Abs (metre ⊛ val (dot ax ay bx by) ⊟ (val ax ⊠ val bx ⊞ val ay ⊠ val by)) (e * metre))
            (sym (mul_assoc 4 (2 ^ k) tick))
            (total (2 ^ k * tick) px py (val (dot ax ay bx by)) (val ax ⊠ val bx) (val ay ⊠ val by) p.err q.err
            (subst (λ (e : ℕ). Abs (val (dot ax ay bx by) ⊟ (px ⊞ py)) e) (ticks (2 ^ k) (2 ^ (1 + k)) (pow-add 2 1 k))
            z.err));
        cap = z_cap.cap;
      }
    where
      below : (k : ℕ) → 1 + k ≤ 127 → k ≤ 127
      below k h = omega arith

      half : (n : ℕ) → 2 * h ≤ n → h ≤ n
      half n l = omega arith

      twice : (h : ℕ) → h * metre + h * metre ≤ 2 * h * metre
      twice h = omega arith

      doubled : (p q : ℕ) → h ≤ p → q ≡ 2 * p → h * metre + h * metre ≤ q * metre
      doubled p q l e =
          let m : h * metre ≤ p * metre = mul-le-mul_right metre l in
          let f : q * metre ≡ 2 * p * metre = ap (λ (n : ℕ). n * metre) e in
          omega arith

      ticks : (p q : ℕ) → q ≡ 2 * p → q * tick ≡ 2 * (p * tick)
      ticks p q e = ap (λ (n : ℕ). n * tick) e ∙ mul_assoc 2 p tick

  -- components of at most m and n units
  pub dot_near : (m n : ℕ) → Abs (val ax) m → Abs (val ay) m → Abs (val bx) n → Abs (val by) n
      → m * n ≤ h * (metre * metre)
      → DotNear (dot ax ay bx by) (val ax ⊠ val bx ⊞ val ay ⊠ val by) k h
  dot_near m n ax_abs ay_abs bx_abs by_abs mn_low =
      products_dot_near
      (abs_widen (val ax ⊠ val bx) (m * n) (h * (metre * metre)) (abs_product (val ax) (val bx) m n ax_abs bx_abs)
      mn_low)
      (abs_widen (val ay ⊠ val by) (m * n) (h * (metre * metre)) (abs_product (val ay) (val by) m n ay_abs by_abs)
      mn_low)
