-- Sizes, |a| ≤ n: the triangle inequality by an identity, products, perturbed products, scaling and cancelling a
-- natural factor; and the sign and the size of any number. Assumes nothing.
use mathlib.Core.Path.{◌≡◌, ap}
use mathlib.Core.Bool.{Bool, true, false}
use Prim.Native.Nat.{ℕ, ◌+◌, ◌-◌, ◌*◌, ◌≤◌, ◌<◌}
use native.Mathlib.Nat.{le_refl, le_trans, le_of_eq, mul-add, mul-le-mul_left, mul-le-mul_right, le_of_mul-le-mul_right}
use native.Mathlib.Decide.{dec_le}
use native.Mathlib.Omega.{arith}
use Rattle.algebra.specs.Integer.{Z, whole, signed, ◌⊞◌, ◌⊟◌, ◌⊠◌, opp, ◌⊛◌, ◌≐◌, Abs}

-- ---- |a| ≤ n
pub abs_widen : (a : Z) (m n : ℕ) → Abs a m → m ≤ n → Abs a n
abs_widen a m n h m≤n = omega arith

pub abs_opposite : (a : Z) (n : ℕ) → Abs a n → Abs (opp a) n
abs_opposite a n h = (h.1, h.0)

pub abs_same : (a b : Z) (n : ℕ) → a ≐ b → Abs a n → Abs b n
abs_same a b n e h = omega arith

pub abs_whole : (m n : ℕ) → m ≤ n → Abs (whole m) n
abs_whole m n h = omega arith

pub abs_sum : (a b : Z) (m n : ℕ) → Abs a m → Abs b n → Abs (a ⊞ b) (m + n)
abs_sum a b m n h k = omega arith

pub abs_difference : (a b : Z) (m n : ℕ) → Abs a m → Abs b n → Abs (a ⊟ b) (m + n)
abs_difference a b m n h k = omega arith

-- the triangle inequality, where c is shown to be the sum
pub abs_sum_is : (c a b : Z) (m n bound : ℕ) → c ≐ a ⊞ b → Abs a m → Abs b n → m + n ≤ bound → Abs c bound
abs_sum_is c a b m n bound e ha hb fits = omega arith

pub abs_sum3_is : (d a b c : Z) (l m n bound : ℕ) → d ≐ a ⊞ b ⊞ c → Abs a l → Abs b m → Abs c n → l + m + n ≤ bound
    → Abs d bound
abs_sum3_is d a b c l m n bound e ha hb hc fits = omega arith

-- ---- a natural factor
pub abs_scale : (k n : ℕ) (a : Z) → Abs a n → Abs (k ⊛ a) (k * n)
abs_scale k n a h = (
  le_trans (mul-le-mul_left k h.0) (le_of_eq (mul-add k a.1 n)),
  le_trans (mul-le-mul_left k h.1) (le_of_eq (mul-add k a.0 n)),
)

pub abs_unscale : (k n : ℕ) (a : Z) → 0 < k → Abs (k ⊛ a) (k * n) → Abs a n
abs_unscale k n a k_pos h = (le_of_mul-le-mul_right (omega arith) k_pos, le_of_mul-le-mul_right (omega arith) k_pos)

-- ---- products
-- a = u above 0
abs_product_up : (a b : Z) (m n u : ℕ) → a.0 ≡ a.1 + u → u ≤ m → Abs b n → Abs (a ⊠ b) (m * n)
abs_product_up a b m n u e u≤m hb =
    let up : u * b.0 ≤ u * (b.1 + n) = mul-le-mul_left u hb.0 in
    let down : u * b.1 ≤ u * (b.0 + n) = mul-le-mul_left u hb.1 in
    let widen : u * n ≤ m * n = mul-le-mul_right n u≤m in
    let e0 : a.0 * b.0 ≡ (a.1 + u) * b.0 = ap (λ (x : ℕ). x * b.0) e in
    let e1 : a.0 * b.1 ≡ (a.1 + u) * b.1 = ap (λ (x : ℕ). x * b.1) e in
    omega arith

opposite_product : (a b : Z) (n : ℕ) → Abs (opp a ⊠ b) n → Abs (a ⊠ b) n
opposite_product a b n h = omega arith

pub abs_product : (a b : Z) (m n : ℕ) → Abs a m → Abs b n → Abs (a ⊠ b) (m * n)
abs_product a b m n ha hb = elim (dec_le a.1 a.0) [
  | yes up ↦ abs_product_up a b m n (a.0 - a.1) (omega arith) (omega arith) hb
  | no down ↦ opposite_product a b (m * n) (abs_product_up (opp a) b m n (a.1 - a.0) (omega arith) (omega arith) hb)
]

-- a b - c d = (a - c)(b - d) + c (b - d) + (a - c) d
product_difference : (a b c d : Z) → a ⊠ b ⊟ c ⊠ d ≐ (a ⊟ c) ⊠ (b ⊟ d) ⊞ c ⊠ (b ⊟ d) ⊞ (a ⊟ c) ⊠ d
product_difference a b c d = omega arith

-- factors off by at most m and n from c and d, which are at most k and l
pub abs_product_near : (a b c d : Z) (m n k l : ℕ) → Abs (a ⊟ c) m → Abs (b ⊟ d) n → Abs c k → Abs d l
    → Abs (a ⊠ b ⊟ c ⊠ d) (m * n + k * n + m * l)
abs_product_near a b c d m n k l a_near b_near hc hd =
    abs_sum3_is (a ⊠ b ⊟ c ⊠ d) ((a ⊟ c) ⊠ (b ⊟ d)) (c ⊠ (b ⊟ d)) ((a ⊟ c) ⊠ d) (m * n) (k * n) (m * l)
    (m * n + k * n + m * l)
    (product_difference a b c d)
    (abs_product (a ⊟ c) (b ⊟ d) m n a_near b_near) (abs_product c (b ⊟ d) k n hc b_near)
    (abs_product (a ⊟ c) d m l a_near hd)
    (le_refl (m * n + k * n + m * l))

-- ---- signed numbers
pub abs_signed : (s : Bool) (m n : ℕ) → m ≤ n → Abs (signed s m) n
abs_signed true m n h = omega arith
abs_signed false m n h = omega arith

pub signed_abs : (s : Bool) (m n : ℕ) → Abs (signed s m) n → m ≤ n
signed_abs true m n h = omega arith
signed_abs false m n h = omega arith

-- every number has a sign and a size
pub record Sized (a : Z) : Type 0 where
  pub negative : Bool
  pub size : ℕ
  pub is : signed negative size ≐ a

pub sized : (a : Z) → Sized a
sized a = elim (dec_le a.1 a.0) [
  | yes up ↦ record { negative = false; size = a.0 - a.1; is = omega arith }
  | no down ↦ record { negative = true; size = a.1 - a.0; is = omega arith }
]

pub sized_abs : (a : Z) (n : ℕ) (s : Sized a) → Abs a n → s.size ≤ n
sized_abs a n s h = signed_abs s.negative s.size n (of (signed s.negative s.size) s.is)
  where
    of : (b : Z) → b ≐ a → Abs b n
    of b e = omega arith
