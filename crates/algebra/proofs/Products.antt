-- Signs of products: a product of numbers above 0 is above 0, a factor above 0 can be cancelled, squares are not
-- negative, a square bounds its root's size, and products respect `≐`. Assumes nothing.
use mathlib.Core.Path.{◌≡◌, refl, ap}
use Prim.Native.Nat.{ℕ, suc, ◌+◌, ◌-◌, ◌*◌, ◌≤◌, ◌<◌}
use native.Mathlib.Nat.{le_of_lt, lt_of_le_of_lt, not-le_of_lt, mul-le-mul_left, mul-lt-mul_of_pos_right}
use native.Mathlib.Decide.{dec_le, dec_lt}
use native.Mathlib.Omega.{arith}
use Rattle.algebra.specs.Integer.{Z, whole, ◌⊞◌, ◌⊟◌, ◌⊠◌, opp, ◌≐◌, ◌≼◌, ◌≺◌, Abs}

-- ---- from the signs of the factors
-- (b - a)(d - c) with b = a + k and d = c + l
parts_not_negative : (a b c d k l : ℕ) → b ≡ a + k → d ≡ c + l → b * c + a * d ≤ b * d + a * c
parts_not_negative a b c d k l e f = rw (e, f) (omega arith)

parts_positive : (a b c d k l : ℕ) → b ≡ suc a + k → d ≡ suc c + l → b * c + a * d < b * d + a * c
parts_positive a b c d k l e f = rw (e, f) (omega arith)

pub product_not_negative : (a b : Z) → whole 0 ≼ a → whole 0 ≼ b → whole 0 ≼ a ⊠ b
product_not_negative a b ha hb =
    let m = parts_not_negative a.1 a.0 b.1 b.0 (a.0 - a.1) (b.0 - b.1) (omega arith) (omega arith) in
    omega arith

pub product_positive : (a b : Z) → whole 0 ≺ a → whole 0 ≺ b → whole 0 ≺ a ⊠ b
product_positive a b ha hb =
    let m = parts_positive a.1 a.0 b.1 b.0 (a.0 - suc a.1) (b.0 - suc b.1) (omega arith)
    (omega arith) in
    omega arith

zero_part : (a b c d : ℕ) → a ≡ b → a * c + b * d ≡ a * d + b * c
zero_part a b c d e = rw e (omega arith)

pub product_zero : (a b : Z) → a ≐ whole 0 → a ⊠ b ≐ whole 0
product_zero a b h = let m = zero_part a.0 a.1 b.0 b.1 (omega arith) in omega arith

pub product_same : (a b c d : Z) → a ≐ b → c ≐ d → a ⊠ c ≐ b ⊠ d
product_same a b c d h k =
    let left = product_zero (a ⊟ b) c (omega arith) in
    let right = product_zero (c ⊟ d) b (omega arith) in
    omega arith

-- ---- back to a factor
pub factor_positive : (a b : Z) → whole 0 ≼ a → whole 0 ≺ a ⊠ b → whole 0 ≺ b
factor_positive a b ha h =
    elim (dec_lt b.1 b.0) [
      | yes above ↦ omega arith
      | no below ↦ omega (arith, product_not_negative a (opp b) ha (omega arith))
    ]

factor_not_negative : (a b : Z) → whole 0 ≺ a → whole 0 ≼ a ⊠ b → whole 0 ≼ b
factor_not_negative a b ha h =
    elim (dec_le b.1 b.0) [
      | yes above ↦ omega arith
      | no below ↦ omega (arith, product_positive a (opp b) ha (omega arith))
    ]

pub factor_zero : (a b : Z) → whole 0 ≺ a → a ⊠ b ≐ whole 0 → b ≐ whole 0
factor_zero a b ha h =
    let up = factor_not_negative a b ha (omega arith) in
    let down = factor_not_negative a (opp b) ha (omega arith) in
    omega arith

-- ---- squares
pub square_not_negative : (a : Z) → whole 0 ≼ a ⊠ a
square_not_negative a = elim (dec_le a.1 a.0) [
  | yes above ↦ product_not_negative a a (omega arith) (omega arith)
  | no below ↦ omega (arith, product_not_negative (opp a) (opp a) (omega arith) (omega arith))
]

pub square_zero : (a : Z) → a ⊠ a ≼ whole 0 → a ≐ whole 0
square_zero a h = elim (dec_lt a.1 a.0) [
  | yes above ↦ omega (arith, product_positive a a (omega arith) (omega arith))
  | no not_above ↦ elim (dec_lt a.0 a.1) [
    | yes below ↦ omega (arith, product_positive (opp a) (opp a) (omega arith) (omega arith))
    | no not_below ↦ omega arith
  ]
]

pub root_le : (m n : ℕ) → m * m ≤ n * n → m ≤ n
root_le m n h = elim (dec_le m n) [
  | yes le ↦ le
  | no gt ↦ let n<m : n < m = omega arith in
      absurd (not-le_of_lt (lt_of_le_of_lt (mul-le-mul_left n (le_of_lt n<m))
      (mul-lt-mul_of_pos_right n<m (omega arith))) h)
]

root_parts : (a b n u : ℕ) → a ≡ b + u → a * a + b * b ≤ n * n + (a * b + b * a) → u * u ≤ n * n
root_parts a b n u e h =
    let aa : a * a ≡ (b + u) * (b + u) = ap (λ (x : ℕ). x * x) e in
    let ab : a * b ≡ (b + u) * b = ap (λ (x : ℕ). x * b) e in
    omega arith

-- a a ≤ n n: |a| ≤ n
pub abs_of_square : (a : Z) (n : ℕ) → a ⊠ a ≼ whole (n * n) → Abs a n
abs_of_square a n h = elim (dec_le a.1 a.0) [
  | yes above ↦ let u≤n = root_le (a.0 - a.1) n (root_parts a.0 a.1 n (a.0 - a.1) (omega arith)
      (omega arith)) in omega arith
  | no below ↦ let u≤n = root_le (a.1 - a.0) n (root_parts a.1 a.0 n (a.1 - a.0) (omega arith)
      (omega arith)) in omega arith
]

-- ---- the geometric mean: s s = a b, with s above 0 and b not below 0, lies between a and b
module _ (s a b : Z) (mean : s ⊠ s ≐ a ⊠ b) (s_pos : whole 0 ≺ s) (b_nn : whole 0 ≼ b) where
  pub mean_above : b ≺ a → b ≺ s
  mean_above h = elim (dec_lt (b.0 + s.1) (s.0 + b.1)) [
    | yes above ↦ above
    | no not_above ↦
        let m = product_not_negative (b ⊟ s) s (omega arith) (omega arith) in
        let n = product_not_negative (b ⊟ s) b (omega arith) (omega arith) in
        omega (arith, product_positive b (a ⊟ b) (omega arith) (omega arith))
  ]

  larger_positive : whole 0 ≺ a
  larger_positive = factor_positive b a b_nn (omega (arith, product_positive s s s_pos s_pos))

  pub mean_below : b ≺ s → s ≺ a
  mean_below h = elim (dec_lt (s.0 + a.1) (a.0 + s.1)) [
    | yes below ↦ below
    | no not_below ↦
        let a_pos = larger_positive in
        let m = product_not_negative s (s ⊟ a) (omega arith) (omega arith) in
        omega (arith, product_positive a (s ⊟ b) a_pos (omega arith))
  ]

  pub mean_equal : a ≐ b → s ≐ a
  mean_equal h =
      let a_pos = larger_positive in
      let same : a ⊠ b ≐ a ⊠ a = product_same a a b a refl (omega arith) in
      let m = factor_zero (s ⊞ a) (s ⊟ a) (omega arith) (omega arith) in
      omega arith
