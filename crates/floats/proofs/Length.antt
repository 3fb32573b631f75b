-- The length of a vector of at most 2^49 m: its rounded squared length, and the root of that; where it is at least
-- 2^-23 m, its square is the exact squared length within a relative 2^-21. Assumes nothing.
use mathlib.Core.Path.{◌≡◌, refl, sym, subst}
use mathlib.Core.Logic.{◌⊎◌, inl, inr}
use Prim.Native.Nat.{ℕ, ◌+◌, ◌-◌, ◌*◌, ◌^◌, ◌≤◌, ◌<◌}
use native.Mathlib.Nat.{mul-le-mul, mul-le-mul_right, le_of_mul-le-mul_right}
use native.Mathlib.Omega.{arith}
use lib.Dec.{T, lit≤}
use lib.Ieee.{Float, binary32, add, mul, lt}
use Rattle.algebra.specs.Integer.{Z, whole, ◌⊞◌, ◌⊟◌, ◌⊠◌, ◌⊛◌, ◌≐◌, ◌≼◌, ◌≺◌, Abs}
use Rattle.algebra.proofs.Booleans.{less_or_not}
use Rattle.algebra.proofs.Magnitude.{abs_sum, abs_scale}
use Rattle.rounding.specs.Value.{metre, F32, mag, val}
use Rattle.rounding.proofs.Value.{metre_is, metre_pos, abs_mag, least_is}
use Rattle.rounding.proofs.Comparison.{lt_val}
use Rattle.rounding.proofs.Exact.{Is}
use Rattle.rounding.proofs.Near.{add_near}
use Rattle.rounding.proofs.Theorem.{relative_results, not_negative_results}
use Rattle.sqrt.specs.Sqrt.{sqrt}
use Rattle.sqrt.proofs.SqrtLaw.{SqrtLaw, sqrt_law, sqrt_zero}
use Rattle.sqrt.proofs.SqrtOrder.{sqrt_low, sqrt_high}
use Rattle.floats.specs.declared.b2_math.B2vec2.{B2vec2}
use Rattle.floats.specs.B2Common.{b2_epsilon}
use Rattle.floats.specs.B2Math.{b2_sqrt, b2_length_squared, b2_length}
use Rattle.floats.proofs.Constants.{epsilon_is}
use Rattle.floats.proofs.Square.{Square, square_is, square, reaches}
use Rattle.floats.proofs.UnitVector.{NearSquare, near_square}

-- ---- vectors of at most 2^49 m: the squared length
pub record Moderate (v : B2vec2) : Type 0 where
  pub x_own : F32 v.x
  pub y_own : F32 v.y
  pub x_low : mag v.x ≤ 2 ^ 49 * metre
  pub y_low : mag v.y ≤ 2 ^ 49 * metre

module _ {v : B2vec2} (h : Moderate v) where
  sx : Float
  sx = mul binary32 v.x v.x

  sy : Float
  sy = mul binary32 v.y v.y

  x_square : Square v.x sx
  unfolding sx
  x_square = square h.x_own h.x_low

  y_square : Square v.y sy
  unfolding sy
  y_square = square h.y_own h.y_low

  pub squared : Float
  squared = b2_length_squared v

  squared_is : squared ≡ add binary32 sx sy
  unfolding squared b2_length_squared sx sy
  squared_is = refl

  sum_abs : Abs (val sx ⊞ val sy) (mag sx + mag sy)
  sum_abs = abs_sum (val sx) (val sy) (mag sx) (mag sy) (abs_mag sx) (abs_mag sy)

  squared_own : F32 squared
  squared_own = rw squared_is
      (add_near 100 (mag sx + mag sy) tt x_square.own y_square.own sum_abs
      (both (mag sx) (mag sy) x_square.size y_square.size)).own
    where
      both : (m n : ℕ) → m ≤ 2 ^ 99 * metre → n ≤ 2 ^ 99 * metre → m + n ≤ 2 ^ 100 * metre
      both m n h g = omega arith

  squared_least : whole 0 ≼ val squared
  squared_least = rw squared_is ((not_negative_results x_square.own y_square.own).sum
      (both (val sx) (val sy) x_square.least y_square.least))
    where
      both : (a b : Z) → whole 0 ≼ a → whole 0 ≼ b → whole 0 ≼ a ⊞ b
      both a b h g = omega arith

  sum_near : Abs (2 ^ 24 ⊛ (whole (mag squared) ⊟ whole (mag sx + mag sy))) (mag sx + mag sy)
  sum_near = exact (val squared) (val sx) (val sy) (mag squared) (mag sx) (mag sy) (least_is squared squared_least)
      (least_is sx x_square.least) (least_is sy y_square.least)
      (rw squared_is ((relative_results x_square.own y_square.own).sum (mag sx + mag sy)
      (rw squared_is at squared_own) sum_abs))
    where
      exact : (s a b : Z) (k m n : ℕ) → s ≐ whole k → a ≐ whole m → b ≐ whole n → Abs (2 ^ 24 ⊛ (s ⊟ (a ⊞ b))) (m + n)
          → Abs (2 ^ 24 ⊛ (whole k ⊟ whole (m + n))) (m + n)
      exact s a b k m n s_is a_is b_is h = omega arith

  squared_high : mag squared ≤ 2 ^ (51 + 51) * metre
  squared_high = room (mag squared) (mag sx) (mag sy) (doubled (mag squared) (mag sx + mag sy) sum_near)
      x_square.size y_square.size
    where
      doubled : (k n : ℕ) → Abs (2 ^ 24 ⊛ (whole k ⊟ whole n)) n → k ≤ 2 * n
      doubled k n h = omega arith

      room : (k m n : ℕ) → k ≤ 2 * (m + n) → m ≤ 2 ^ 99 * metre → n ≤ 2 ^ 99 * metre → k ≤ 2 ^ (51 + 51) * metre
      room k m n h g f = omega arith

  -- ---- the length
  unfoldable pub root : Float
  root = b2_length v

  root_is : root ≡ sqrt binary32 squared
  unfolding root squared b2_length b2_sqrt
  root_is = refl

  module _ (some : 0 < mag squared) where
    squared_pos : whole 0 ≺ val squared
    squared_pos = above (val squared) (mag squared) (least_is squared squared_least) some
      where
        above : (a : Z) (m : ℕ) → a ≐ whole m → 0 < m → whole 0 ≺ a
        above a m e p = omega arith

    pub root_law : SqrtLaw squared root
    root_law = rw root_is (sqrt_law squared_own squared_pos)

    pub root_high : mag root ≤ 2 ^ 51 * metre
    root_high = rw root_is (sqrt_high 51 squared_own squared_pos squared_high)

  -- a squared length of 0 has the root 0
  pub no_root : mag squared ≤ 0 → Is root (whole 0)
  no_root none = rw root_is
      (sqrt_zero squared_own (is_zero (val squared) (mag squared) (least_is squared squared_least) none))
    where
      is_zero : (a : Z) (m : ℕ) → a ≐ whole m → m ≤ 0 → a ≐ whole 0
      is_zero a m e n = omega arith

  pub root_own : F32 root
  root_own = go (less_or_not 0 (mag squared))
    where
      go : (0 < mag squared) ⊎ (mag squared ≤ 0) → F32 root
      go (inl some) = (root_law some).own
      go (inr none) = (no_root none).own

  -- where it is below 2^-23 m, no coordinate is above 1 m
  not_reached : metre ≤ 2 ^ (1 + 1) * mag squared → T (lt root b2_epsilon) → ⊥
  not_reached large short =
      let some : 0 < mag squared = omega (arith, metre_pos, large) in
      let low : metre ≤ 2 ^ 1 * mag root = rw root_is (sqrt_low 1 squared_own (squared_pos some) tt large) in
      never (mag root) (val root) (val b2_epsilon) (root_law some).is low epsilon_is.is
      (lt_val root_own epsilon_is.own short)
    where
      never : (l : ℕ) (r e : Z) → r ≡ whole l → metre ≤ 2 ^ 1 * l → 2 ^ 23 ⊛ e ≐ metre ⊛ whole 1 → r ≺ e → ⊥
      never l r e r_is low e_is h =
          let p = metre_pos in
          let k : whole l ≺ e = rw r_is at h in
          omega arith

  small : (a m n : ℕ) → Abs (2 ^ 24 ⊛ (metre ⊛ whole m ⊟ whole (a * a))) (a * a + 2 ^ 23 * metre)
      → Abs (2 ^ 24 ⊛ (whole (mag squared) ⊟ whole (m + n))) (m + n) → T (lt root b2_epsilon) → a ≤ metre
  small a m n near sum short = go (less_or_not metre a)
    where
      go : (metre < a) ⊎ (a ≤ metre) → a ≤ metre
      go (inl large) = absurd (not_reached (reaches a m n (mag squared) large near sum) short)
      go (inr fine) = fine

  pub short_x : T (lt root b2_epsilon) → mag v.x ≤ metre
  short_x = small (mag v.x) (mag sx) (mag sy) x_square.near sum_near

  pub short_y : T (lt root b2_epsilon) → mag v.y ≤ metre
  short_y = small (mag v.y) (mag sy) (mag sx) y_square.near (swap (mag squared) (mag sx) (mag sy) sum_near)
    where
      swap : (k m n : ℕ) → Abs (2 ^ 24 ⊛ (whole k ⊟ whole (m + n))) (m + n)
          → Abs (2 ^ 24 ⊛ (whole k ⊟ whole (n + m))) (n + m)
      swap k m n h = omega arith

  -- ---- the squared length by value, where the length is at least 2^-23 m
  pub t : ℕ
  t = mag v.x * mag v.x + mag v.y * mag v.y

  pub t_is : val v.x ⊠ val v.x ⊞ val v.y ⊠ val v.y ≐ whole t
  unfolding t
  t_is = go (val v.x ⊠ val v.x) (val v.y ⊠ val v.y) (mag v.x * mag v.x) (mag v.y * mag v.y)
      (square_is v.x) (square_is v.y)
    where
      go : (a b : Z) (m n : ℕ) → a ≐ whole m → b ≐ whole n → a ⊞ b ≐ whole (m + n)
      go a b m n h k = omega arith

  module _ (some : 0 < mag squared) (long : metre ≤ 2 ^ 23 * mag root) where
    -- half a unit is nothing beside the squared length
    large : 2 ^ 30 * metre ≤ mag squared * metre
    large = le_of_mul-le-mul_right
        (go (mag root * mag root) (mag squared * metre) (squares (mag root) (mul-le-mul long long))
        (half (mag root * mag root) (mag squared * metre) (root_law some).law.0) (mul-le-mul_right metre metre_large))
        (lit≤ tt)
      where
        metre_large : 2 ^ 77 ≤ metre
        metre_large = subst (λ (m : ℕ). 2 ^ 77 ≤ m) (sym metre_is) (lit≤ tt)

        squares : (l : ℕ) → metre * metre ≤ 2 ^ 23 * l * (2 ^ 23 * l) → metre * metre ≤ 2 ^ 46 * (l * l)
        squares l h = omega arith

        half : (q r : ℕ) → (2 ^ 24 - 1) * (2 ^ 24 - 1) * q ≤ 2 ^ 48 * r → q ≤ 2 * r
        half q r g = omega arith

        go : (q r : ℕ) → metre * metre ≤ 2 ^ 46 * q → q ≤ 2 * r → 2 ^ 77 * metre ≤ metre * metre
            → 2 ^ 30 * metre * 2 ^ 47 ≤ r * 2 ^ 47
        go q r h g f = omega arith

    pub t_near : NearSquare t (mag root * mag root)
    unfolding t
    t_near = near_square (mag v.x * mag v.x) (mag v.y * mag v.y) (metre * mag sx) (metre * mag sy)
        (mag squared * metre) (mag root * mag root) metre
        (part (mag v.x * mag v.x) (mag sx) x_square.near)
        (part (mag v.y * mag v.y) (mag sy) y_square.near)
        (scaled (mag squared) (mag sx) (mag sy) (abs_scale metre (mag sx + mag sy) _ sum_near)) large
        (root_law some).law
      where
        part : (m s : ℕ) → Abs (2 ^ 24 ⊛ (metre ⊛ whole s ⊟ whole m)) (m + 2 ^ 23 * metre)
            → Abs (2 ^ 24 ⊛ (whole (metre * s) ⊟ whole m)) (m + 2 ^ 23 * metre)
        part m s h = omega arith

        scaled : (k m n : ℕ) → Abs (metre ⊛ (2 ^ 24 ⊛ (whole k ⊟ whole (m + n)))) (metre * (m + n))
            → Abs (2 ^ 24 ⊛ (whole (k * metre) ⊟ whole (metre * m + metre * n))) (metre * m + metre * n)
        scaled k m n h = omega arith
