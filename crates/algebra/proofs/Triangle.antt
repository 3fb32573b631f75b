-- The triangle inequality, by squares: vectors of length at most r and t have a dot product of at most r t in size
-- (Cauchy and Schwarz, from Lagrange's identity), and a difference of length at most r + t. Assumes nothing.
use Prim.Native.Nat.{ℕ, ◌+◌, ◌*◌}
use native.Mathlib.Omega.{arith}
use Rattle.algebra.specs.Integer.{Z, whole, ◌⊞◌, ◌⊟◌, ◌⊠◌, ◌⊛◌, ◌≐◌, ◌≼◌, Abs}
use Rattle.algebra.specs.Plane.{Point, times, from_to, dot, cross}
use Rattle.algebra.proofs.Products.{product_not_negative, square_not_negative, abs_of_square}
use Rattle.algebra.proofs.Plane.{lagrange, length_not_negative}

-- s s + c c = a b with a ≤ x and b ≤ y: s s ≤ x y
square_bound : (s c a b x y : Z) → s ⊠ s ⊞ c ⊠ c ≐ a ⊠ b → whole 0 ≼ b → whole 0 ≼ x → a ≼ x → b ≼ y
    → s ⊠ s ≼ x ⊠ y
square_bound s c a b x y e b_nn x_nn ax by =
    let sq = square_not_negative c in
    let p = product_not_negative (x ⊟ a) b (omega arith) b_nn in
    let q = product_not_negative x (y ⊟ b) x_nn (omega arith) in
    omega arith

square_whole : (s : Z) (r t : ℕ) → s ⊠ s ≼ whole (r * r) ⊠ whole (t * t) → s ⊠ s ≼ whole ((r * t) * (r * t))
square_whole s r t h = omega arith

pub cauchy : (u w : Point) (r t : ℕ) → dot u u ≼ whole (r * r) → dot w w ≼ whole (t * t) → Abs (dot u w) (r * t)
cauchy u w r t hu hw =
    abs_of_square (dot u w) (r * t)
    (square_whole (dot u w) r t
    (square_bound (dot u w) (cross u w) (dot u u) (dot w w) (whole (r * r)) (whole (t * t)) (lagrange u w)
    (length_not_negative w) (omega arith) hu hw))

difference_square : (u w : Point) → dot (from_to w u) (from_to w u) ≐ dot u u ⊞ dot w w ⊟ 2 ⊛ dot u w
difference_square u w = omega arith

pub triangle : (u w : Point) (r t : ℕ) → dot u u ≼ whole (r * r) → dot w w ≼ whole (t * t)
    → dot (from_to w u) (from_to w u) ≼ whole ((r + t) * (r + t))
triangle u w r t hu hw =
    joined (dot (from_to w u) (from_to w u)) (dot u u) (dot w w) (dot u w) (difference_square u w) hu hw
    (cauchy u w r t hu hw)
  where
    joined : (e uu ww uw : Z) → e ≐ uu ⊞ ww ⊟ 2 ⊛ uw → uu ≼ whole (r * r) → ww ≼ whole (t * t) → Abs uw (r * t)
        → e ≼ whole ((r + t) * (r + t))
    joined e uu ww uw is hu hw h = omega arith

-- the square of a multiple
pub dot_times : (n : ℕ) (v : Point) → dot (times n v) (times n v) ≐ (n * n) ⊛ dot v v
dot_times n v = omega arith
