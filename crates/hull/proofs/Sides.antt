-- Three points and the sides between them: `Left` or `Between` is `Beside` of the vectors, no two sides end in one
-- point nor begin in one, and the end of a side sees all other points in an open half plane. Assumes nothing.
use mathlib.Core.List.{List, [], ◌∷◌}
use mathlib.Core.Logic.{◌⊎◌, inl, inr}
use Prim.Native.Nat.{ℕ, ◌<◌}
use native.Mathlib.Nat.{mul-le-mul_left}
use native.Mathlib.Omega.{arith}
use Rattle.algebra.specs.Integer.{Z, whole, ◌⊞◌, ◌⊟◌, ◌⊠◌, opp, ◌≐◌, ◌≼◌, ◌≺◌}
use Rattle.algebra.specs.Polynomial.{var, neg, ◌:+◌, ◌:-◌, ◌:*◌}
use Rattle.algebra.specs.Plane.{Point, from_to, dot, orient}
use Rattle.algebra.proofs.Signs.{
  positive_above,
  positive_same,
  zero_same,
  lt_same_right,
  difference_negative,
  lt_of_difference_negative,
}
use Rattle.algebra.proofs.Products.{product_zero, mean_below}
use Rattle.algebra.proofs.Ring.{ring}
use Rattle.algebra.proofs.Plane.{
  point₀,
  point₁,
  point₂,
  from_to_expr,
  dot_expr,
  orient_expr,
  coordinates,
  orientation_reversed,
  dot_symmetric,
  orientation_swapped,
}
use Rattle.hull.specs.Hull.{Left, Between}
use Rattle.hull.proofs.Directions.{Beside, flat_lagrange}
use Rattle.algebra.proofs.Plane.{length_not_negative}

-- ---- identities of three points
module _ (p q r : Point) where
  abbrev three : List Z
  three = coordinates (p ∷ q ∷ r ∷ [])

  dot_from_third : dot (from_to r p) (from_to r q) ≐ dot (from_to p r) (from_to p r) ⊟ dot (from_to p q) (from_to p r)
  dot_from_third =
      ring (dot_expr (from_to_expr point₂ point₀) (from_to_expr point₂ point₁))
      (dot_expr (from_to_expr point₀ point₂) (from_to_expr point₀ point₂) :- dot_expr (from_to_expr point₀ point₁)
      (from_to_expr point₀ point₂))
      three tt

  dot_from_end : dot (from_to p q) (from_to p r) ≐ dot (from_to p q) (from_to q r) ⊞ dot (from_to p q) (from_to p q)
  dot_from_end =
      ring (dot_expr (from_to_expr point₀ point₁) (from_to_expr point₀ point₂))
      (dot_expr (from_to_expr point₀ point₁) (from_to_expr point₁ point₂) :+ dot_expr (from_to_expr point₀ point₁)
      (from_to_expr point₀ point₁))
      three tt

  -- the two parts of a side, as seen from its ends
  dots_add_up : dot (from_to p q) (from_to p r) ⊞ dot (from_to r q) (from_to r p) ≐ dot (from_to p r) (from_to p r)
  dots_add_up =
      ring (dot_expr (from_to_expr point₀ point₁) (from_to_expr point₀ point₂) :+ dot_expr
      (from_to_expr point₂ point₁) (from_to_expr point₂ point₀))
      (dot_expr (from_to_expr point₀ point₂) (from_to_expr point₀ point₂)) three tt

  length_either_way : dot (from_to r p) (from_to r p) ≐ dot (from_to p r) (from_to p r)
  length_either_way =
      ring (dot_expr (from_to_expr point₂ point₀) (from_to_expr point₂ point₀))
      (dot_expr (from_to_expr point₀ point₂) (from_to_expr point₀ point₂)) three tt

  -- |r - q|² + 2 (q - p) · (r - p) = |q - p|² + |r - p|²
  third_side : dot (from_to q r) (from_to q r) ⊞ (dot (from_to p q) (from_to p r) ⊞ dot (from_to p q) (from_to p r))
      ≐ dot (from_to p q) (from_to p q) ⊞ dot (from_to p r) (from_to p r)
  third_side =
      ring (dot_expr (from_to_expr point₁ point₂) (from_to_expr point₁ point₂)
      :+ (dot_expr (from_to_expr point₀ point₁) (from_to_expr point₀ point₂) :+ dot_expr (from_to_expr point₀ point₁)
      (from_to_expr point₀ point₂)))
      (dot_expr (from_to_expr point₀ point₁) (from_to_expr point₀ point₁) :+ dot_expr (from_to_expr point₀ point₂)
      (from_to_expr point₀ point₂))
      three tt

-- ---- signs, over numbers that stay shut
not_both_left : (a b : Z) → a ≐ opp b → whole 0 ≺ a → whole 0 ≺ b → ⊥
not_both_left a b e h k = omega arith

not_on_and_left : (a b : Z) → a ≐ opp b → a ≐ whole 0 → whole 0 ≺ b → ⊥
not_on_and_left a b e h k = omega arith

not_left_and_on : (a b : Z) → a ≐ opp b → whole 0 ≺ a → b ≐ whole 0 → ⊥
not_left_and_on a b e h k = omega arith

not_both_beyond : (s t a b : Z) → s ⊞ t ≐ a → b ≐ a → whole 0 ≼ a → a ≺ s → b ≺ t → ⊥
not_both_beyond s t a b e f a_nn h k = omega arith

not_both_shorter : (g s a b : Z) → g ⊞ (s ⊞ s) ≐ a ⊞ b → whole 0 ≼ g → b ≺ s → a ≺ s → ⊥
not_both_shorter g s a b e g_nn h k = omega arith

part_negative : (s t a : Z) → s ≐ t ⊞ a → s ≺ a → t ≺ whole 0
part_negative s t a e h = omega arith

-- ---- strictly left, or between
module _ (p q r : Point) where
  pub words_of_beside : Beside (from_to p q) (from_to p r) → Left p q r ⊎ Between p q r
  words_of_beside (inl h) = inl h
  words_of_beside (inr h) = inr (
    h.0,
    difference_negative (dot (from_to r p) (from_to r q)) (dot (from_to p r) (from_to p r))
        (dot (from_to p q) (from_to p r)) (dot_from_third p q r) h.1,
  )

  pub beside_of_words : Left p q r ⊎ Between p q r → Beside (from_to p q) (from_to p r)
  beside_of_words (inl h) = inl h
  beside_of_words (inr h) = inr (
    h.0,
    lt_of_difference_negative (dot (from_to r p) (from_to r q)) (dot (from_to p r) (from_to p r))
        (dot (from_to p q) (from_to p r))
        (dot_from_third p q r) h.1,
  )

  -- ---- two sides that end in q begin in one point
  pub one_side_in : Beside (from_to p q) (from_to p r) → Beside (from_to r q) (from_to r p) → ⊥
  one_side_in (inl h) (inl k) = not_both_left (orient r q p) (orient p q r) (orientation_swapped p q r) k h
  one_side_in (inl h) (inr k) = not_on_and_left (orient r q p) (orient p q r) (orientation_swapped p q r) k.0 h
  one_side_in (inr h) (inl k) = not_left_and_on (orient r q p) (orient p q r) (orientation_swapped p q r) k h.0
  one_side_in (inr h) (inr k) =
      not_both_beyond (dot (from_to p q) (from_to p r)) (dot (from_to r q) (from_to r p))
      (dot (from_to p r) (from_to p r)) (dot (from_to r p) (from_to r p))
      (dots_add_up p q r) (length_either_way p q r) (length_not_negative (from_to p r)) h.1 k.1

  -- ---- two sides that begin in p end in one point
  pub one_side_out : Beside (from_to p q) (from_to p r) → Beside (from_to p r) (from_to p q) → ⊥
  one_side_out (inl h) (inl k) = not_both_left (orient p q r) (orient p r q) (orientation_reversed p q r) h k
  one_side_out (inl h) (inr k) = not_left_and_on (orient p q r) (orient p r q) (orientation_reversed p q r) h k.0
  one_side_out (inr h) (inl k) = not_on_and_left (orient p q r) (orient p r q) (orientation_reversed p q r) h.0 k
  one_side_out (inr h) (inr k) =
      not_both_shorter (dot (from_to q r) (from_to q r)) (dot (from_to p q) (from_to p r))
      (dot (from_to p q) (from_to p q)) (dot (from_to p r) (from_to p r))
      (third_side p q r) (length_not_negative (from_to q r)) h.1
      (lt_same_right (dot (from_to p q) (from_to p q)) (dot (from_to p r) (from_to p q))
      (dot (from_to p q) (from_to p r))
      (dot_symmetric (from_to p r) (from_to p q)) k.1)

-- ---- an open half plane
-- ahead of a line with normal m, or on that line and against u, is ahead of k m - u for a large k
abbrev pub Ahead : Point → Point → Point → Type 0
Ahead m u z = (whole 0 ≺ dot m z) ⊎ ((dot m z ≐ whole 0) × (dot u z ≺ whole 0))

abbrev pub tilted : ℕ → Point → Point → Point
tilted k m u = record { x = whole k ⊠ m.x ⊟ u.x; y = whole k ⊠ m.y ⊟ u.y }

tilted_dot : (k : ℕ) (m u z : Point) → dot (tilted k m u) z ≐ whole k ⊠ dot m z ⊟ dot u z
tilted_dot k m u z =
    ring ((var 6 :* var 0 :- var 2) :* var 4 :+ (var 6 :* var 1 :- var 3) :* var 5)
    (var 6 :* (var 0 :* var 4 :+ var 1 :* var 5) :- (var 2 :* var 4 :+ var 3 :* var 5))
    (m.x ∷ m.y ∷ u.x ∷ u.y ∷ z.x ∷ z.y ∷ whole k ∷ []) tt

tilted_ahead : (k : ℕ) (n t f : Z) → f ≐ whole k ⊠ n ⊟ t → t.0 < k → whole 0 ≺ n → whole 0 ≺ f
tilted_ahead k n t f e large h = omega (arith, mul-le-mul_left k h)

tilted_against : (k : ℕ) (n t f : Z) → f ≐ whole k ⊠ n ⊟ t → n ≐ whole 0 → t ≺ whole 0 → whole 0 ≺ f
tilted_against k n t f e h g = omega (arith, product_zero n (whole k) h)

pub ahead_positive : (k : ℕ) (m u z : Point) → (dot u z).0 < k → Ahead m u z → whole 0 ≺ dot (tilted k m u) z
ahead_positive k m u z large (inl h) =
    tilted_ahead k (dot m z) (dot u z) (dot (tilted k m u) z) (tilted_dot k m u z) large h
ahead_positive k m u z large (inr h) =
    tilted_against k (dot m z) (dot u z) (dot (tilted k m u) z) (tilted_dot k m u z) h.0 h.1

-- u turned left by a quarter
abbrev pub quarter_left : Point → Point
quarter_left u = record { x = opp u.y; y = u.x }

-- the side's normal measures the orientation, also from its end
orient_normal : (p q r : Point) → orient p q r ≐ dot (quarter_left (from_to p q)) (from_to q r)
orient_normal p q r =
    ring (orient_expr point₀ point₁ point₂)
    (neg (var 3 :- var 1) :* (var 4 :- var 2) :+ (var 2 :- var 0) :* (var 5 :- var 3)) (coordinates (p ∷ q ∷ r ∷ [])) tt

-- the end q of a side from p sees the others ahead of the side's normal, or back along the side
pub side_end_ahead : (p q r : Point) → Beside (from_to p q) (from_to p r)
    → Ahead (quarter_left (from_to p q)) (from_to p q) (from_to q r)
side_end_ahead p q r (inl h) =
    inl (positive_same (orient p q r) (dot (quarter_left (from_to p q)) (from_to q r)) (orient_normal p q r) h)
side_end_ahead p q r (inr h) = inr (
  zero_same (orient p q r) (dot (quarter_left (from_to p q)) (from_to q r)) (orient_normal p q r) h.0,
  part_negative (dot u w) (dot u (from_to q r)) (dot u u) (dot_from_end p q r)
      (mean_below (dot u w) (dot u u) (dot w w) (flat_lagrange u w h.0)
      (positive_above (dot u w) (dot w w) (length_not_negative w) h.1)
      (length_not_negative w) h.1),
)
  where
    u : Point
    u = from_to p q

    w : Point
    w = from_to p r
