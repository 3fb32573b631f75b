-- A row of two sides, there and back, is a list on one line; and on one line no side follows another, but back.
-- Assumes nothing.
use mathlib.Core.Path.{◌≡◌, sym, subst}
use mathlib.Core.List.{List, [], ◌∷◌, Memᴰ}
use mathlib.Core.Logic.{◌⊎◌, inl, inr}
use native.Mathlib.Omega.{arith}
use Rattle.algebra.specs.Integer.{Z, whole, ◌⊞◌, ◌⊟◌, opp, ◌≐◌, ◌≼◌, ◌≺◌}
use Rattle.algebra.specs.Polynomial.{◌:+◌, ◌:-◌}
use Rattle.algebra.specs.Plane.{Point, from_to, cross, dot, orient}
use Rattle.algebra.proofs.Signs.{positive_weaken, zero_weaken, not_zero_positive, zero_of_opposite, difference_zero}
use Rattle.algebra.proofs.Ring.{ring}
use Rattle.algebra.proofs.Plane.{
  point₀,
  point₁,
  point₂,
  point₃,
  from_to_expr,
  cross_expr,
  dot_expr,
  coordinates,
  three_crosses,
  cross_antisymmetric,
  orientation_back,
  orient_begin,
  orient_end,
}
use Rattle.hull.specs.Hull.{Left, Between, OnLine}
use Rattle.hull.proofs.Directions.{Beside, weighed_zero}
use Rattle.algebra.proofs.Plane.{length_not_negative}
use Rattle.hull.proofs.Sides.{beside_of_words}
use Rattle.hull.proofs.Corners.{Corner, Side, side_long}

-- ---- no point lies right of a side
not_right : (s : List Point) (p q r : Point) → Side s p q → Memᴰ r s → whole 0 ≼ orient p q r
not_right s p q r side r_in = go (side.edge r r_in)
  where
    go : (r ≡ p) ⊎ ((r ≡ q) ⊎ (Left p q r ⊎ Between p q r)) → whole 0 ≼ orient p q r
    go (inl e) = subst (λ (a : Point). whole 0 ≼ orient p q a) (sym e) (zero_weaken (orient p q p) (orient_begin p q))
    go (inr (inl e)) =
        subst (λ (a : Point). whole 0 ≼ orient p q a) (sym e) (zero_weaken (orient p q q) (orient_end p q))
    go (inr (inr (inl h))) = positive_weaken (orient p q r) h
    go (inr (inr (inr h))) = zero_weaken (orient p q r) h.0

-- ---- there and back
squeezed : (a b : Z) → a ≐ opp b → whole 0 ≼ a → whole 0 ≼ b → b ≐ whole 0
squeezed a b e h k = omega arith

cross_shift : (p u a b : Point) → cross u (from_to a b) ≐ cross u (from_to p b) ⊟ cross u (from_to p a)
cross_shift p u a b =
    ring (cross_expr point₁ (from_to_expr point₂ point₃))
    (cross_expr point₁ (from_to_expr point₀ point₃) :- cross_expr point₁ (from_to_expr point₀ point₂))
    (coordinates (p ∷ u ∷ a ∷ b ∷ [])) tt

-- three points on the line through p along u
on_one_line : (p u a b c : Point) → whole 0 ≺ dot u u → cross u (from_to p a) ≐ whole 0
    → cross u (from_to p b) ≐ whole 0 → cross u (from_to p c) ≐ whole 0
    → orient a b c ≐ whole 0
on_one_line p u a b c u_long a_on b_on c_on =
    weighed_zero (dot u (from_to a b)) (dot u u) (dot u (from_to a c)) (cross (from_to a b) u) (orient a b c)
    (cross u (from_to a c))
    (three_crosses u (from_to a b) u (from_to a c)) u_long
    (zero_of_opposite (cross u (from_to a b)) (cross (from_to a b) u) (cross_antisymmetric u (from_to a b))
    (along a b a_on b_on))
    (along a c a_on c_on)
  where
    along : (a b : Point) → cross u (from_to p a) ≐ whole 0 → cross u (from_to p b) ≐ whole 0
        → cross u (from_to a b) ≐ whole 0
    along a b h k =
        difference_zero (cross u (from_to a b)) (cross u (from_to p b)) (cross u (from_to p a))
        (cross_shift p u a b) k h

pub there_and_back : (s : List Point) (p q : Point) → Corner s p → Side s p q → Side s q p → OnLine s
there_and_back s p q corner there back a b c a_in b_in c_in =
    on_one_line p (from_to p q) a b c (side_long s p q corner there) (on a a_in) (on b b_in) (on c c_in)
  where
    on : (r : Point) → Memᴰ r s → orient p q r ≐ whole 0
    on r r_in =
        squeezed (orient q p r) (orient p q r) (orientation_back p q r) (not_right s q p r back r_in)
        (not_right s p q r there r_in)

-- ---- on one line, no side after a side but the way back
dots_around : (p q r : Point) → dot (from_to q r) (from_to q p) ⊞ dot (from_to p q) (from_to p r) ≐ dot (from_to q p)
    (from_to q p)
dots_around p q r =
    ring (dot_expr (from_to_expr point₁ point₂) (from_to_expr point₁ point₀) :+ dot_expr (from_to_expr point₀ point₁)
    (from_to_expr point₀ point₂))
    (dot_expr (from_to_expr point₁ point₀) (from_to_expr point₁ point₀)) (coordinates (p ∷ q ∷ r ∷ [])) tt

not_around : (s t a b : Z) → s ⊞ t ≐ a → whole 0 ≼ b → a ≺ s → b ≺ t → ⊥
not_around s t a b e h k l = omega arith

no_line_around : (p q r : Point) → orient q r p ≐ whole 0 → orient p q r ≐ whole 0
    → Beside (from_to q r) (from_to q p) → Beside (from_to p q) (from_to p r) → ⊥
no_line_around p q r h k (inl left) right = not_zero_positive (orient q r p) h left
no_line_around p q r h k (inr on) (inl left) = not_zero_positive (orient p q r) k left
no_line_around p q r h k (inr on) (inr on') =
    not_around (dot (from_to q r) (from_to q p)) (dot (from_to p q) (from_to p r)) (dot (from_to q p) (from_to q p))
    (dot (from_to p r) (from_to p r))
    (dots_around p q r) (length_not_negative (from_to p r)) on.1 on'.1

pub no_third_corner : (s : List Point) (p q r : Point) → OnLine s → Memᴰ p s → Side s p q → Side s q r
    → ¬ (r ≡ p) → ⊥
no_third_corner s p q r line p_in to_q to_r r_not_p = go (to_r.edge p p_in) (to_q.edge r to_r.mem)
  where
    go : (p ≡ q) ⊎ ((p ≡ r) ⊎ (Left q r p ⊎ Between q r p)) → (r ≡ p) ⊎ ((r ≡ q) ⊎ (Left p q r ⊎ Between p q r)) → ⊥
    go (inl h) k = to_q.apart (sym h)
    go (inr (inl h)) k = r_not_p (sym h)
    go (inr (inr h)) (inl k) = r_not_p k
    go (inr (inr h)) (inr (inl k)) = to_r.apart k
    go (inr (inr h)) (inr (inr k)) =
        no_line_around p q r (line q r p to_q.mem to_r.mem p_in) (line p q r p_in to_q.mem to_r.mem)
        (beside_of_words q r p h) (beside_of_words p q r k)
