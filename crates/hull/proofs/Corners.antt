-- Corners and sides of a list of points. A corner sees all other points in an open half plane; the first point is one;
-- a side's end is one; and at a corner one side ends and one begins. Assumes nothing.
use mathlib.Core.Path.{◌≡◌, sym, subst}
use mathlib.Core.List.Memᴰ
use mathlib.Core.List.{List, [], ◌∷◌, Memᴰ}
use mathlib.Core.Logic.{◌⊎◌, inl, inr}
use mathlib.Core.Bool.{true}
use Prim.Native.Nat.{ℕ, suc, ◌+◌, ◌≤◌, ◌<◌}
use native.Mathlib.Omega.{arith}
use Rattle.algebra.specs.Integer.{whole, signed, ◌⊞◌, ◌≐◌, ◌≺◌}
use Rattle.algebra.specs.Polynomial.{num, ◌:+◌}
use Rattle.algebra.specs.Plane.{Point, from_to, dot}
use Rattle.algebra.proofs.Signs.{negative_of_sum}
use Rattle.algebra.proofs.Ring.{ring}
use Rattle.algebra.proofs.Plane.{point₀, point₁, from_to_expr, dot_expr, coordinates}
use Rattle.hull.specs.Hull.{Edge, First, Left, Between}
use Rattle.hull.proofs.Points.{point_discrete}
use Rattle.hull.proofs.Directions.{length_positive}
use Rattle.hull.proofs.Sides.{
  beside_of_words,
  one_side_in,
  one_side_out,
  Ahead,
  tilted,
  ahead_positive,
  quarter_left,
  side_end_ahead,
}

pub record Corner (s : List Point) (p : Point) : Type 0 where
  pub mem : Memᴰ p s
  pub direction : Point
  pub ahead : (r : Point) → Memᴰ r s → (r ≡ p) ⊎ (whole 0 ≺ dot direction (from_to p r))

pub record Side (s : List Point) (p q : Point) : Type 0 where
  pub mem : Memᴰ q s
  pub apart : ¬ (q ≡ p)
  pub edge : Edge s p q

-- ---- a bound for all points of a list: the sum over them
sum_over : (Point → ℕ) → List Point → ℕ
sum_over f [] = 0
sum_over f (p ∷ s) = f p + sum_over f s

at_most_sum : (f : Point → ℕ) (s : List Point) (p : Point) → Memᴰ p s → f p ≤ sum_over f s
unfolding sum_over
at_most_sum f [] p m = absurd (Memᴰ.not-nil m)
at_most_sum f (a ∷ s) p m = go (at_most_sum f s p) (Memᴰ.cases_cons m)
  where
    go : (Memᴰ p s → f p ≤ sum_over f s) → (p ≡ a) ⊎ Memᴰ p s → f p ≤ f a + sum_over f s
    go ih (inl e) = rw e (omega arith)
    go ih (inr k) = omega (arith, ih k)

-- ---- all others ahead of the normal m, or against u on its line: a corner
corner_of_ahead : (s : List Point) (p m u : Point) → Memᴰ p s
    → ((r : Point) → Memᴰ r s → (r ≡ p) ⊎ Ahead m u (from_to p r)) → Corner s p
corner_of_ahead s p m u p_in all = record {
  mem = p_in;
  direction = tilted large m u;
  ahead = λ r r_in. go r r_in (all r r_in);
}
  where
    along : Point → ℕ
    along r = (dot u (from_to p r)).0

    large : ℕ
    large = suc (sum_over along s)

    is_large : (r : Point) → Memᴰ r s → (dot u (from_to p r)).0 < large
    is_large r r_in = omega (arith, at_most_sum along s r r_in)

    go : (r : Point) → Memᴰ r s → (r ≡ p) ⊎ Ahead m u (from_to p r) → (r ≡ p)
        ⊎ (whole 0 ≺ dot (tilted large m u) (from_to p r))
    go r r_in (inl e) = inl e
    go r r_in (inr h) = inr (ahead_positive large m u (from_to p r) (is_large r r_in) h)

-- ---- the first point is a corner
abbrev west : Point
west = record { x = signed true 1; y = whole 0 }

abbrev south : Point
south = record { x = whole 0; y = signed true 1 }

first_ahead : (p r : Point) → (r.x ≺ p.x) ⊎ ((r.x ≐ p.x) × (p.y ≺ r.y)) → Ahead west south (from_to p r)
first_ahead p r (inl h) = inl (omega arith)
first_ahead p r (inr h) = inr (omega arith, omega arith)

pub corner_of_first : (s : List Point) (p : Point) → Memᴰ p s → First s p → Corner s p
corner_of_first s p p_in first = corner_of_ahead s p west south p_in (λ r r_in. go r (first r r_in))
  where
    go : (r : Point) → (r ≡ p) ⊎ ((r.x ≺ p.x) ⊎ ((r.x ≐ p.x) × (p.y ≺ r.y))) → (r ≡ p)
        ⊎ Ahead west south (from_to p r)
    go r (inl e) = inl e
    go r (inr h) = inr (first_ahead p r h)

-- ---- a side's end is a corner
pub side_long : (s : List Point) (p q : Point) → Corner s p → Side s p q → whole 0 ≺ dot (from_to p q) (from_to p q)
side_long s p q c side = go (c.ahead q side.mem)
  where
    go : (q ≡ p) ⊎ (whole 0 ≺ dot c.direction (from_to p q)) → whole 0 ≺ dot (from_to p q) (from_to p q)
    go (inl e) = absurd (side.apart e)
    go (inr h) = length_positive c.direction (from_to p q) h

back_across : (p q : Point) → dot (quarter_left (from_to p q)) (from_to q p) ≐ whole 0
back_across p q = omega arith

back_along : (p q : Point) → dot (from_to p q) (from_to q p) ⊞ dot (from_to p q) (from_to p q) ≐ whole 0
back_along p q =
    ring (dot_expr (from_to_expr point₀ point₁) (from_to_expr point₁ point₀) :+ dot_expr (from_to_expr point₀ point₁)
    (from_to_expr point₀ point₁))
    (num 0) (coordinates (p ∷ q ∷ [])) tt

pub corner_of_side : (s : List Point) (p q : Point) → Corner s p → Side s p q → Corner s q
corner_of_side s p q c side = corner_of_ahead s q (quarter_left u) u side.mem (λ r r_in. go r (side.edge r r_in))
  where
    u : Point
    u = from_to p q

    at_p : Ahead (quarter_left u) u (from_to q p)
    at_p = inr (
      back_across p q,
      negative_of_sum (dot u (from_to q p)) (dot u u) (back_along p q)
          (side_long s p q c side),
    )

    go : (r : Point) → (r ≡ p) ⊎ ((r ≡ q) ⊎ (Left p q r ⊎ Between p q r)) → (r ≡ q)
        ⊎ Ahead (quarter_left u) u (from_to q r)
    go r (inl e) = inr (subst (λ (a : Point). Ahead (quarter_left u) u (from_to q a)) (sym e) at_p)
    go r (inr (inl e)) = inl e
    go r (inr (inr h)) = inr (side_end_ahead p q r (beside_of_words p q r h))

-- ---- one side ends in q
pub side_in : (s : List Point) (p r q : Point) → Memᴰ p s → Memᴰ r s → Side s p q → Side s r q → p ≡ r
side_in s p r q p_in r_in from_p from_r = go (point_discrete p r)
  where
    clash : ¬ (p ≡ r) → (r ≡ p) ⊎ ((r ≡ q) ⊎ (Left p q r ⊎ Between p q r)) → (p ≡ r)
        ⊎ ((p ≡ q) ⊎ (Left r q p ⊎ Between r q p)) → ⊥
    clash n (inl h) k = n (sym h)
    clash n (inr (inl h)) k = from_r.apart (sym h)
    clash n (inr (inr h)) (inl k) = n k
    clash n (inr (inr h)) (inr (inl k)) = from_p.apart (sym k)
    clash n (inr (inr h)) (inr (inr k)) = one_side_in p q r (beside_of_words p q r h) (beside_of_words r q p k)

    go : Dec (p ≡ r) → p ≡ r
    go (yes h) = h
    go (no n) = absurd (clash n (from_p.edge r r_in) (from_r.edge p p_in))

-- ---- one side begins in p
pub side_out : (s : List Point) (p q r : Point) → Side s p q → Side s p r → q ≡ r
side_out s p q r to_q to_r = go (point_discrete q r)
  where
    clash : ¬ (q ≡ r) → (r ≡ p) ⊎ ((r ≡ q) ⊎ (Left p q r ⊎ Between p q r)) → (q ≡ p)
        ⊎ ((q ≡ r) ⊎ (Left p r q ⊎ Between p r q)) → ⊥
    clash n (inl h) k = to_r.apart h
    clash n (inr (inl h)) k = n (sym h)
    clash n (inr (inr h)) (inl k) = to_q.apart k
    clash n (inr (inr h)) (inr (inl k)) = n k
    clash n (inr (inr h)) (inr (inr k)) = one_side_out p q r (beside_of_words p q r h) (beside_of_words p r q k)

    go : Dec (q ≡ r) → q ≡ r
    go (yes h) = h
    go (no n) = absurd (clash n (to_q.edge r to_r.mem) (to_r.edge q to_q.mem))
