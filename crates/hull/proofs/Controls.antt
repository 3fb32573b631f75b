-- Closed cases: document 01's marked lists in 256ths of a metre, and witnesses that the theorems' hypotheses can be
-- met: a square with a repeat and a point on an edge has a hull, a list on one line is turned down with 4, one with two
-- different points with 3. Assumes nothing.
use mathlib.Core.Path.{◌≡◌, refl}
use mathlib.Core.List.{List, [], ◌∷◌}
use mathlib.Core.Logic.{◌⊎◌, inl, inr}
use mathlib.Core.Bool.{true}
use mathlib.Core.Option.{some}
use Prim.Native.Nat.{ℕ}
use lib.Dec.{lit≤}
use native.Mathlib.Omega.{arith}
use Rattle.algebra.specs.Integer.{whole, signed, ◌≐◌}
use Rattle.algebra.specs.Plane.{Point}
use Rattle.hull.specs.Hull.{AllReduced, IsHull, OnLine, fan_area}
use Rattle.hull.specs.Outline.{Accepted, TurnedDown, outline, too_few, not_closed, refusal, corners}
use Rattle.hull.specs.Places.{wrap_places}
use Rattle.hull.proofs.Points.{reduced_nil, reduced_cons}
use Rattle.hull.proofs.Theorem.{outcome, built_hull}

abbrev at : ℕ → ℕ → Point
at x y = record { x = whole x; y = whole y }

-- ---- the unit square, a point on its lower edge, and (1, 0) once more
abbrev square : List Point
square = at 0 0 ∷ at 256 0 ∷ at 256 256 ∷ at 0 256 ∷ at 128 0 ∷ at 256 0 ∷ []

square_corners : outline square ≡ corners (at 256 0 ∷ at 256 256 ∷ at 0 256 ∷ at 0 0 ∷ [])
square_corners = refl

cons_at : (x y : ℕ) (s : List Point) → AllReduced s → AllReduced (at x y ∷ s)
cons_at x y s h = reduced_cons (at x y) s (inr refl, inr refl) h

square_reduced : AllReduced square
square_reduced =
    cons_at 0 0 (at 256 0 ∷ at 256 256 ∷ at 0 256 ∷ at 128 0 ∷ at 256 0 ∷ [])
    (cons_at 256 0 (at 256 256 ∷ at 0 256 ∷ at 128 0 ∷ at 256 0 ∷ [])
    (cons_at 256 256 (at 0 256 ∷ at 128 0 ∷ at 256 0 ∷ [])
    (cons_at 0 256 (at 128 0 ∷ at 256 0 ∷ []) (cons_at 128 0 (at 256 0 ∷ []) (cons_at 256 0 [] reduced_nil)))))

square_hull : IsHull square (at 256 0) (at 256 256 ∷ at 0 256 ∷ at 0 0 ∷ [])
square_hull = (built_hull square square_reduced (lit≤ tt) (at 256 0) (at 256 256 ∷ at 0 256 ∷ at 0 0 ∷ []) refl).0

square_area : fan_area (at 256 0) (at 256 256 ∷ at 0 256 ∷ at 0 0 ∷ []) ≐ whole 131072
square_area = refl

-- its welded points, walked by places: 1, 2, 3, 0
square_places : wrap_places 8 (at 0 0) (at 256 0 ∷ at 256 256 ∷ at 0 256 ∷ at 128 0 ∷ []) ≡ some (1 ∷ 2 ∷ 3 ∷ 0 ∷ [])
square_places = refl

-- ---- (0, 0), (1, 0), (2, 0)
abbrev row_of_three : List Point
row_of_three = at 0 0 ∷ at 256 0 ∷ at 512 0 ∷ []

row_refused : outline row_of_three ≡ refusal not_closed
row_refused = refl

row_on_line : OnLine row_of_three
row_on_line = go (outcome row_of_three
    (cons_at 0 0 (at 256 0 ∷ at 512 0 ∷ []) (cons_at 256 0 (at 512 0 ∷ []) (cons_at 512 0 [] reduced_nil))) (lit≤ tt))
  where
    go : (OnLine row_of_three × TurnedDown row_of_three) ⊎ ((¬ OnLine row_of_three) × Accepted row_of_three)
        → OnLine row_of_three
    go (inl h) = h.0
    go (inr h) = let is : refusal not_closed ≡ corners (h.1.first ∷ h.1.rest) = h.1.is in
        let z : ◌≡◌ {A = ℕ} 0 1 = cc in absurd (omega arith)

-- ---- three points, two of them equal
two_different : outline (at 0 0 ∷ at 256 0 ∷ at 0 0 ∷ []) ≡ refusal too_few
two_different = refl

-- ---- a triangle left of the origin, given clockwise
left_triangle : outline (record { x = signed true 3; y = whole 0 } ∷ at 0 5 ∷ at 0 0 ∷ [])
    ≡ corners (at 0 0 ∷ at 0 5 ∷ record { x = signed true 3; y = whole 0 } ∷ [])
left_triangle = refl
