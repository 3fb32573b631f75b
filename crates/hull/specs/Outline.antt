-- The outline builder on points with whole coordinates, step by step as document 01, "Outlines", has it: weld, start at
-- the largest x, smallest y among equals, walk; turned down for too few points, and then for the walk. On grid numbers
-- the f32 builder takes the same steps. Definitions only.
use Rattle.std.specs.Prelude.{◌≡◌, List, [], ◌∷◌, ◌⊎◌, Bool, ◌&&◌, ◌||◌, ℕ}
use Rattle.std.proofs.Math.Option.{Option, none, some}
use Rattle.algebra.specs.Integer.{whole, ◌≐?◌, ◌≺?◌}
use Rattle.algebra.specs.Plane.{Point, from_to, dot, orient}
use Rattle.hull.specs.Hull.{IsHull, ThreeDifferent}
use Rattle.algebra.specs.Loops.{weld, scan, walk}

-- equal by value
abbrev pub same_point : Point → Point → Bool
same_point p q = (p.x ≐? q.x) && (p.y ≐? q.y)

-- the start: j replaces e where its x is larger, or its x is equal and its y smaller
abbrev pub starts_before : Point → Point → Bool
starts_before e j = (e.x ≺? j.x) || ((j.x ≐? e.x) && (j.y ≺? e.y))

-- the corner after p: j replaces e where the cross product is below 0, or equals 0 and j is farther; and always where e
-- is p itself
abbrev pub farther : Point → Point → Point → Bool
farther p e j = dot (from_to p e) (from_to p e) ≺? dot (from_to p j) (from_to p j)

abbrev pub wraps_closer : Point → Point → Point → Bool
wraps_closer p e j = (orient p e j ≺? whole 0) || ((orient p e j ≐? whole 0) && farther p e j)

abbrev pub replaces : Point → Point → Point → Bool
replaces p e j = same_point e p || wraps_closer p e j

abbrev pub next_corner : Point → List Point → Point → Point
next_corner e js p = scan (replaces p) e js

abbrev pub start : Point → List Point → Point
start e js = scan starts_before e js

-- the walk around the points e ∷ js
abbrev pub wrap : ℕ → Point → List Point → Option (List Point)
wrap fuel e js = walk same_point (next_corner e js) (start e js) fuel (start e js)

-- ---- why a list is turned down: fewer than three points after welding; the walk not back, or back with fewer than
-- three corners
pub data Reason : Type 0 where
  too_few : Reason
  not_closed : Reason

pub data Answer : Type 0 where
  refusal : Reason → Answer
  corners : List Point → Answer

abbrev pub closed : Option (List Point) → Answer
closed none = refusal not_closed
closed (some []) = refusal not_closed
closed (some (a ∷ [])) = refusal not_closed
closed (some (a ∷ b ∷ [])) = refusal not_closed
closed (some (a ∷ b ∷ c ∷ row)) = corners (a ∷ b ∷ c ∷ row)

abbrev pub wrapped : ℕ → List Point → Answer
wrapped fuel [] = refusal too_few
wrapped fuel (a ∷ []) = refusal too_few
wrapped fuel (a ∷ b ∷ []) = refusal too_few
wrapped fuel (a ∷ b ∷ c ∷ kept) = closed (wrap fuel a (b ∷ c ∷ kept))

-- with at most `fuel` corners
abbrev pub outline_within : ℕ → List Point → Answer
outline_within fuel l = wrapped fuel (weld same_point [] l)

-- the builder's own limit
abbrev pub most_corners : ℕ
most_corners = 8

abbrev pub outline : List Point → Answer
outline l = outline_within most_corners l

-- ---- the two outcomes: see proofs/Theorem
-- the list is accepted, and the built corners are its exact hull, in that order
pub record AcceptedWithin (fuel : ℕ) (l : List Point) : Type 0 where
  pub first : Point
  pub rest : List Point
  pub is : outline_within fuel l ≡ corners (first ∷ rest)
  pub hull : IsHull l first rest

abbrev pub Accepted : List Point → Type 0
Accepted l = AcceptedWithin most_corners l

-- the list is turned down: for too few points where it has no three different ones, for the walk where it has
abbrev pub TurnedDownWithin : ℕ → List Point → Type 0
TurnedDownWithin fuel l = ((¬ ThreeDifferent l) × (outline_within fuel l ≡ refusal too_few))
    ⊎ (ThreeDifferent l × (outline_within fuel l ≡ refusal not_closed))

abbrev pub TurnedDown : List Point → Type 0
TurnedDown l = TurnedDownWithin most_corners l
