-- The hull's theorems: the first sentence of demand 3, on whole numbers. A list of at most eight points with reduced
-- coordinates, repeats counted, is accepted exactly when it does not lie on one line; the built corners are then its
-- exact hull, of which there is one, with an area above 0. Assumes nothing.
use mathlib.Core.Path.{◌≡◌}
use mathlib.Core.List.{List, ◌∷◌}
use mathlib.Core.Logic.{◌⊎◌, inl, inr}
use Prim.Native.Nat.{◌≤◌}
use lib.ListN.{length}
use Rattle.algebra.specs.Integer.{whole, ◌≺◌}
use Rattle.algebra.specs.Plane.{Point}
use Rattle.algebra.proofs.Lists.{pigeonhole}
use Rattle.hull.specs.Hull.{AllReduced, IsHull, OnLine, fan_area, FanPositive}
use Rattle.hull.specs.Outline.{Accepted, TurnedDown, most_corners, outline, corners}
use Rattle.hull.proofs.Outcome.{outcome_within, no_row_turned_down, row_is_hull}
use Rattle.hull.proofs.Unique.{hull_unique}
use Rattle.hull.proofs.Area.{hull_fan_positive, hull_area_positive}

module _ (l : List Point) (reduced : AllReduced l) (few : length l ≤ 8) where
  -- which of the two it is, is decided
  pub outcome : (OnLine l × TurnedDown l) ⊎ ((¬ OnLine l) × Accepted l)
  outcome = outcome_within most_corners l reduced few

  -- not on one line: accepted, and the corners are the exact hull
  pub accepted : ¬ OnLine l → Accepted l
  accepted off = go outcome
    where
      go : (OnLine l × TurnedDown l) ⊎ ((¬ OnLine l) × Accepted l) → Accepted l
      go (inl h) = absurd (off h.0)
      go (inr h) = h.1

  -- on one line: turned down, with 3 where there are no three different points, and otherwise with 4
  pub turned_down : OnLine l → TurnedDown l
  turned_down line = go outcome
    where
      go : (OnLine l × TurnedDown l) ⊎ ((¬ OnLine l) × Accepted l) → TurnedDown l
      go (inl h) = h.1
      go (inr h) = absurd (h.0 line)

  -- any row that the builder gives is the exact hull, and then the list is not on one line
  pub built_hull : (p : Point) (rest : List Point) → outline l ≡ corners (p ∷ rest) → IsHull l p rest × (¬ OnLine l)
  built_hull p rest is = go outcome
    where
      go : (OnLine l × TurnedDown l) ⊎ ((¬ OnLine l) × Accepted l) → IsHull l p rest × (¬ OnLine l)
      go (inl h) = absurd (no_row_turned_down most_corners l (p ∷ rest) h.1 is)
      go (inr h) = (row_is_hull most_corners l p rest h.1 is, h.0)

-- the exact hull is one row
pub one_hull : (l : List Point) (p p' : Point) (rest rest' : List Point) → IsHull l p rest → IsHull l p' rest'
    → p ∷ rest ≡ p' ∷ rest'
one_hull = hull_unique

-- it has no more corners than the list has points
pub corners_at_most : (l : List Point) (p : Point) (rest : List Point) → IsHull l p rest → length (p ∷ rest) ≤ length l
corners_at_most l p rest hull = pigeonhole (p ∷ rest) l hull.once hull.within

-- each triangle from its first corner to two neighbours, and so its doubled area, is above 0
pub fan_positive : (l : List Point) (p : Point) (rest : List Point) → IsHull l p rest → FanPositive p rest
fan_positive = hull_fan_positive

pub area_positive : (l : List Point) (p : Point) (rest : List Point) → IsHull l p rest → whole 0 ≺ fan_area p rest
area_positive = hull_area_positive
