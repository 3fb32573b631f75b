-- An outline that the builder accepts has three to eight corners, whatever the points: the walk has at most as many as
-- it is given turns. Assumes nothing.
use Prim.Native.Nat.{ℕ, zero, suc, ◌≤◌}
use mathlib.Core.Path.{◌≡◌, refl, subst}
use mathlib.Core.Bool.{Bool, true, false, not, ◌&&◌, ◌||◌}
use mathlib.Core.List.{List, ◌∷◌, map}
use mathlib.Core.Option
use mathlib.Core.Option.{Option, none, some}
use native.Mathlib.Omega.{arith}
use lib.Dec.{eqb, ltb}
use lib.Ieee.{lt}
use lib.ListN.{length, length-map}
use borrow.Author.Tests.{ltb-false}
use Rattle.algebra.specs.Loops.{walk, stop_or}
use Rattle.floats.specs.declared.b2_math.B2vec2.{B2vec2}
use Rattle.floats.specs.Ranges.{point_in_range}
use Rattle.floats.specs.B2Common.{b2_epsilon}
use Rattle.shape_definitions.specs.declared.b2_polygon_shape.B2polygonShape.{B2polygonShape}
use Rattle.shape_definitions.specs.declared.b2_polygon_shape.PolygonAnswer.{PolygonAnswer}
use Rattle.shape_definitions.specs.Outline.{welded, next, start, row, point_at, edges, long_enough, fan}
use Rattle.shape_definitions.specs.Polygon.{b2_polygon_shape_set, outline_of_welded, outline_of_row, outline_of_corners}
use Rattle.shape_definitions.specs.Polygon.{refused, all_points}
use Rattle.shape_definitions.specs.Refusal.{accepted}
use Rattle.contact_definitions.proofs.Counts.{either}
use Rattle.record_definitions.proofs.Changes.{by_choice}

-- ---- the walk has at most as many corners as it is given turns
module _ {A : Type 0} (same : A → A → Bool) (turn : A → A) (first : A) where
  Short : ℕ → Option (List A) → Type 0
  Short n none = Unit {0}
  Short n (some l) = length l ≤ n

  longer : (n : ℕ) (p : A) (rest : Option (List A)) → Short n rest → Short (suc n) (Option.map (◌∷◌ p) rest)
  unfolding Short
  longer n p none h = tt
  longer n p (some l) h = omega arith

  stopped : (t : Bool) (n : ℕ) (p : A) (rest : Option (List A)) → Short n rest → Short (suc n) (stop_or t p rest)
  unfolding Short
  stopped true n p rest h = omega arith
  stopped false n p rest h = longer n p rest h

  walk_short : (fuel : ℕ) (p : A) → Short fuel (walk same turn first fuel p)
  unfolding Short
  walk_short zero p = tt
  walk_short (suc fuel) p =
      stopped (same (turn p) first) fuel p (walk same turn first fuel (turn p)) (walk_short fuel (turn p))

  -- the walk's own list
  at_most_fuel : (fuel : ℕ) (p : A) (l : List A) → walk same turn first fuel p ≡ some l → length l ≤ fuel
  unfolding Short
  at_most_fuel fuel p l is = subst (Short fuel) is (walk_short fuel p)

-- ---- so an accepted outline has three to eight corners
CountRight : PolygonAnswer → Type 0
CountRight answer = answer.refusal ≡ accepted → (3 ≤ answer.shape.m_count) × (answer.shape.m_count ≤ 8)

refused_right : (n : ℕ) (old : B2polygonShape) → CountRight (refused (suc n) old)
unfolding CountRight
refused_right n old taken =
    let never : suc n ≡ 0 = taken in
    absurd (omega arith)

corners_right : (old : B2polygonShape) (corners : List B2vec2) → 3 ≤ length corners → length corners ≤ 8
    → CountRight (outline_of_corners old corners)
unfolding outline_of_corners CountRight
corners_right old corners enough few =
    either CountRight (long_enough (edges corners) && lt b2_epsilon (fan corners).area) _ _ (λ taken. (enough, few))
    (refused_right 4 old)

row_right : (old : B2polygonShape) (ps : List B2vec2) (walked : Option (List ℕ)) → row ps ≡ walked
    → CountRight (outline_of_row old ps walked)
unfolding row
row_right old ps none is = refused_right 3 old
row_right old ps (some places) is =
    by_choice CountRight (ltb (length places) 3) _ _ (λ fewer. refused_right 3 old)
    (λ enough. corners_right old (map (point_at ps) places)
    (omega (arith, ltb-false (length places) 3 enough, length-map places (point_at ps)))
    (omega (arith, at_most_fuel eqb (next ps) (start ps) 8 (start ps) places is, length-map places (point_at ps))))

pub built_count : (old : B2polygonShape) (points : List B2vec2)
    → (b2_polygon_shape_set old points).refusal ≡ accepted
    → (3 ≤ (b2_polygon_shape_set old points).shape.m_count)
    × ((b2_polygon_shape_set old points).shape.m_count ≤ 8)
unfolding b2_polygon_shape_set outline_of_welded CountRight
built_count old points =
    let ps = welded points in
    either CountRight (ltb (length points) 3 || ltb 8 (length points)) _ _ (refused_right 0 old)
    (either CountRight (not (all_points point_in_range points)) _ _ (refused_right 1 old)
    (either CountRight (ltb (length ps) 3) _ _ (refused_right 2 old) (row_right old ps (row ps) refl)))
