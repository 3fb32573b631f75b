-- A lent slice of any length, read at eight places: the builder over those places and the slice's length is the builder
-- over the slice. Assumes nothing.
use mathlib.Core.Path.{◌≡◌, refl, ◌∙◌}
use mathlib.Core.List.{List, [], ◌∷◌}
use Prim.Native.Nat.{◌≤◌}
use native.Mathlib.Omega.{arith}
use lib.ListN.{length, take}
use Rattle.floats.specs.declared.b2_math.B2vec2.{B2vec2}
use Rattle.shape_definitions.specs.declared.b2_polygon_shape.B2polygonShape.{B2polygonShape}
use Rattle.shape_definitions.specs.declared.b2_polygon_shape.PolygonAnswer.{PolygonAnswer}
use Rattle.shape_definitions.specs.Outline.{point_at}
use Rattle.shape_definitions.specs.Polygon.{b2_polygon_shape_set, b2_polygon_shape_set_counted}
use Rattle.shape_definitions.proofs.Counted.{counted_whole}

-- the points at the first eight places, the origin past the end
abbrev first_eight : List B2vec2 → List B2vec2
first_eight l =
    point_at l 0 ∷ point_at l 1 ∷ point_at l 2 ∷ point_at l 3 ∷ point_at l 4 ∷ point_at l 5 ∷ point_at l 6 ∷ point_at
    l 7 ∷ []

eight_hold_all : (l : List B2vec2) → length l ≤ 8 → take (length l) (first_eight l) ≡ l
eight_hold_all [] few = refl
eight_hold_all (a ∷ []) few = refl
eight_hold_all (a ∷ b ∷ []) few = refl
eight_hold_all (a ∷ b ∷ c ∷ []) few = refl
eight_hold_all (a ∷ b ∷ c ∷ d ∷ []) few = refl
eight_hold_all (a ∷ b ∷ c ∷ d ∷ e ∷ []) few = refl
eight_hold_all (a ∷ b ∷ c ∷ d ∷ e ∷ f ∷ []) few = refl
eight_hold_all (a ∷ b ∷ c ∷ d ∷ e ∷ f ∷ g ∷ []) few = refl
eight_hold_all (a ∷ b ∷ c ∷ d ∷ e ∷ f ∷ g ∷ h ∷ []) few = refl
eight_hold_all (a ∷ b ∷ c ∷ d ∷ e ∷ f ∷ g ∷ h ∷ i ∷ l) few = absurd (omega arith)

module _ (old : B2polygonShape) (l : List B2vec2) where
  -- the points that were read one by one, and what the builder answered
  pub lent_is : (p0 p1 p2 p3 p4 p5 p6 p7 : B2vec2) (r : PolygonAnswer) → p0 ≡ point_at l 0 → p1 ≡ point_at l 1
      → p2 ≡ point_at l 2
      → p3 ≡ point_at l 3 → p4 ≡ point_at l 4 → p5 ≡ point_at l 5 → p6 ≡ point_at l 6 → p7 ≡ point_at l 7
      → r ≡ b2_polygon_shape_set_counted old (p0 ∷ p1 ∷ p2 ∷ p3 ∷ p4 ∷ p5 ∷ p6 ∷ p7 ∷ []) (length l)
      → r ≡ b2_polygon_shape_set old l
  lent_is p0 p1 p2 p3 p4 p5 p6 p7 r p0_is p1_is p2_is p3_is p4_is p5_is p6_is p7_is r_is =
      r_is ∙ (simp (p0_is, p1_is, p2_is, p3_is, p4_is, p5_is, p6_is, p7_is)) ∙ counted_whole old (first_eight l) l
      (length l) refl (eight_hold_all l)
