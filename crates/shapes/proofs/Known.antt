-- What is known in b2_polygon_shape_set_core: after the range test, after welding, after the walk and after the
-- normals. Assumes nothing.
use mathlib.Core.Path.{◌≡◌, sym, ◌∙◌, ap, subst}
use mathlib.Core.Bool.{Bool, true}
use mathlib.Core.List.{List}
use Prim.Native.Nat.{ℕ, ◌≤◌}
use lib.ListN.{length, take}
use lib.Ieee.{Float}
use Rattle.std.specs.Prelude.{Option as Answer}
use Rattle.floats.specs.declared.b2_math.B2vec2.{B2vec2}
use Rattle.floats.specs.Ranges.{point_in_range}
use Rattle.shape_definitions.specs.declared.b2_polygon_shape.B2polygonShape.{B2polygonShape}
use Rattle.shape_definitions.specs.Outline.{welded, row, edges, long_enough}
use Rattle.shape_definitions.specs.Polygon.{all_points}
use Rattle.shapes.specs.Coordinates.{points_in, EightPoints}
use Rattle.shapes.specs.Parts.{WalkResult, NormalsResult}
use Rattle.shapes.proofs.Built.{AfterWeld, after_weld}

-- ---- the ranges, over the given points as a row of coordinates
module _ (points : List B2vec2) (count : ℕ) (given : List Float) (eight : EightPoints given)
    (given_is : points_in given ≡ points) where
  pub eight_points : length points ≡ 8
  eight_points = ap length (sym given_is) ∙ eight

  pub inside_is : (inside : Bool) → inside ≡ all_points point_in_range (take count (points_in given))
      → all_points point_in_range (take count points) ≡ inside
  inside_is inside inside_so =
      ap (λ (l : List B2vec2). all_points point_in_range (take count l)) (sym given_is) ∙ sym inside_so

  -- ---- after welding
  pub at_weld : (old : B2polygonShape) (n : ℕ) (ps : List Float) (inside : Bool) → 3 ≤ count → count ≤ 8
      → inside ≡ all_points point_in_range (take count (points_in given)) → inside ≡ true → n ≤ count → EightPoints ps
      → take n (points_in ps) ≡ welded (take count (points_in given))
      → AfterWeld old points count n (points_in ps)
  at_weld old n ps inside enough not_more inside_so is_inside fewer room welds =
      after_weld old points count n (points_in ps) enough not_more eight_points (inside_is inside inside_so ∙ is_inside)
      fewer room
      (welds ∙ ap (λ (l : List B2vec2). welded (take count l)) given_is)

-- ---- after the walk and after the normals: what stood in the places is the old outline's
pub walked : (ps before old vs : List B2vec2) (answer goes : Answer ℕ) → before ≡ old → answer ≡ goes
    → WalkResult ps before (row ps) answer vs → WalkResult ps old (row ps) goes vs
walked ps before old vs answer goes before_is answer_is so =
    subst (λ (a : Answer ℕ). WalkResult ps old (row ps) a vs) answer_is
    (subst (λ (l : List B2vec2). WalkResult ps l (row ps) answer vs) before_is so)

pub faced : (corners before old ns : List B2vec2) (z t : Bool) → before ≡ old → z ≡ t
    → NormalsResult (edges corners) before (long_enough (edges corners)) z ns
    → NormalsResult (edges corners) old (long_enough (edges corners)) t ns
faced corners before old ns z t before_is z_is so =
    subst (λ (u : Bool). NormalsResult (edges corners) old (long_enough (edges corners)) u ns) z_is
    (subst (λ (l : List B2vec2). NormalsResult (edges corners) l (long_enough (edges corners)) z ns) before_is so)
