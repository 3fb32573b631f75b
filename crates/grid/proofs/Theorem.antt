-- Demand 3, first sentence, of the outline builder's definition, and what the second sentence needs of a built
-- outline. Bodies only cite. Assumes nothing.
use mathlib.Core.Path.{◌≡◌, sym, ◌∙◌, ap, subst}
use mathlib.Core.List.{List}
use lib.Dec.{T}
use lib.Ieee.{Float}
use Rattle.algebra.specs.Plane.{Point}
use Rattle.floats.specs.declared.b2_math.B2vec2.{B2vec2}
use Rattle.floats.specs.Ranges.{radius_in_range, transform_in_range}
use Rattle.hull.proofs.Theorem.{one_hull}
use Rattle.shape_definitions.specs.declared.b2_polygon_shape.B2polygonShape.{B2polygonShape}
use Rattle.shape_definitions.specs.Refusal.{accepted}
use Rattle.shape_definitions.specs.Validate.{polygon_in_range}
use Rattle.grid.specs.Grid.{GridList}
use Rattle.grid.specs.Demand3.{FirstSentence, HullRow, refusal_of, outline_from}
use Rattle.grid.proofs.FirstSentence.{grid_list_verdict}
use Rattle.grid.proofs.Outline.{accepted_outline}
use Rattle.grid.proofs.ContactRanges.{Taken, grid_taken, polygons_accepted}
use Rattle.contact_definitions.specs.declared.b2_collision.B2manifold.{B2manifold}
use Rattle.contact_definitions.specs.Answers.{ManifoldAnswer}
use Rattle.contact_definitions.specs.B2CollidePolygon.{b2_collide_polygons}
use Rattle.floats.specs.declared.b2_math.B2Transform.{B2Transform}
use Rattle.grid.specs.GridOutline.{GridOutline}

module _ (old : B2polygonShape) (l : List B2vec2) (grid : GridList l) where
  -- accepted exactly when it holds 3 to 8 points not all on one line, with the corners of its exact hull; else
  -- refusal 1, 3 or 4
  pub first_sentence : FirstSentence old l
  first_sentence = grid_list_verdict old l grid

  -- the built outline: 3 to 8 corners on the grid, with a normal at each place that obeys N0, N1 and N2
  pub built_outline : refusal_of old l ≡ accepted → GridOutline (outline_from old l)
  built_outline r = (accepted_outline old l grid r).outline

  -- every number of it is in range, its centroid too, where the radius is: the range test of the contact calls passes
  pub built_in_range : refusal_of old l ≡ accepted → T (radius_in_range old.m_radius)
      → T (polygon_in_range (outline_from old l))
  built_in_range r radius =
      let b = accepted_outline old l grid r in
      b.outline.in_range (subst (λ (x : Float). T (radius_in_range x)) (sym b.radius) radius)

  -- so contact calls take it: proofs/ContactRanges
  pub built_taken : refusal_of old l ≡ accepted → T (radius_in_range old.m_radius) → Taken (outline_from old l)
  built_taken r radius = grid_taken (outline_from old l) (built_outline r) (built_in_range r radius)

-- two built grid outlines, their radii and placements in range, are never refused by the call for outline pairs
pub pair_never_refused : (m : B2manifold) (a b : B2polygonShape) (xfA xfB : B2Transform) → T (transform_in_range xfA)
    → T (transform_in_range xfB) → Taken a → Taken b → (b2_collide_polygons m a xfA b xfB).refusal ≡ accepted
pair_never_refused m a b xfA xfB a_placed b_placed a_taken b_taken =
    ap (λ (r : ManifoldAnswer). r.refusal) (polygons_accepted m xfA xfB a_placed b_placed a b a_taken b_taken)

-- the exact hull is one row: two rows that are hulls of the same points are equal
pub one_row : (s row row' : List Point) → HullRow s row → HullRow s row' → row ≡ row'
one_row s row row' h h' =
    h.is ∙ one_hull s h.first h'.first h.rest h'.rest h.hull h'.hull ∙ sym h'.is
