-- No contact call refuses a built grid outline, placed in range: its count is 3 to 8 and its numbers are in range.
-- Assumes nothing.
use mathlib.Core.Path.{◌≡◌}
use mathlib.Core.Bool.{true, false}
use lib.Dec.{T}
use lib.Ieee.{binary32, add}
use lib.Ieee.Bits.{is_true}
use borrow.Author.Tests.{le-ltb}
use Rattle.floats.specs.declared.b2_math.B2Transform.{B2Transform}
use Rattle.floats.specs.B2Math.{b2_mul_t_transform}
use Rattle.floats.specs.Ranges.{transform_in_range}
use Rattle.shape_definitions.specs.declared.b2_edge_shape.B2edgeShape.{B2edgeShape}
use Rattle.shape_definitions.specs.declared.b2_polygon_shape.B2polygonShape.{B2polygonShape}
use Rattle.shape_definitions.specs.Edge.{edge_in_range}
use Rattle.shape_definitions.specs.Validate.{polygon_in_range}
use Rattle.contact_definitions.specs.declared.b2_collision.B2manifold.{B2manifold}
use Rattle.contact_definitions.specs.Manifold.{with_count, manifold_accepted, miscounted}
use Rattle.contact_definitions.specs.B2CollidePolygon.{polygons_manifold, b2_collide_polygons}
use Rattle.contact_definitions.specs.B2CollideEdge.{edge_polygon_manifold, b2_collide_edge_and_polygon}
use Rattle.grid.specs.GridOutline.{GridOutline}

-- an outline that contact calls take: what a built grid outline is, where its radius is in range
pub record Taken (shape : B2polygonShape) : Type 0 where
  pub counted : miscounted shape.m_count ≡ false
  pub numbers : polygon_in_range shape ≡ true

pub grid_taken : (shape : B2polygonShape) → GridOutline shape → T (polygon_in_range shape) → Taken shape
grid_taken shape grid inside = record {
  counted = simp (le-ltb shape.m_count 3 grid.three, le-ltb 8 shape.m_count grid.eight);
  numbers = is_true (polygon_in_range shape) inside;
}

module _ (m : B2manifold) (xfA xfB : B2Transform) (a_placed : T (transform_in_range xfA))
    (b_placed : T (transform_in_range xfB)) where
  pub polygons_accepted : (a b : B2polygonShape) → Taken a → Taken b
      → b2_collide_polygons m a xfA b xfB
      ≡ manifold_accepted (polygons_manifold (with_count m 0) (add binary32 a.m_radius b.m_radius) a xfA b
      xfB)
  unfolding b2_collide_polygons
  polygons_accepted a b a_taken b_taken =
      simp (
        a_taken.counted,
        b_taken.counted,
        a_taken.numbers,
        b_taken.numbers,
        is_true (transform_in_range xfA) a_placed,
        is_true (transform_in_range xfB) b_placed,
      )

  pub edge_and_polygon_accepted : (a : B2edgeShape) (b : B2polygonShape) → T (edge_in_range a) → Taken b
      → b2_collide_edge_and_polygon m a xfA b xfB
      ≡ manifold_accepted (edge_polygon_manifold (with_count m 0) a (b2_mul_t_transform xfA xfB) b)
  unfolding b2_collide_edge_and_polygon
  edge_and_polygon_accepted a b a_in b_taken =
      simp (
        b_taken.counted,
        is_true (edge_in_range a) a_in,
        b_taken.numbers,
        is_true (transform_in_range xfA) a_placed,
        is_true (transform_in_range xfB) b_placed,
      )
