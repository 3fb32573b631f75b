-- The manifold of wall against outline, from the parts that the code has. Assumes nothing.
use mathlib.Core.Path.{◌≡◌, refl, ◌∙◌, ap}
use mathlib.Core.Bool.{Bool, true, false, cond, ◌&&◌}
use lib.Ieee.{Float, binary32, neg, add, lt}
use Rattle.rounding.specs.Literals.{zero32}
use Rattle.floats.specs.declared.b2_math.B2vec2.{B2vec2}
use Rattle.floats.specs.declared.b2_math.B2Transform.{B2Transform}
use Rattle.floats.specs.B2Math.{vec2, b2_sub, b2_dot, b2_normalize, unit_or_same, b2_mul_transform_by_vec2}
use Rattle.shape_definitions.specs.declared.b2_polygon_shape.B2polygonShape.{B2polygonShape}
use Rattle.shape_definitions.specs.declared.b2_edge_shape.B2edgeShape.{B2edgeShape}
use Rattle.contact_definitions.specs.declared.axis.Axis.{Axis}
use Rattle.contact_definitions.specs.declared.b2_collision.B2manifold.{B2manifold}
use Rattle.contact_definitions.specs.Manifold.{with_count}
use Rattle.contact_definitions.specs.EdgeAxis.{right_of, edge_polygon_axis}
use Rattle.contact_definitions.specs.EdgeReference.{edge_manifold_on}
use Rattle.contact_definitions.specs.B2CollideEdge.{edge_polygon_manifold}

-- the axis that the code has found
module _ (old : B2manifold) (edge : B2edgeShape) (edge1 : B2vec2) (xf : B2Transform) (poly : B2polygonShape)
    (radius : Float) where
  pub on_found : (r : B2manifold) (axis : Axis) → axis ≡ edge_polygon_axis radius edge edge1 xf poly
      → r ≡ edge_manifold_on axis old edge edge1 xf poly radius
      → r ≡ edge_manifold_on (edge_polygon_axis radius edge edge1 xf poly) old edge edge1 xf poly radius
  on_found r axis axis_is r_is =
      r_is ∙ ap (λ (a : Axis). edge_manifold_on a old edge edge1 xf poly radius) axis_is

module _ (m : B2manifold) (edge : B2edgeShape) (edge1 : B2vec2) (xf : B2Transform) (poly : B2polygonShape)
    (behind : Bool)
    (edge1_is : edge1 ≡ unit_or_same (b2_normalize (b2_sub edge.m_vertex2 edge.m_vertex1)))
    (behind_is : behind ≡ (edge.m_one_sided && lt (b2_dot (vec2 edge1.y (neg edge1.x))
    (b2_sub (b2_mul_transform_by_vec2 xf poly.m_centroid) edge.m_vertex1)) zero32)) where
  abbrev total : Float
  total = add binary32 poly.m_radius edge.m_radius

  by_side : (old : B2manifold) (t : Bool) → behind ≡ t
      → cond t old (edge_manifold_on (edge_polygon_axis total edge edge1 xf poly) old edge edge1 xf poly total)
      ≡ edge_polygon_manifold old edge xf poly
  unfolding edge_polygon_manifold right_of
  by_side old t t_is = rw (← t_is, behind_is, edge1_is) refl

  pub none_behind : (r : B2manifold) → behind ≡ true → r ≡ with_count m 0
      → r ≡ edge_polygon_manifold (with_count m 0) edge xf poly
  none_behind r holds r_is = r_is ∙ by_side (with_count m 0) true holds

  pub in_front : (r : B2manifold) → behind ≡ false
      → r ≡ edge_manifold_on (edge_polygon_axis total edge edge1 xf poly) (with_count m 0) edge edge1 xf poly total
      → r ≡ edge_polygon_manifold (with_count m 0) edge xf poly
  in_front r fails r_is = r_is ∙ by_side (with_count m 0) false fails

-- the placement of the outline in the wall's frame, as the code has worked it out
pub at_placement : (m : B2manifold) (edge : B2edgeShape) (xf placed : B2Transform) (poly : B2polygonShape)
    (r : B2manifold) → xf ≡ placed → r ≡ edge_polygon_manifold (with_count m 0) edge xf poly
    → r ≡ edge_polygon_manifold (with_count m 0) edge placed poly
at_placement m edge xf placed poly r xf_is r_is =
    r_is ∙ ap (λ (t : B2Transform). edge_polygon_manifold (with_count m 0) edge t poly) xf_is
