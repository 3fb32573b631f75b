-- The axis of wall against outline, from the parts that the code has: the rows of the outline, by the names of the
-- definitions, and the axis found, by the wall alone or by the outline's faces too. Assumes nothing.
use mathlib.Core.Path.{◌≡◌, refl, sym, ◌∙◌, ap}
use mathlib.Core.Bool.{Bool, true, false}
use mathlib.Core.List.{List}
use Prim.Native.Nat.{ℕ}
use lib.Ieee.{Float, lt}
use Rattle.floats.specs.declared.b2_math.B2vec2.{B2vec2}
use Rattle.floats.specs.declared.b2_math.B2Transform.{B2Transform}
use Rattle.floats.specs.B2Math.{b2_mul_rot_by_vec2, b2_mul_transform_by_vec2}
use Rattle.shape_definitions.specs.declared.b2_polygon_shape.B2polygonShape.{B2polygonShape}
use Rattle.shape_definitions.specs.declared.b2_edge_shape.B2edgeShape.{B2edgeShape}
use Rattle.shape_definitions.specs.Outline.{point_at}
use Rattle.contact_definitions.specs.declared.axis.Axis.{Axis}
use Rattle.contact_definitions.specs.declared.axis.Axis.TheVariants.{Apart}
use Rattle.contact_definitions.specs.Axis.{separation_of}
use Rattle.contact_definitions.specs.EdgeAxis.{placed_corner, placed_normal, right_of, b2_compute_edge_separation}
use Rattle.contact_definitions.specs.EdgeAxis.{b2_compute_polygon_separation, primary_axis, smoothed, smoothed_if}
use Rattle.contact_definitions.specs.EdgeAxis.{edge_polygon_axis}
use Rattle.wall_contacts.specs.PlacedRows.{Row, PointRows, face_distance}

pub corners_placed : (xf : B2Transform) (poly : B2polygonShape) {n : ℕ} {xs ys : List Float}
    → PointRows (λ i. b2_mul_transform_by_vec2 xf (point_at poly.m_vertices i)) n xs ys
    → PointRows (placed_corner xf poly) n xs ys
unfolding placed_corner
corners_placed xf poly rows = rows

pub normals_placed : (xf : B2Transform) (poly : B2polygonShape) {n : ℕ} {xs ys : List Float}
    → PointRows (λ i. b2_mul_rot_by_vec2 xf.q (point_at poly.m_normals i)) n xs ys
    → PointRows (placed_normal xf poly) n xs ys
unfolding placed_normal
normals_placed xf poly rows = rows

pub faces_placed : (xf : B2Transform) (poly : B2polygonShape) (v1 v2 : B2vec2) {n : ℕ} {faces : List Float}
    → Row (λ i. face_distance (b2_mul_rot_by_vec2 xf.q (point_at poly.m_normals i))
    (placed_corner xf poly i) v1 v2) n faces
    → Row (λ i. face_distance (placed_normal xf poly i) (placed_corner xf poly i) v1 v2) n faces
unfolding placed_normal
faces_placed xf poly v1 v2 row = row

-- the search's answer, of the wall's own axis and the primary one
pub searched : (edge : B2edgeShape) (edge1 : B2vec2) (wall primary axis : Axis)
    → axis ≡ smoothed_if edge.m_one_sided edge edge1 wall primary
    → (axis ≡ smoothed_if edge.m_one_sided edge edge1 wall primary)
    × ((radius : Float) (xf : B2Transform) (poly : B2polygonShape)
    → wall ≡ b2_compute_edge_separation xf poly edge.m_vertex1 (right_of edge1)
    → primary ≡ primary_axis radius wall
    (b2_compute_polygon_separation xf poly edge.m_vertex1 edge.m_vertex2)
    → axis ≡ edge_polygon_axis radius edge edge1 xf poly)
unfolding edge_polygon_axis
searched edge edge1 wall primary axis axis_is =
    (axis_is, λ radius xf poly wall_is primary_is. rw (axis_is, primary_is, wall_is) refl)

module _ (edge : B2edgeShape) (edge1 : B2vec2) (xf : B2Transform) (poly : B2polygonShape) (radius : Float) where
  -- the wall alone keeps the outline off: one-sided or not, whatever its faces say
  stays_apart : (one_sided : Bool) (wall : Axis) (s : Float)
      → Apart s ≡ smoothed_if one_sided edge edge1 wall (Apart s)
  unfolding smoothed
  stays_apart true wall s = refl
  stays_apart false wall s = refl

  pub apart_found : (wall : Axis) (s : Float)
      → wall ≡ b2_compute_edge_separation xf poly edge.m_vertex1 (right_of edge1)
      → s ≡ separation_of wall → lt radius s ≡ true → Apart s ≡ edge_polygon_axis radius edge edge1 xf poly
  unfolding edge_polygon_axis primary_axis
  apart_found wall s wall_is s_is apart =
      let at_wall = s_is ∙ ap separation_of wall_is in
      let test = ap (lt radius) (sym at_wall) ∙ apart in
      rw test (ap (λ (t : Float). Apart t) at_wall
      ∙ stays_apart edge.m_one_sided (b2_compute_edge_separation xf poly edge.m_vertex1 (right_of edge1)) _)
