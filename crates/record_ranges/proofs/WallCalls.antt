-- The contact of a wall and an outline gives a manifold that the world points take: the axis search's normal is the
-- wall's, turned round or not, or zero. Assumes nothing.
use Prim.Native.Nat.{ℕ}
use mathlib.Core.Bool.{cond, ◌&&◌}
use mathlib.Core.List.{List, [], ◌∷◌, map}
use lib.Ieee.{Float, binary32, add, sub, neg, lt}
use Rattle.algebra.specs.Loops.{scan, places}
use Rattle.rounding.specs.Literals.{zero32}
use Rattle.floats.specs.declared.b2_math.B2Transform.{B2Transform}
use Rattle.floats.specs.declared.b2_math.B2vec2.{B2vec2}
use Rattle.floats.specs.B2Common.{b2_max_float}
use Rattle.floats.specs.B2Math.{vec2, b2_sub, b2_neg, b2_dot, b2_normalize, unit_or_same, b2_mul_t_rot}
use Rattle.floats.specs.B2Math.{b2_mul_transform_by_vec2}
use Rattle.floats.specs.B2Math.{b2_mul_t_transform}
use Rattle.shape_definitions.specs.declared.b2_edge_shape.B2edgeShape.{B2edgeShape}
use Rattle.shape_definitions.specs.declared.b2_polygon_shape.B2polygonShape.{B2polygonShape}
use Rattle.shape_definitions.specs.Outline.{point_at, place_after}
use Rattle.contact_definitions.specs.declared.axis.Axis.{Axis}
use Rattle.contact_definitions.specs.declared.axis.Axis.TheVariants.{Apart, FaceA, FaceB}
use Rattle.contact_definitions.specs.declared.b2_collide_edge.GaussRegion.{GaussRegion}
use Rattle.contact_definitions.specs.declared.b2_collide_edge.GaussRegion.TheVariants.{Skip, Admit, Snap}
use Rattle.contact_definitions.specs.declared.b2_collision.B2clipVertex.{B2clipVertex}
use Rattle.contact_definitions.specs.declared.b2_collision.B2manifold.{B2manifold}
use Rattle.contact_definitions.specs.declared.b2_collision.B2manifoldPoint.{B2manifoldPoint}
use Rattle.contact_definitions.specs.declared.b2_collision.B2manifoldType.TheVariants.{EFaceA, EFaceB}
use Rattle.contact_definitions.specs.Axis.{keeps_farther, separation_of}
use Rattle.contact_definitions.specs.Manifold.{with_kind, with_local_point}
use Rattle.contact_definitions.specs.EdgeAxis.{placed_corner, placed_normal, right_of, side_axis, outline_axis}
use Rattle.contact_definitions.specs.EdgeAxis.{b2_compute_edge_separation, b2_compute_polygon_separation, clearly_above}
use Rattle.contact_definitions.specs.EdgeAxis.{primary_axis, gauss_region, in_region, smoothed, edge_polygon_axis}
use Rattle.contact_definitions.specs.EdgeReference.{face_between, within_radius, most_against, outline_end}
use Rattle.contact_definitions.specs.EdgeReference.{outline_edge, point_in_frame, wall_manifold, wall_edge}
use Rattle.contact_definitions.specs.EdgeReference.{point_as_it_is, placed_face, face_manifold, edge_manifold_on}
use Rattle.contact_definitions.specs.B2CollideEdge.{edge_polygon_manifold}
use Rattle.contact_definitions.proofs.Counts.{either}
use Rattle.record_ranges.proofs.Caps.{Cap, cap_widen, cap_add, cap_sub, cap_mul}
use Rattle.record_ranges.proofs.Vectors.{Caps, Placed, caps_widen, caps_neg, caps_sub, cap_dot, caps_turned}
use Rattle.record_ranges.proofs.Vectors.{caps_turned_back, caps_carried, caps_carried_back, placed_widen}
use Rattle.record_ranges.proofs.Vectors.{right_caps}
use Rattle.record_ranges.proofs.Normalised.{normalised_caps}
use Rattle.record_ranges.proofs.Clipped.{two_ends, Side, sides_caps}
use Rattle.record_ranges.proofs.Manifolds.{Ranged, kind_ranged, ends_ranged}
use Rattle.record_ranges.proofs.Shapes.{zero_cap, WallCaps, OutlineCaps, AtPlace}

-- ---- the normal of an axis that the wall has
abbrev AxisCaps : Axis → Type 0
AxisCaps (Apart s) = Unit {0}
AxisCaps (FaceA s x y i) = Cap x 2 × Cap y 2
AxisCaps (FaceB s x y i) = Unit {0}

AllCaps : List Axis → Type 0
AllCaps [] = Unit {0}
AllCaps (axis ∷ axes) = AxisCaps axis × AllCaps axes

scanned : (best : Axis) (axes : List Axis) → AxisCaps best → AllCaps axes → AxisCaps (scan keeps_farther best axes)
unfolding AllCaps
scanned best [] h g = h
scanned best (axis ∷ axes) h g =
    scanned (cond (keeps_farther best axis) axis best) axes
    (either AxisCaps (keeps_farther best axis) axis best g.0 h) g.1

outline_axes : (xf : B2Transform) (poly : B2polygonShape) (v1 v2 : B2vec2) (l : List ℕ)
    → AllCaps (map (outline_axis xf poly v1 v2) l)
unfolding AllCaps outline_axis
outline_axes xf poly v1 v2 [] = tt
outline_axes xf poly v1 v2 (i ∷ l) = (tt, outline_axes xf poly v1 v2 l)

wall_axis_caps : (xf : B2Transform) (poly : B2polygonShape) (v1 normal : B2vec2) → Caps normal 2
    → AxisCaps (b2_compute_edge_separation xf poly v1 normal)
unfolding b2_compute_edge_separation side_axis AllCaps
wall_axis_caps xf poly v1 normal h =
    let back = caps_neg normal 2 h in
    scanned (FaceA (neg b2_max_float) zero32 zero32 0)
    (side_axis xf poly v1 normal 0 ∷ side_axis xf poly v1 (b2_neg normal) 1 ∷ []) (zero_cap 2, zero_cap 2)
    ((h.x_cap, h.y_cap), ((back.x_cap, back.y_cap), tt))

outline_axis_caps : (xf : B2Transform) (poly : B2polygonShape) (v1 v2 : B2vec2)
    → AxisCaps (b2_compute_polygon_separation xf poly v1 v2)
unfolding b2_compute_polygon_separation
outline_axis_caps xf poly v1 v2 = scanned _ _ tt (outline_axes xf poly v1 v2 (places 0 poly.m_count))

primary_caps : (radius : Float) (first second : Axis) → AxisCaps first → AxisCaps second
    → AxisCaps (primary_axis radius first second)
unfolding primary_axis
primary_caps radius first second h g =
    either AxisCaps (lt radius (separation_of first)) _ _ tt
    (either AxisCaps (lt radius (separation_of second)) _ _ tt
    (either AxisCaps (clearly_above (sub binary32 (separation_of first) radius)
    (sub binary32 (separation_of second) radius)) second first g h))

region_caps : (region : GaussRegion) (first axis : Axis) → AxisCaps first → AxisCaps axis
    → AxisCaps (in_region region first axis)
region_caps Skip first axis h g = tt
region_caps Admit first axis h g = g
region_caps Snap first axis h g = h

smoothed_caps : (edge : B2edgeShape) (edge1 : B2vec2) (first axis : Axis) → AxisCaps first → AxisCaps axis
    → AxisCaps (smoothed edge edge1 first axis)
unfolding smoothed
smoothed_caps edge edge1 first (Apart s) h g = tt
smoothed_caps edge edge1 first (FaceA s x y i) h g =
    region_caps (gauss_region edge edge1 (vec2 x y)) first (FaceA s x y i) h g
smoothed_caps edge edge1 first (FaceB s x y i) h g =
    region_caps (gauss_region edge edge1 (vec2 x y)) first (FaceB s x y i) h g

axis_caps : (radius : Float) (edge : B2edgeShape) (edge1 : B2vec2) (xf : B2Transform) (poly : B2polygonShape)
    → Caps edge1 2 → AxisCaps (edge_polygon_axis radius edge edge1 xf poly)
unfolding edge_polygon_axis
axis_caps radius edge edge1 xf poly h =
    let first = b2_compute_edge_separation xf poly edge.m_vertex1 (right_of edge1) in
    let second = b2_compute_polygon_separation xf poly edge.m_vertex1 edge.m_vertex2 in
    let first_caps = wall_axis_caps xf poly edge.m_vertex1 (right_of edge1) (right_caps edge1 2 h) in
    let primary = primary_axis radius first second in
    let caps = primary_caps radius first second first_caps
    (outline_axis_caps xf poly edge.m_vertex1 edge.m_vertex2) in
    either AxisCaps edge.m_one_sided (smoothed edge edge1 first primary) primary
    (smoothed_caps edge edge1 first primary first_caps caps) caps

-- ---- the outline's placement in the wall's frame: a turn of at most 2, a position of at most 2^22 m
pub relative_place : (xfA xfB : B2Transform) → AtPlace xfA → AtPlace xfB → Placed (b2_mul_t_transform xfA xfB) 1 22
unfolding b2_mul_t_transform b2_mul_t_rot
relative_place xfA xfB a b = record {
  turn = record {
    sine = cap_sub 0 tt (cap_mul 0 0 tt a.turn.cosine b.turn.sine)
        (cap_mul 0 0 tt a.turn.sine b.turn.cosine);
    cosine = cap_add 0 tt (cap_mul 0 0 tt a.turn.cosine b.turn.cosine)
        (cap_mul 0 0 tt a.turn.sine b.turn.sine);
  };
  position = caps_turned_back xfA.q (b2_sub xfB.p xfA.p) 0 21 tt tt a.turn
      (caps_sub xfB.p xfA.p 20 tt b.position a.position);
}

-- ---- the manifold
module _ (edge : B2edgeShape) (xf : B2Transform) (poly : B2polygonShape) (radius : Float) (wall : WallCaps edge)
    (place : Placed xf 1 22) (caps : OutlineCaps poly) where
  corner_caps : (i : ℕ) → Caps (placed_corner xf poly i) 23
  unfolding placed_corner
  corner_caps i = caps_carried xf (point_at poly.m_vertices i) 1 20 tt tt tt place (caps.corner i)

  normal_caps_there : (i : ℕ) → Caps (placed_normal xf poly i) 4
  unfolding placed_normal
  normal_caps_there i =
      caps_turned xf.q (point_at poly.m_normals i) 1 2 tt tt place.turn (caps.normal i)

  -- a side through a corner of at most 2^23 m
  side_through : (side v : B2vec2) → Caps side 4 → Caps v 23 → Side side (b2_dot side v)
  side_through side v h g = record {
    normal_caps = caps_widen 4 5 tt h;
    offset_cap = cap_widen 28 40 tt (cap_dot side v 4 23 tt tt h g);
  }

  in_frame : (old : B2manifoldPoint) (end : B2clipVertex) → Caps end.v 27
      → Caps (point_in_frame xf old end).local_point 30
  unfolding point_in_frame with_local_point
  in_frame old end h = caps_carried_back xf end.v 1 27 tt tt tt (placed_widen xf 1 22 27 tt place) h

  as_is : (old : B2manifoldPoint) (end : B2clipVertex) → Caps end.v 27
      → Caps (point_as_it_is old end).local_point 30
  unfolding point_as_it_is with_local_point
  as_is old end h = caps_widen 27 30 tt h

  wall_ranged : (m : B2manifold) (edge1 normal : B2vec2) → Ranged m → Caps edge1 2 → Caps normal 2
      → Ranged (wall_manifold m edge edge1 normal xf poly radius)
  unfolding wall_manifold face_between outline_edge outline_end
  wall_ranged m edge1 normal h edge1_caps normal_caps =
      let face = face_between 0 1 edge.m_vertex1 edge.m_vertex2 normal (b2_neg edge1) edge1 in
      let wide = caps_widen 2 4 tt edge1_caps in
      ends_ranged (within_radius radius face) (point_in_frame xf) in_frame (with_kind m EFaceA) normal
      edge.m_vertex1 _ (kind_ranged m EFaceA h) (caps_widen 2 3 tt normal_caps) (caps_widen 20 30 tt wall.from)
      (sides_caps face (outline_edge xf poly (most_against xf poly normal))
      (side_through (b2_neg edge1) edge.m_vertex1 (caps_neg edge1 4 wide) (caps_widen 20 23 tt wall.from))
      (side_through edge1 edge.m_vertex2 wide (caps_widen 20 23 tt wall.to))
      (two_ends _ _ 23 (corner_caps _) (corner_caps _)))

  face_ranged : (m : B2manifold) (i : ℕ) → Ranged m → Ranged (face_manifold m edge i xf poly radius)
  unfolding face_manifold placed_face face_between wall_edge
  face_ranged m i h =
      let normal = placed_normal xf poly i in
      let right = right_caps normal 4 (normal_caps_there i) in
      ends_ranged (within_radius radius (placed_face xf poly i)) point_as_it_is as_is (with_kind m EFaceB) _ _ _
      (kind_ranged m EFaceB h) (caps_widen 2 3 tt (caps.normal i)) (caps_widen 20 30 tt (caps.corner i))
      (sides_caps (placed_face xf poly i) (wall_edge edge i)
      (side_through (right_of normal) (placed_corner xf poly i) right (corner_caps i))
      (side_through (b2_neg (right_of normal)) (placed_corner xf poly (place_after poly.m_count i))
      (caps_neg (right_of normal) 4 right) (corner_caps _))
      (two_ends _ _ 23 (caps_widen 20 23 tt wall.to) (caps_widen 20 23 tt wall.from)))

  on_axis_ranged : (axis : Axis) (m : B2manifold) (edge1 : B2vec2) → Ranged m → Caps edge1 2 → AxisCaps axis
      → Ranged (edge_manifold_on axis m edge edge1 xf poly radius)
  on_axis_ranged (Apart s) m edge1 h g f = h
  on_axis_ranged (FaceA s x y i) m edge1 h g f =
      wall_ranged m edge1 (vec2 x y) h g (record { x_cap = f.0; y_cap = f.1 })
  on_axis_ranged (FaceB s x y i) m edge1 h g f = face_ranged m i h

pub wall_outline_ranged : (m : B2manifold) (edge : B2edgeShape) (xf : B2Transform) (poly : B2polygonShape) → Ranged m
    → WallCaps edge → Placed xf 1 22 → OutlineCaps poly → Ranged (edge_polygon_manifold m edge xf poly)
unfolding edge_polygon_manifold
wall_outline_ranged m edge xf poly h wall place caps =
    let edge1 = unit_or_same (b2_normalize (b2_sub edge.m_vertex2 edge.m_vertex1)) in
    let edge1_caps = normalised_caps (b2_sub edge.m_vertex2 edge.m_vertex1) 21 tt
    (caps_sub edge.m_vertex2 edge.m_vertex1 20 tt wall.to wall.from) in
    let radius = add binary32 poly.m_radius edge.m_radius in
    let centroid = b2_mul_transform_by_vec2 xf poly.m_centroid in
    let offset1 = b2_dot (right_of edge1) (b2_sub centroid edge.m_vertex1) in
    either Ranged (edge.m_one_sided && lt offset1 zero32) _ _ h
    (on_axis_ranged edge xf poly radius wall place caps (edge_polygon_axis radius edge edge1 xf poly) m edge1 h
    edge1_caps (axis_caps radius edge edge1 xf poly edge1_caps))
