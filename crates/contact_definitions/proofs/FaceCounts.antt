-- Outline against outline, and wall against outline: where the call does not refuse, at most two points are counted,
-- and the kind is face A or face B where there is one. Assumes nothing.
use mathlib.Core.Path.{refl}
use mathlib.Core.Bool.{◌&&◌, ◌||◌}
use mathlib.Core.Logic.{inl, inr}
use Prim.Native.Nat.{ℕ}
use lib.Ieee.{Float, binary32, add, lt}
use Rattle.rounding.specs.Literals.{zero32, one32}
use Rattle.floats.specs.declared.b2_math.B2vec2.{B2vec2}
use Rattle.floats.specs.declared.b2_math.B2Transform.{B2Transform}
use Rattle.floats.specs.B2Math.{vec2, b2_sub, b2_neg, b2_dot, b2_cross_vec_by_scalar, b2_normalize, unit_or_same}
use Rattle.floats.specs.B2Math.{b2_mul_transform_by_vec2, b2_mul_t_transform}
use Rattle.shape_definitions.specs.declared.b2_polygon_shape.B2polygonShape.{B2polygonShape}
use Rattle.shape_definitions.specs.declared.b2_edge_shape.B2edgeShape.{B2edgeShape}
use Rattle.shape_definitions.specs.Outline.{point_at}
use Rattle.shape_definitions.specs.Validate.{polygon_in_range}
use Rattle.contact_definitions.specs.declared.axis.Axis.{Axis}
use Rattle.contact_definitions.specs.declared.axis.Axis.TheVariants.{Apart, FaceA, FaceB}
use Rattle.contact_definitions.specs.declared.b2_collision.B2contactId.{B2contactId}
use Rattle.contact_definitions.specs.declared.b2_collision.B2manifoldType.TheVariants.{EFaceA, EFaceB}
use Rattle.contact_definitions.specs.declared.b2_collision.B2manifold.{B2manifold}
use Rattle.contact_definitions.specs.Manifold.{swapped_id}
use Rattle.contact_definitions.specs.Manifold.{with_count, with_kind}
use Rattle.contact_definitions.specs.Manifold.{manifold_accepted, miscounted, where_in_range}
use Rattle.contact_definitions.specs.ReferenceFace.{clipped_to_sides}
use Rattle.contact_definitions.specs.B2CollidePolygon.{polygons_axis, b2_find_incident_edge, local_tangent}
use Rattle.contact_definitions.specs.B2CollidePolygon.{face_middle, outline_face, within_skins, outline_point}
use Rattle.contact_definitions.specs.B2CollidePolygon.{outline_manifold, manifold_on, polygons_manifold}
use Rattle.contact_definitions.specs.B2CollidePolygon.{b2_collide_polygons}
use Rattle.contact_definitions.specs.EdgeAxis.{right_of, edge_polygon_axis}
use Rattle.contact_definitions.specs.EdgeReference.{face_between, within_radius, most_against, outline_edge}
use Rattle.contact_definitions.specs.EdgeReference.{point_in_frame, wall_manifold, wall_edge, point_as_it_is}
use Rattle.contact_definitions.specs.EdgeReference.{placed_face, face_manifold, edge_manifold_on}
use Rattle.shape_definitions.specs.Edge.{edge_in_range}
use Rattle.contact_definitions.specs.B2CollideEdge.{edge_polygon_manifold, b2_collide_edge_and_polygon}
use Rattle.contact_definitions.proofs.Counts.{FaceKind, OnFace, Accepted, either, counted}
use Rattle.contact_definitions.proofs.Counts.{in_range, none_on_face, kind_on_face}
use Rattle.contact_definitions.proofs.Counts.{ends_on_face, sides_few}

-- ---- outline pairs
outline_on_face : (m : B2manifold) (named : B2contactId → B2contactId) (total : Float) (poly1 : B2polygonShape)
    (xf1 : B2Transform) (edge1 : ℕ) (poly2 : B2polygonShape) (xf2 : B2Transform)
    → OnFace m → FaceKind m.manifold_type → OnFace (outline_manifold m named total poly1 xf1 edge1 poly2 xf2)
unfolding outline_manifold
outline_on_face m named total poly1 xf1 edge1 poly2 xf2 h kind =
    let face = outline_face total poly1 xf1 edge1 in
    let edge = b2_find_incident_edge poly1 xf1 edge1 poly2 xf2 in
    ends_on_face m (b2_cross_vec_by_scalar (local_tangent poly1 edge1) one32) (face_middle poly1 edge1)
    (within_skins total face) (outline_point named xf2) (clipped_to_sides face edge) h kind (sides_few face edge)

axis_on_face : (axis : Axis) (m : B2manifold) (total : Float) (polyA : B2polygonShape) (xfA : B2Transform)
    (polyB : B2polygonShape) (xfB : B2Transform) → OnFace m → OnFace (manifold_on axis m total polyA xfA polyB xfB)
unfolding with_kind
axis_on_face (Apart s) m total polyA xfA polyB xfB h = h
axis_on_face (FaceA s x y i) m total polyA xfA polyB xfB h =
    outline_on_face (with_kind m EFaceA) (λ id. id) total polyA xfA i polyB xfB
    (kind_on_face m EFaceA h (inl refl)) (inl refl)
axis_on_face (FaceB s x y i) m total polyA xfA polyB xfB h =
    outline_on_face (with_kind m EFaceB) swapped_id total polyB xfB i polyA xfA
    (kind_on_face m EFaceB h (inr refl)) (inr refl)

pub polygons_on_face : (old : B2manifold) (polyA : B2polygonShape) (xfA : B2Transform) (polyB : B2polygonShape)
    (xfB : B2Transform) → Accepted OnFace (b2_collide_polygons old polyA xfA polyB xfB)
unfolding b2_collide_polygons polygons_manifold
polygons_on_face old polyA xfA polyB xfB =
    let none = with_count old 0 in
    let total = add binary32 polyA.m_radius polyB.m_radius in
    let axis = polygons_axis total polyA xfA polyB xfB in
    let answer = manifold_accepted (manifold_on axis none total polyA xfA polyB xfB) in
    let shapes = polygon_in_range polyA && polygon_in_range polyB in
    counted OnFace (miscounted polyA.m_count || miscounted polyB.m_count) old
    (where_in_range shapes xfA xfB old answer)
    (in_range OnFace shapes xfA xfB old answer
    (λ h. axis_on_face axis none total polyA xfA polyB xfB (none_on_face old)))

-- ---- wall and outline
module _ (m : B2manifold) (m_on_face : OnFace m) (edge : B2edgeShape) (xf : B2Transform) (poly : B2polygonShape)
    (radius : Float) where
  wall_on_face : (edge1 normal : B2vec2) → OnFace (wall_manifold m edge edge1 normal xf poly radius)
  unfolding wall_manifold with_kind
  wall_on_face edge1 normal =
      let face = face_between 0 1 edge.m_vertex1 edge.m_vertex2 normal (b2_neg edge1) edge1 in
      let clipped_edge = outline_edge xf poly (most_against xf poly normal) in
      ends_on_face (with_kind m EFaceA) normal edge.m_vertex1 (within_radius radius face) (point_in_frame xf)
      (clipped_to_sides face clipped_edge) (kind_on_face m EFaceA m_on_face (inl refl)) (inl refl)
      (sides_few face clipped_edge)

  face_on_face : (i : ℕ) → OnFace (face_manifold m edge i xf poly radius)
  unfolding face_manifold with_kind
  face_on_face i =
      let face = placed_face xf poly i in
      ends_on_face (with_kind m EFaceB) (point_at poly.m_normals i) (point_at poly.m_vertices i)
      (within_radius radius face) point_as_it_is (clipped_to_sides face (wall_edge edge i))
      (kind_on_face m EFaceB m_on_face (inr refl)) (inr refl) (sides_few face (wall_edge edge i))

  edge_axis_on_face : (axis : Axis) (edge1 : B2vec2) → OnFace (edge_manifold_on axis m edge edge1 xf poly radius)
  edge_axis_on_face (Apart s) edge1 = m_on_face
  edge_axis_on_face (FaceA s x y i) edge1 = wall_on_face edge1 (vec2 x y)
  edge_axis_on_face (FaceB s x y i) edge1 = face_on_face i

edge_polygon_manifold_on_face : (m : B2manifold) → OnFace m → (edge : B2edgeShape) (xf : B2Transform)
    (poly : B2polygonShape) → OnFace (edge_polygon_manifold m edge xf poly)
unfolding edge_polygon_manifold
edge_polygon_manifold_on_face m h edge xf poly =
    let edge1 = unit_or_same (b2_normalize (b2_sub edge.m_vertex2 edge.m_vertex1)) in
    let radius = add binary32 poly.m_radius edge.m_radius in
    let centroid = b2_mul_transform_by_vec2 xf poly.m_centroid in
    let offset1 = b2_dot (right_of edge1) (b2_sub centroid edge.m_vertex1) in
    let axis = edge_polygon_axis radius edge edge1 xf poly in
    either OnFace (edge.m_one_sided && lt offset1 zero32) m (edge_manifold_on axis m edge edge1 xf poly radius) h
    (edge_axis_on_face m h edge xf poly radius axis edge1)

pub edge_polygon_on_face : (old : B2manifold) (edgeA : B2edgeShape) (xfA : B2Transform) (polyB : B2polygonShape)
    (xfB : B2Transform) → Accepted OnFace (b2_collide_edge_and_polygon old edgeA xfA polyB xfB)
unfolding b2_collide_edge_and_polygon
edge_polygon_on_face old edgeA xfA polyB xfB =
    let none = with_count old 0 in
    let xf = b2_mul_t_transform xfA xfB in
    let answer = manifold_accepted (edge_polygon_manifold none edgeA xf polyB) in
    let shapes = edge_in_range edgeA && polygon_in_range polyB in
    counted OnFace (miscounted polyB.m_count) old (where_in_range shapes xfA xfB old answer)
    (in_range OnFace shapes xfA xfB old answer
    (λ h. edge_polygon_manifold_on_face none (none_on_face old) edgeA xf polyB))
