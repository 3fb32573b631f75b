-- Outline against outline, b2_collide_polygons: the face of either that keeps the other off most, by rounded
-- distances; the incident edge of the other outline, clipped to the sides of that face; and a point for each end that
-- is left within both skins. Refusals: 7 for a count not 3 to 8, 2 for a number of an outline, 6 for a placement.
-- Definitions only.
use Rattle.std.specs.Prelude.{Bool, cond, ◌&&◌, ◌||◌, List, [], ◌∷◌, ℕ, Float}
use Rattle.std.specs.Float.{binary32}
use Rattle.std.specs.Float.Ieee.{of_bits, neg, add, sub, le, lt}
use Rattle.floats.specs.declared.b2_math.B2vec2.{B2vec2}
use Rattle.floats.specs.declared.b2_math.B2Transform.{B2Transform}
use Rattle.rounding.specs.Literals.{half32, one32}
use Rattle.floats.specs.B2Math.{b2_add, b2_sub, b2_neg, b2_scale, b2_dot, b2_cross_vec_by_scalar, b2_normalize}
use Rattle.floats.specs.B2Math.{unit_or_same}
use Rattle.floats.specs.B2Math.{b2_mul_rot_by_vec2, b2_mul_t_rot_by_vec2, b2_mul_transform_by_vec2}
use Rattle.floats.specs.B2Math.{b2_mul_t_transform_by_vec2}
use Rattle.floats.specs.B2Math.{b2_mul_t_transform}
use Rattle.shape_definitions.specs.declared.b2_polygon_shape.B2polygonShape.{B2polygonShape}
use Rattle.shape_definitions.specs.Outline.{point_at, place_after}
use Rattle.shape_definitions.specs.Validate.{polygon_in_range}
use Rattle.contact_definitions.specs.declared.axis.Best.{Best}
use Rattle.contact_definitions.specs.declared.axis.Axis.{Axis}
use Rattle.contact_definitions.specs.declared.axis.Axis.TheVariants.{Apart, FaceA, FaceB}
use Rattle.contact_definitions.specs.declared.b2_collision.B2contactId.{B2contactId}
use Rattle.contact_definitions.specs.declared.b2_collision.B2manifoldPoint.{B2manifoldPoint}
use Rattle.contact_definitions.specs.declared.b2_collision.B2manifold.{B2manifold}
use Rattle.contact_definitions.specs.declared.b2_collision.B2manifoldType.TheVariants.{EFaceA, EFaceB}
use Rattle.contact_definitions.specs.declared.b2_collision.B2clipVertex.{B2clipVertex}
use Rattle.contact_definitions.specs.Answers.{ManifoldAnswer}
use Rattle.contact_definitions.specs.declared.b2_collide_edge.B2referenceFace.{B2referenceFace}
use Rattle.contact_definitions.specs.Searches.{least, first_greatest, first_least}
use Rattle.contact_definitions.specs.Axis.{face_a, face_b}
use Rattle.contact_definitions.specs.Manifold.{vertex_feature, face_feature, as_byte, contact_id, swapped_id}
use Rattle.contact_definitions.specs.Manifold.{with_local_point}
use Rattle.contact_definitions.specs.Manifold.{with_count, with_kind, manifold_accepted, miscounted}
use Rattle.contact_definitions.specs.Manifold.{unless_miscounted}
use Rattle.contact_definitions.specs.Manifold.{where_in_range}
use Rattle.contact_definitions.specs.ReferenceFace.{clipped_to_sides, manifold_of_ends}

-- ---- b2_find_max_separation
-- the deepest corner of outline 2 under face i of outline 1, in frame 2: xf carries frame 1 to frame 2
unfoldable pub face_separation : B2Transform → B2polygonShape → B2polygonShape → ℕ → Float
face_separation xf poly1 poly2 i =
    let n = b2_mul_rot_by_vec2 xf.q (point_at poly1.m_normals i) in
    let v1 = b2_mul_transform_by_vec2 xf (point_at poly1.m_vertices i) in
    least (λ j. b2_dot n (b2_sub (point_at poly2.m_vertices j) v1)) poly2.m_count

-- the face of outline 1 that keeps outline 2 off most, and its separation
unfoldable pub b2_find_max_separation : B2polygonShape → B2Transform → B2polygonShape → B2Transform → Best
b2_find_max_separation poly1 xf1 poly2 xf2 =
    first_greatest (face_separation (b2_mul_t_transform xf2 xf1) poly1 poly2) poly1.m_count

-- ---- the axis search: apart where a face of A, and then one of B, keeps the other outline off by more than both
-- skins; B is the reference only if its separation is above that of A by more than the tolerance, 0.1 * 0.005,
-- rounded: 8589935/2^34
abbrev pub tolerance : Float
tolerance = of_bits binary32 0x3a03_126f

unfoldable pub axis_of : Float → B2polygonShape → B2polygonShape → Best → Best → Axis
axis_of total polyA polyB a b =
    cond (lt total a.value) (Apart a.value)
    (cond (lt total b.value) (Apart b.value)
    (cond (lt (add binary32 a.value tolerance) b.value)
    (face_b b.value (point_at polyB.m_normals b.place) b.place)
    (face_a a.value (point_at polyA.m_normals a.place) a.place)))

unfoldable pub polygons_axis : Float → B2polygonShape → B2Transform → B2polygonShape → B2Transform → Axis
polygons_axis total polyA xfA polyB xfB =
    axis_of total polyA polyB (b2_find_max_separation polyA xfA polyB xfB) (b2_find_max_separation polyB xfB polyA xfA)

-- ---- b2_find_incident_edge
-- the face of outline 2 whose normal turns most against that of face edge1 of outline 1
unfoldable pub incident_place : B2polygonShape → B2Transform → ℕ → B2polygonShape → B2Transform → ℕ
incident_place poly1 xf1 edge1 poly2 xf2 =
    let normal1 = b2_mul_t_rot_by_vec2 xf2.q (b2_mul_rot_by_vec2 xf1.q (point_at poly1.m_normals edge1)) in
    (first_least (λ i. b2_dot normal1 (point_at poly2.m_normals i)) poly2.m_count).place

-- corner i of outline 2, carried by its placement; face edge1 of outline 1 meets it
unfoldable pub incident_end : ℕ → B2polygonShape → B2Transform → ℕ → B2clipVertex
incident_end edge1 poly2 xf2 i = record {
  v = b2_mul_transform_by_vec2 xf2 (point_at poly2.m_vertices i);
  id = contact_id (as_byte edge1) (as_byte i) face_feature vertex_feature;
}

unfoldable pub b2_find_incident_edge : B2polygonShape → B2Transform → ℕ → B2polygonShape → B2Transform
    → List B2clipVertex
b2_find_incident_edge poly1 xf1 edge1 poly2 xf2 =
    let i1 = incident_place poly1 xf1 edge1 poly2 xf2 in
    incident_end edge1 poly2 xf2 i1 ∷ incident_end edge1 poly2 xf2 (place_after poly2.m_count i1) ∷ []

-- ---- the reference face edge1 of outline 1
abbrev pub face_begin : B2polygonShape → ℕ → B2vec2
face_begin poly1 edge1 = point_at poly1.m_vertices edge1

abbrev pub face_end : B2polygonShape → ℕ → B2vec2
face_end poly1 edge1 = point_at poly1.m_vertices (place_after poly1.m_count edge1)

unfoldable pub local_tangent : B2polygonShape → ℕ → B2vec2
local_tangent poly1 edge1 = unit_or_same (b2_normalize (b2_sub (face_end poly1 edge1) (face_begin poly1 edge1)))

unfoldable pub face_middle : B2polygonShape → ℕ → B2vec2
face_middle poly1 edge1 = b2_scale half32 (b2_add (face_begin poly1 edge1) (face_end poly1 edge1))

-- from v11 to v12 along the tangent; each side is moved out by both skins
unfoldable pub face_along : ℕ → ℕ → B2vec2 → B2vec2 → B2vec2 → Float → B2referenceFace
face_along i1 i2 v11 v12 tangent total = record {
  i1 = i1;
  i2 = i2;
  v1 = v11;
  v2 = v12;
  normal = b2_cross_vec_by_scalar tangent one32;
  side_normal1 = b2_neg tangent;
  side_offset1 = add binary32 (neg (b2_dot tangent v11)) total;
  side_normal2 = tangent;
  side_offset2 = add binary32 (b2_dot tangent v12) total;
}

unfoldable pub outline_face : Float → B2polygonShape → B2Transform → ℕ → B2referenceFace
outline_face total poly1 xf1 edge1 =
    face_along edge1 (place_after poly1.m_count edge1) (b2_mul_transform_by_vec2 xf1 (face_begin poly1 edge1))
    (b2_mul_transform_by_vec2 xf1 (face_end poly1 edge1))
    (b2_mul_rot_by_vec2 xf1.q (local_tangent poly1 edge1)) total

-- ---- the manifold
-- whether an end lies within both skins of the face
unfoldable pub within_skins : Float → B2referenceFace → B2clipVertex → Bool
within_skins total face end =
    le (sub binary32 (b2_dot face.normal end.v) (b2_dot face.normal face.v1)) total

-- the point of an end, in frame 2; its id as outlines A and B have it, `named`
unfoldable pub outline_point : (B2contactId → B2contactId) → B2Transform → B2manifoldPoint → B2clipVertex
    → B2manifoldPoint
outline_point named xf2 old end = with_local_point old (b2_mul_t_transform_by_vec2 xf2 end.v) (named end.id)

-- face edge1 of outline 1 is the reference face
unfoldable pub outline_manifold : B2manifold → (B2contactId → B2contactId) → Float → B2polygonShape → B2Transform
    → ℕ → B2polygonShape
    → B2Transform → B2manifold
outline_manifold old named total poly1 xf1 edge1 poly2 xf2 =
    let face = outline_face total poly1 xf1 edge1 in
    manifold_of_ends old (b2_cross_vec_by_scalar (local_tangent poly1 edge1) one32) (face_middle poly1 edge1)
    (within_skins total face) (outline_point named xf2)
    (clipped_to_sides face (b2_find_incident_edge poly1 xf1 edge1 poly2 xf2))

-- the kind is written though no point may follow; where B is the reference, ids are swapped
abbrev pub manifold_on : Axis → B2manifold → Float → B2polygonShape → B2Transform → B2polygonShape → B2Transform
    → B2manifold
manifold_on (Apart s) old total polyA xfA polyB xfB = old
manifold_on (FaceA s x y i) old total polyA xfA polyB xfB =
    outline_manifold (with_kind old EFaceA) (λ id. id) total polyA xfA i polyB xfB
manifold_on (FaceB s x y i) old total polyA xfA polyB xfB =
    outline_manifold (with_kind old EFaceB) swapped_id total polyB xfB i polyA xfA

unfoldable pub polygons_manifold : B2manifold → Float → B2polygonShape → B2Transform → B2polygonShape → B2Transform
    → B2manifold
polygons_manifold old total polyA xfA polyB xfB =
    manifold_on (polygons_axis total polyA xfA polyB xfB) old total polyA xfA polyB xfB

unfoldable pub b2_collide_polygons : B2manifold → B2polygonShape → B2Transform → B2polygonShape → B2Transform
    → ManifoldAnswer
b2_collide_polygons old polyA xfA polyB xfB =
    unless_miscounted (miscounted polyA.m_count || miscounted polyB.m_count) old
    (where_in_range (polygon_in_range polyA && polygon_in_range polyB) xfA xfB old
    (manifold_accepted
    (polygons_manifold (with_count old 0) (add binary32 polyA.m_radius polyB.m_radius) polyA xfA polyB xfB)))
