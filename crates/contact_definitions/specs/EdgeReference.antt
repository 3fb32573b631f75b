-- Wall against outline, once the axis is known, in the wall's frame: the reference face, the edge that is clipped to
-- it, and the points. xf carries the outline to the wall's frame. Definitions only.
use Rattle.std.specs.Prelude.{Bool, List, [], ◌∷◌, ℕ, ◌-◌, Float}
use Rattle.std.specs.Float.Ieee.{le, lt}
use Rattle.algebra.specs.Loops.{places, scan}
use Rattle.floats.specs.declared.b2_math.B2vec2.{B2vec2}
use Rattle.floats.specs.declared.b2_math.B2Transform.{B2Transform}
use Rattle.floats.specs.B2Math.{vec2, b2_sub, b2_neg, b2_dot}
use Rattle.floats.specs.B2Math.{b2_mul_t_transform_by_vec2}
use Rattle.shape_definitions.specs.declared.b2_polygon_shape.B2polygonShape.{B2polygonShape}
use Rattle.shape_definitions.specs.declared.b2_edge_shape.B2edgeShape.{B2edgeShape}
use Rattle.shape_definitions.specs.Outline.{point_at, place_after}
use Rattle.contact_definitions.specs.declared.axis.Axis.{Axis}
use Rattle.contact_definitions.specs.declared.axis.Axis.TheVariants.{Apart, FaceA, FaceB}
use Rattle.contact_definitions.specs.declared.b2_collision.B2manifoldPoint.{B2manifoldPoint}
use Rattle.contact_definitions.specs.declared.b2_collision.B2manifold.{B2manifold}
use Rattle.contact_definitions.specs.declared.b2_collision.B2manifoldType.TheVariants.{EFaceA, EFaceB}
use Rattle.contact_definitions.specs.declared.b2_collision.B2clipVertex.{B2clipVertex}
use Rattle.contact_definitions.specs.declared.b2_collide_edge.B2referenceFace.{B2referenceFace}
use Rattle.contact_definitions.specs.Manifold.{vertex_feature, face_feature, as_byte, contact_id, swapped_id}
use Rattle.contact_definitions.specs.Manifold.{with_local_point}
use Rattle.contact_definitions.specs.Manifold.{with_kind}
use Rattle.contact_definitions.specs.ReferenceFace.{clipped_to_sides, manifold_of_ends}
use Rattle.contact_definitions.specs.EdgeAxis.{placed_corner, placed_normal, right_of}

-- ---- a face whose sides pass through its ends
unfoldable pub face_between : ℕ → ℕ → B2vec2 → B2vec2 → B2vec2 → B2vec2 → B2vec2 → B2referenceFace
face_between i1 i2 v1 v2 normal side1 side2 = record {
  i1 = i1;
  i2 = i2;
  v1 = v1;
  v2 = v2;
  normal = normal;
  side_normal1 = side1;
  side_offset1 = b2_dot side1 v1;
  side_normal2 = side2;
  side_offset2 = b2_dot side2 v2;
}

-- whether an end lies within the radius of the face
unfoldable pub within_radius : Float → B2referenceFace → B2clipVertex → Bool
within_radius radius face end = le (b2_dot face.normal (b2_sub end.v face.v1)) radius

-- the wall is the reference: the edge of the outline whose normal is most against the wall's is clipped, and points
-- are in the outline's frame
unfoldable pub most_against : B2Transform → B2polygonShape → B2vec2 → ℕ
most_against xf poly normal =
    scan (λ best i. lt (b2_dot normal (placed_normal xf poly i)) (b2_dot normal (placed_normal xf poly best))) 0
    (places 1 (poly.m_count - 1))

unfoldable pub outline_end : B2Transform → B2polygonShape → ℕ → B2clipVertex
outline_end xf poly i =
    record { v = placed_corner xf poly i; id = contact_id 0 (as_byte i) face_feature vertex_feature }

unfoldable pub outline_edge : B2Transform → B2polygonShape → ℕ → List B2clipVertex
outline_edge xf poly i1 = outline_end xf poly i1 ∷ outline_end xf poly (place_after poly.m_count i1) ∷ []

unfoldable pub point_in_frame : B2Transform → B2manifoldPoint → B2clipVertex → B2manifoldPoint
point_in_frame xf old end = with_local_point old (b2_mul_t_transform_by_vec2 xf end.v) end.id

unfoldable pub wall_manifold : B2manifold → B2edgeShape → B2vec2 → B2vec2 → B2Transform → B2polygonShape → Float
    → B2manifold
wall_manifold old edge edge1 normal xf poly radius =
    let face = face_between 0 1 edge.m_vertex1 edge.m_vertex2 normal (b2_neg edge1) edge1 in
    manifold_of_ends (with_kind old EFaceA) normal edge.m_vertex1 (within_radius radius face) (point_in_frame xf)
    (clipped_to_sides face (outline_edge xf poly (most_against xf poly normal)))

-- face i of the outline is the reference: the wall is clipped, and points are in the wall's frame. The ids are
-- swapped, though they name the wall first already: so the A side of the id names the outline's face, as in Box2D
unfoldable pub wall_edge : B2edgeShape → ℕ → List B2clipVertex
wall_edge edge i =
    record { v = edge.m_vertex2; id = contact_id 1 (as_byte i) vertex_feature face_feature }
    ∷ record { v = edge.m_vertex1; id = contact_id 0 (as_byte i) vertex_feature face_feature } ∷ []

unfoldable pub point_as_it_is : B2manifoldPoint → B2clipVertex → B2manifoldPoint
point_as_it_is old end = with_local_point old end.v (swapped_id end.id)

unfoldable pub placed_face : B2Transform → B2polygonShape → ℕ → B2referenceFace
placed_face xf poly i =
    let i2 = place_after poly.m_count i in
    let normal = placed_normal xf poly i in
    face_between i i2 (placed_corner xf poly i) (placed_corner xf poly i2) normal (right_of normal)
    (b2_neg (right_of normal))

unfoldable pub face_manifold : B2manifold → B2edgeShape → ℕ → B2Transform → B2polygonShape → Float → B2manifold
face_manifold old edge i xf poly radius =
    let face = placed_face xf poly i in
    manifold_of_ends (with_kind old EFaceB) (point_at poly.m_normals i) (point_at poly.m_vertices i)
    (within_radius radius face) point_as_it_is (clipped_to_sides face (wall_edge edge i))

abbrev pub edge_manifold_on : Axis → B2manifold → B2edgeShape → B2vec2 → B2Transform → B2polygonShape → Float
    → B2manifold
edge_manifold_on (Apart s) old edge edge1 xf poly radius = old
edge_manifold_on (FaceA s x y i) old edge edge1 xf poly radius = wall_manifold old edge edge1 (vec2 x y) xf poly radius
edge_manifold_on (FaceB s x y i) old edge edge1 xf poly radius = face_manifold old edge i xf poly radius
