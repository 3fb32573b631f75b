-- The two references, from the parts that the code has, and the manifold of a reference, which is that of its axis.
-- Assumes nothing.
use mathlib.Core.Path.{◌≡◌, refl}
use mathlib.Core.Bool.{true, false}
use Prim.Native.Nat.{ℕ, ◌<◌}
use native.Mathlib.Omega.{arith}
use lib.Ieee.{neg, Float}
use lib.ListN.{length, get_or}
use Rattle.floats.specs.declared.b2_math.B2vec2.{B2vec2}
use Rattle.floats.specs.declared.b2_math.B2Transform.{B2Transform}
use Rattle.floats.specs.B2Math.{vec2, b2_neg}
use Rattle.shape_definitions.specs.declared.b2_polygon_shape.B2polygonShape.{B2polygonShape}
use Rattle.shape_definitions.specs.Outline.{place_after, point_at}
use Rattle.shape_definitions.specs.declared.b2_edge_shape.B2edgeShape.{B2edgeShape}
use Rattle.contact_definitions.specs.declared.b2_collision.B2clipVertex.{B2clipVertex}
use Rattle.contact_definitions.specs.declared.b2_collide_edge.B2referenceFace.{B2referenceFace}
use Rattle.contact_definitions.specs.Manifold.{vertex_feature, face_feature, as_byte, contact_id, with_count}
use Rattle.contact_definitions.specs.EdgeAxis.{placed_corner, placed_normal, right_of}
use Rattle.contact_definitions.specs.EdgeReference.{face_between, most_against, outline_end, placed_face, outline_edge}
use Rattle.contact_definitions.specs.EdgeReference.{wall_edge, wall_manifold, face_manifold}
use Rattle.contact_definitions.specs.declared.b2_collision.B2manifold.{B2manifold}
use Rattle.wall_contacts.specs.declared.edge_reference.Reference.{Reference}
use Rattle.wall_contacts.specs.Reference.{wall_reference, face_reference, reference_manifold}
use Rattle.wall_contacts.proofs.RowsFilled.{at_place}

abbrev vertex : B2vec2 → ℕ → ℕ → ℕ → ℕ → B2clipVertex
vertex v index_a index_b type_a type_b =
    record { v = v; id = contact_id (as_byte index_a) (as_byte index_b) type_a type_b }

module _ (xf : B2Transform) (poly : B2polygonShape) (v1 v2 : B2vec2) (count : ℕ)
    (count_is : poly.m_count ≡ count) where
  pub wall_reference_is : (edge1 normal w1 w2 back : B2vec2) (i1 i2 : ℕ) (face : B2referenceFace) (a b : B2clipVertex)
      → i1 ≡ most_against xf poly normal → i2 ≡ place_after count i1
      → w1 ≡ placed_corner xf poly i1 → w2 ≡ placed_corner xf poly i2
      → back ≡ b2_neg edge1 → face ≡ face_between 0 1 v1 v2 normal back edge1
      → a ≡ vertex w1 0 i1 face_feature vertex_feature → b ≡ vertex w2 0 i2 face_feature vertex_feature
      → ◌≡◌ {A = Reference} (record {
        face = face;
        a = a;
        b = b;
        local_normal = normal;
        local_point = v1;
        flip = false;
      }) (wall_reference xf poly v1 v2 edge1 normal)
  unfolding wall_reference outline_end
  wall_reference_is edge1 normal w1 w2 back i1 i2 face a b i1_is i2_is w1_is w2_is back_is face_is a_is b_is =
      rw (face_is, a_is, b_is, back_is, w1_is, w2_is, i2_is, i1_is, ← count_is) refl

  pub face_reference_is : (i1 i2 : ℕ) (w1 w2 normal back local_normal local_point : B2vec2) (face : B2referenceFace)
      (a b : B2clipVertex)
      → i2 ≡ place_after count i1 → w1 ≡ placed_corner xf poly i1 → w2 ≡ placed_corner xf poly i2
      → normal ≡ placed_normal xf poly i1
      → back ≡ b2_neg (vec2 normal.y (neg normal.x))
      → face ≡ face_between i1 i2 w1 w2 normal (vec2 normal.y (neg normal.x)) back
      → a ≡ vertex v2 1 i1 vertex_feature face_feature → b ≡ vertex v1 0 i1 vertex_feature face_feature
      → ◌≡◌ {A = Reference} (record {
        face = face;
        a = a;
        b = b;
        local_normal = local_normal;
        local_point = local_point;
        flip = true;
      }) (face_reference xf poly v1 v2 i1 local_normal local_point)
  unfolding face_reference placed_face right_of
  face_reference_is i1 i2 w1 w2 normal back local_normal local_point face a b i2_is w1_is w2_is normal_is back_is
      face_is a_is b_is =
      rw (face_is, a_is, b_is, back_is, w1_is, w2_is, normal_is, i2_is, ← count_is) refl

module _ (m : B2manifold) (edge : B2edgeShape) (xf : B2Transform) (poly : B2polygonShape) (radius : Float) where
  pub on_wall : (edge1 normal : B2vec2)
      → reference_manifold (wall_reference xf poly edge.m_vertex1 edge.m_vertex2 edge1 normal) m xf radius
      ≡ wall_manifold (with_count m 0) edge edge1 normal xf poly radius
  unfolding reference_manifold wall_reference wall_manifold outline_edge
  on_wall edge1 normal = refl

  on_face : (i : ℕ)
      → reference_manifold (face_reference xf poly edge.m_vertex1 edge.m_vertex2 i
      (point_at poly.m_normals i) (point_at poly.m_vertices i)) m xf radius
      ≡ face_manifold (with_count m 0) edge i xf poly radius
  unfolding reference_manifold face_reference face_manifold wall_edge
  on_face i = refl

  -- its normal and point are read from the outline; d and e are whatever is said to stand past the end
  pub on_face_read : (i : ℕ) (d e : B2vec2) → i < 8 → length poly.m_normals ≡ 8 → length poly.m_vertices ≡ 8
      → reference_manifold (face_reference xf poly edge.m_vertex1 edge.m_vertex2 i
      (get_or poly.m_normals i d) (get_or poly.m_vertices i e)) m xf radius
      ≡ face_manifold (with_count m 0) edge i xf poly radius
  on_face_read i d e below normals vertices =
      rw (at_place poly.m_normals i d (omega arith), at_place poly.m_vertices i e (omega arith)) (on_face i)
