-- What is clipped against what in wall against outline, as one record, and the manifold of it. Definitions only.
use Rattle.std.specs.Prelude.{Bool, cond, true, false, [], ◌∷◌, ℕ, Float}
use Rattle.floats.specs.declared.b2_math.B2Transform.{B2Transform}
use Rattle.floats.specs.B2Math.{b2_mul_t_transform_by_vec2, b2_neg}
use Rattle.floats.specs.declared.b2_math.B2vec2.{B2vec2}
use Rattle.shape_definitions.specs.declared.b2_polygon_shape.B2polygonShape.{B2polygonShape}
use Rattle.shape_definitions.specs.Outline.{place_after}
use Rattle.contact_definitions.specs.declared.b2_collision.B2clipVertex.{B2clipVertex}
use Rattle.contact_definitions.specs.Manifold.{swapped_id, vertex_feature, face_feature, as_byte, contact_id}
use Rattle.contact_definitions.specs.Manifold.{with_count, with_kind}
use Rattle.contact_definitions.specs.declared.b2_collision.B2manifold.{B2manifold}
use Rattle.contact_definitions.specs.declared.b2_collision.B2manifoldPoint.{B2manifoldPoint}
use Rattle.contact_definitions.specs.declared.b2_collision.B2manifoldType.TheVariants.{EFaceA, EFaceB}
use Rattle.contact_definitions.specs.ReferenceFace.{clipped_to_sides, manifold_of_ends}
use Rattle.contact_definitions.specs.EdgeReference.{face_between, within_radius, most_against, outline_end, placed_face}
use Rattle.contact_definitions.specs.EdgeReference.{point_in_frame, point_as_it_is}
use Rattle.wall_contacts.specs.declared.edge_reference.Reference.{Reference}

abbrev pub placed_end : Bool → B2Transform → B2clipVertex → B2clipVertex
placed_end flip xf end =
    cond flip (record { v = end.v; id = swapped_id end.id })
    (record { v = b2_mul_t_transform_by_vec2 xf end.v; id = end.id })

unfoldable pub wall_reference : B2Transform → B2polygonShape → B2vec2 → B2vec2 → B2vec2 → B2vec2 → Reference
wall_reference xf poly v1 v2 edge1 normal =
    let i1 = most_against xf poly normal in
    record {
      face = face_between 0 1 v1 v2 normal (b2_neg edge1) edge1;
      a = outline_end xf poly i1;
      b = outline_end xf poly (place_after poly.m_count i1);
      local_normal = normal;
      local_point = v1;
      flip = false;
    }

-- an end of the wall that is clipped to face i of the outline
abbrev pub wall_end : B2vec2 → ℕ → ℕ → B2clipVertex
wall_end v end i = record { v = v; id = contact_id end (as_byte i) vertex_feature face_feature }

unfoldable pub face_reference : B2Transform → B2polygonShape → B2vec2 → B2vec2 → ℕ → B2vec2 → B2vec2 → Reference
face_reference xf poly v1 v2 i normal point = record {
  face = placed_face xf poly i;
  a = wall_end v2 1 i;
  b = wall_end v1 0 i;
  local_normal = normal;
  local_point = point;
  flip = true;
}

-- a point is taken to the outline's frame, or stays as it is with its id swapped
abbrev pub point_by : Bool → B2Transform → B2manifoldPoint → B2clipVertex → B2manifoldPoint
point_by flip xf = cond flip point_as_it_is (point_in_frame xf)

unfoldable pub reference_manifold : Reference → B2manifold → B2Transform → Float → B2manifold
reference_manifold f m xf radius =
    manifold_of_ends (with_kind (with_count m 0) (cond f.flip EFaceB EFaceA)) f.local_normal f.local_point
    (within_radius radius f.face) (point_by f.flip xf) (clipped_to_sides f.face (f.a ∷ f.b ∷ []))
