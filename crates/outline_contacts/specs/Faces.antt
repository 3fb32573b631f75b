-- The reference face of one outline with the incident edge of the other, gathered before they are clipped. Definitions
-- only.
use Rattle.std.specs.Prelude.{Bool, List, [], ◌∷◌, ℕ, Float}
use Rattle.floats.specs.declared.b2_math.B2vec2.{B2vec2}
use Rattle.floats.specs.declared.b2_math.B2Transform.{B2Transform}
use Rattle.floats.specs.B2Math.{b2_dot, b2_mul_rot_by_vec2, b2_mul_t_rot_by_vec2, b2_mul_transform_by_vec2}
use Rattle.shape_definitions.specs.Outline.{point_at, place_after}
use Rattle.contact_definitions.specs.declared.b2_collision.B2clipVertex.{B2clipVertex}
use Rattle.contact_definitions.specs.declared.b2_collide_edge.B2referenceFace.{B2referenceFace}
use Rattle.contact_definitions.specs.Manifold.{face_feature, vertex_feature, as_byte, contact_id}
use Rattle.contact_definitions.specs.Searches.{first_least}
use Rattle.contact_definitions.specs.B2CollidePolygon.{face_along}
use Rattle.contact_definitions.specs.declared.axis.Corner.{Corner}
use Rattle.outline_contacts.specs.declared.faces.Face.{Face}

abbrev pub corner_of : List B2vec2 → ℕ → Corner
corner_of vs i = record { index = i; v = point_at vs i }

-- an end of the incident edge, at v
abbrev pub face_vertex : ℕ → ℕ → B2vec2 → B2clipVertex
face_vertex edge i v =
    record { v = v; id = contact_id (as_byte edge) (as_byte i) face_feature vertex_feature }

-- the face of outline 2 whose normal turns most against that of the reference face
abbrev pub against : B2vec2 → B2Transform → List B2vec2 → ℕ → B2Transform → ℕ
against normal xf1 n2s count2 xf2 =
    (first_least
    (λ i. b2_dot (b2_mul_t_rot_by_vec2 xf2.q (b2_mul_rot_by_vec2 xf1.q normal)) (point_at n2s i)) count2).place

-- the same data, with the incident edge from place i1
abbrev pub face_with : List B2vec2 → ℕ → ℕ → B2Transform → List B2vec2 → ℕ → B2Transform → Bool → ℕ → Face
face_with v1s edge count1 xf1 v2s count2 xf2 flip i1 = record {
  v11 = point_at v1s edge;
  v12 = point_at v1s (place_after count1 edge);
  edge = edge;
  iv2 = place_after count1 edge;
  i1 = i1;
  i2 = place_after count2 i1;
  w1 = point_at v2s i1;
  w2 = point_at v2s (place_after count2 i1);
  xf1 = xf1;
  xf2 = xf2;
  flip = flip;
}

unfoldable pub face_of : List B2vec2 → ℕ → B2vec2 → ℕ → B2Transform → List B2vec2 → List B2vec2 → ℕ → B2Transform
    → Bool → Face
face_of v1s edge normal count1 xf1 v2s n2s count2 xf2 flip =
    face_with v1s edge count1 xf1 v2s count2 xf2 flip (against normal xf1 n2s count2 xf2)

-- ---- the two, placed
abbrev pub incident_ends : Face → List B2clipVertex
incident_ends f =
    face_vertex f.edge f.i1 (b2_mul_transform_by_vec2 f.xf2 f.w1)
    ∷ face_vertex f.edge f.i2 (b2_mul_transform_by_vec2 f.xf2 f.w2) ∷ []

abbrev pub placed_along : Face → B2vec2 → Float → B2referenceFace
placed_along f local_tangent total =
    face_along f.edge f.iv2 (b2_mul_transform_by_vec2 f.xf1 f.v11)
    (b2_mul_transform_by_vec2 f.xf1 f.v12) (b2_mul_rot_by_vec2 f.xf1.q local_tangent) total
