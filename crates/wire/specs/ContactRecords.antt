-- What contact requests hold, at word i, with the names of docs/TEST_CALLS.md: a circle (CIRCLE) is radius and centre,
-- 3 words; a placement (XF) position, sine and cosine, 4; a manifold (MAN) kind, count, local normal, local point and
-- two points, each a local point, two impulses and an id, 16; a clip vertex (CLIPV) a point and an id, 3; a world
-- manifold (WMAN) normal, two points and two separations, 8; a point state is a word. An id is four bytes of a word.
-- Each is total: what no kind or state is, another test turns away. Definitions only.
use Rattle.std.specs.Prelude.{ℕ, ◌+◌, ◌*◌, Bool, cond, ◌&&◌, List, [], ◌∷◌, eqb, ltb}
use Rattle.floats.specs.declared.b2_math.B2Transform.{B2Transform}
use Rattle.shape_definitions.specs.declared.b2_circle_shape.B2circleShape.{B2circleShape}
use Rattle.contact_definitions.specs.declared.b2_collision.B2contactId.{B2contactId}
use Rattle.contact_definitions.specs.declared.b2_collision.B2manifoldPoint.{B2manifoldPoint}
use Rattle.contact_definitions.specs.declared.b2_collision.B2manifoldType.{B2manifoldType}
use Rattle.contact_definitions.specs.declared.b2_collision.B2manifoldType.TheVariants.{ECircles, EFaceA, EFaceB}
use Rattle.contact_definitions.specs.declared.b2_collision.B2manifold.{B2manifold}
use Rattle.contact_definitions.specs.declared.b2_collision.B2clipVertex.{B2clipVertex}
use Rattle.contact_definitions.specs.declared.b2_collision.B2worldManifold.{B2worldManifold}
use Rattle.contact_definitions.specs.declared.b2_collision.B2pointState.{B2pointState}
use Rattle.contact_definitions.specs.declared.b2_collision.B2pointState.TheVariants.{B2NullState, B2AddState}
use Rattle.contact_definitions.specs.declared.b2_collision.B2pointState.TheVariants.{B2PersistState, B2RemoveState}
use Rattle.contact_definitions.specs.declared.b2_collision.PointStates.{PointStates}
use Rattle.contact_definitions.specs.Manifold.{contact_id}
use Rattle.lines.specs.Fields.{byte_at, placement_at}
use Rattle.wire.specs.Words.{word_at}
use Rattle.wire.specs.Records.{float_at, vector_at}

-- ---- circles and placements
unfoldable pub circle_at : List ℕ → ℕ → B2circleShape
circle_at request i = record { m_radius = float_at request i; m_p = vector_at request (i + 1) }

abbrev pub transform_at : List ℕ → ℕ → B2Transform
transform_at request i = placement_at request (4 * i)

-- ---- ids: index A, index B, type A, type B, a byte each
unfoldable pub id_at : List ℕ → ℕ → B2contactId
id_at request i =
    contact_id (byte_at request (4 * i)) (byte_at request (4 * i + 1)) (byte_at request (4 * i + 2))
    (byte_at request (4 * i + 3))

-- ---- manifolds: the age of a point is none of the Rust's fields and has no word, so it is 0
unfoldable pub manifold_point_at : List ℕ → ℕ → B2manifoldPoint
manifold_point_at request i = record {
  local_point = vector_at request i;
  normal_impulse = float_at request (i + 2);
  tangent_impulse = float_at request (i + 3);
  id = id_at request (i + 4);
  age = 0;
}

-- the kind of document 01's number
unfoldable pub kind_of : ℕ → B2manifoldType
kind_of w = cond (eqb w 0) ECircles (cond (eqb w 1) EFaceA EFaceB)

unfoldable pub manifold_at : List ℕ → ℕ → B2manifold
manifold_at request i = record {
  points = manifold_point_at request (i + 6) ∷ manifold_point_at request (i + 11) ∷ [];
  local_normal = vector_at request (i + 2);
  local_point = vector_at request (i + 4);
  manifold_type = kind_of (word_at request i);
  point_count = word_at request (i + 1);
}

-- the word of a manifold's kind is one
abbrev pub kind_known : List ℕ → ℕ → Bool
kind_known request i = ltb (word_at request i) 3

-- ---- clip vertices
unfoldable pub clip_vertex_at : List ℕ → ℕ → B2clipVertex
clip_vertex_at request i = record { v = vector_at request i; id = id_at request (i + 2) }

unfoldable pub clip_vertices_at : List ℕ → ℕ → List B2clipVertex
clip_vertices_at request i = clip_vertex_at request i ∷ clip_vertex_at request (i + 3) ∷ []

-- ---- world manifolds
unfoldable pub world_manifold_at : List ℕ → ℕ → B2worldManifold
world_manifold_at request i = record {
  normal = vector_at request i;
  points = vector_at request (i + 2) ∷ vector_at request (i + 4) ∷ [];
  separations = float_at request (i + 6) ∷ float_at request (i + 7) ∷ [];
}

-- ---- point states: the state of document 01's number
unfoldable pub state_of : ℕ → B2pointState
state_of w = cond (eqb w 0) B2NullState (cond (eqb w 1) B2AddState (cond (eqb w 2) B2PersistState B2RemoveState))

unfoldable pub states_at : List ℕ → ℕ → PointStates
states_at request i = record {
  old0 = state_of (word_at request i);
  old1 = state_of (word_at request (i + 1));
  new0 = state_of (word_at request (i + 2));
  new1 = state_of (word_at request (i + 3));
}

abbrev pub state_known : List ℕ → ℕ → Bool
state_known request i = ltb (word_at request i) 4

unfoldable pub states_known : List ℕ → ℕ → Bool
states_known request i =
    state_known request i && state_known request (i + 1) && state_known request (i + 2) && state_known request (i + 3)
