-- Answers of the contact calls, as words: the refusal, and the manifold, the clip points, the world manifold or the
-- point states after the call. Definitions only.
use Rattle.std.specs.Prelude.{ℕ, ◌+◌, ◌*◌, ◌^◌, List, [], ◌∷◌, ◌++◌, get_or}
use Rattle.rounding.specs.Literals.{zero32}
use Rattle.floats.specs.declared.b2_math.B2vec2.{B2vec2}
use Rattle.shape_definitions.specs.Outline.{origin}
use Rattle.contact_definitions.specs.declared.b2_collision.B2contactId.{B2contactId}
use Rattle.contact_definitions.specs.declared.b2_collision.B2manifoldPoint.{B2manifoldPoint}
use Rattle.contact_definitions.specs.declared.b2_collision.B2manifold.{B2manifold}
use Rattle.contact_definitions.specs.declared.b2_collision.B2clipVertex.{B2clipVertex}
use Rattle.contact_definitions.specs.declared.b2_collision.B2worldManifold.{B2worldManifold}
use Rattle.contact_definitions.specs.declared.b2_collision.PointStates.{PointStates}
use Rattle.contact_definitions.specs.Answers.{ManifoldAnswer}
use Rattle.contact_definitions.specs.Answers.{ClipAnswer}
use Rattle.contact_definitions.specs.Answers.{WorldAnswer}
use Rattle.contact_definitions.specs.Answers.{PointStatesAnswer}
use Rattle.contact_definitions.specs.Manifold.{kind_number, manifold_point, default_id}
use Rattle.contact_definitions.specs.PointStates.{state_number}
use Rattle.wire.specs.Answers.{bits, low_word}

abbrev pub vector_words : B2vec2 → List ℕ
vector_words v = bits v.x ∷ bits v.y ∷ []

-- index A, index B, type A, type B, a byte each, highest first
unfoldable pub id_word : B2contactId → ℕ
id_word id = id.cf.index_a * 2 ^ 24 + id.cf.index_b * 2 ^ 16 + id.cf.type_a * 2 ^ 8 + id.cf.type_b

-- ---- manifolds
unfoldable pub manifold_point_words : B2manifoldPoint → List ℕ
manifold_point_words p =
    vector_words p.local_point ++
    (bits p.normal_impulse ∷ bits p.tangent_impulse ∷ id_word p.id ∷ [])

unfoldable pub manifold_words : B2manifold → List ℕ
manifold_words m =
    kind_number m.manifold_type ∷ low_word m.point_count ∷ vector_words m.local_normal
    ++ vector_words m.local_point
    ++ manifold_point_words (manifold_point m 0)
    ++ manifold_point_words (manifold_point m 1)

abbrev pub manifold_answer_words : ManifoldAnswer → List ℕ
manifold_answer_words a = a.refusal ∷ manifold_words a.manifold

-- ---- clips: the number of points, and both output places
unfoldable pub clip_vertex_words : B2clipVertex → List ℕ
clip_vertex_words c = vector_words c.v ++ (id_word c.id ∷ [])

abbrev pub no_vertex : B2clipVertex
no_vertex = record { v = origin; id = default_id }

unfoldable pub clip_answer_words : ClipAnswer → List ℕ
clip_answer_words a =
    a.refusal ∷ low_word a.count ∷ clip_vertex_words (get_or a.points 0 no_vertex)
    ++ clip_vertex_words (get_or a.points 1 no_vertex)

-- ---- world manifolds
unfoldable pub world_manifold_words : B2worldManifold → List ℕ
world_manifold_words w =
    vector_words w.normal ++ vector_words (get_or w.points 0 origin) ++ vector_words (get_or w.points 1 origin)
    ++ (bits (get_or w.separations 0 zero32) ∷ bits (get_or w.separations 1 zero32) ∷ [])

abbrev pub world_answer_words : WorldAnswer → List ℕ
world_answer_words a = a.refusal ∷ world_manifold_words a.world

-- ---- point states
unfoldable pub states_words : PointStates → List ℕ
states_words s =
    state_number s.old0 ∷ state_number s.old1 ∷ state_number s.new0 ∷ state_number s.new1 ∷ []

abbrev pub states_answer_words : PointStatesAnswer → List ℕ
states_answer_words a = a.refusal ∷ states_words a.states
