-- What the entries of clipping, world points and point states answer: the refusal (0 for accepted), and then the
-- complete record after the call; to a malformed request, no word at all. Definitions only.
use Rattle.std.specs.Prelude.{ℕ, true, ◌&&◌, List}
use Rattle.contact_definitions.specs.Clip.{b2_clip_segment_to_line}
use Rattle.contact_definitions.specs.WorldManifold.{b2_world_manifold_initialize}
use Rattle.contact_definitions.specs.PointStates.{b2_get_point_states}
use Rattle.wire.specs.Words.{word_at}
use Rattle.wire.specs.Requests.{well_formed}
use Rattle.wire.specs.Records.{float_at, vector_at}
use Rattle.wire.specs.ContactRecords.{transform_at, manifold_at, kind_known, clip_vertices_at, world_manifold_at}
use Rattle.wire.specs.ContactRecords.{states_at, states_known}
use Rattle.wire.specs.ContactAnswers.{clip_answer_words, world_answer_words, states_answer_words}

-- 12, two clip vertices (the output places), two clip vertices, normal, offset, index
unfoldable pub clip_answer : List ℕ → List ℕ
clip_answer request =
    well_formed 17 true request
    (clip_answer_words
    (b2_clip_segment_to_line (clip_vertices_at request 1) (clip_vertices_at request 7) (vector_at request 13)
    (float_at request 15) (word_at request 16)))

-- 13, a world manifold, a manifold, placement A, radius A, placement B, radius B
unfoldable pub world_points_answer : List ℕ → List ℕ
world_points_answer request =
    well_formed 35 (kind_known request 9) request
    (world_answer_words
    (b2_world_manifold_initialize (world_manifold_at request 1) (manifold_at request 9) (transform_at request 25)
    (float_at request 29) (transform_at request 30) (float_at request 34)))

-- 14, four states, the old manifold, the new manifold
unfoldable pub point_states_answer : List ℕ → List ℕ
point_states_answer request =
    well_formed 37 (states_known request 1 && kind_known request 5 && kind_known request 21) request
    (states_answer_words (b2_get_point_states (states_at request 1) (manifold_at request 5) (manifold_at request 21)))
