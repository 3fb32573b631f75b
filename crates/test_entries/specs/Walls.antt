-- What the entries that make walls answer: the refusal (0 for accepted), and then the wall after the call; to a
-- malformed request, no word at all. Definitions only.
use Rattle.std.specs.Prelude.{ℕ, List, ◌∷◌}
use Rattle.shape_definitions.specs.Answers.{EdgeAnswer}
use Rattle.shape_definitions.specs.Edge.{b2_set_one_sided, b2_set_two_sided}
use Rattle.wire.specs.Requests.{well_formed}
use Rattle.wire.specs.Records.{vector_at, edge_at, edge_known}
use Rattle.wire.specs.Answers.{edge_words}

abbrev pub wall_words : EdgeAnswer → List ℕ
wall_words a = a.refusal ∷ edge_words a.shape

-- 5, a wall, v0, v1, v2, v3
unfoldable pub one_sided_answer : List ℕ → List ℕ
one_sided_answer request =
    well_formed 19 (edge_known request 1) request
    (wall_words (b2_set_one_sided (edge_at request 1) (vector_at request 11) (vector_at request 13)
    (vector_at request 15) (vector_at request 17)))

-- 6, a wall, v1, v2
unfoldable pub two_sided_answer : List ℕ → List ℕ
two_sided_answer request =
    well_formed 15 (edge_known request 1) request
    (wall_words (b2_set_two_sided (edge_at request 1) (vector_at request 11) (vector_at request 13)))
