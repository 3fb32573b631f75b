-- What the entries that make and test outlines answer: the refusal (0 for accepted), and then the complete record after
-- the call; to a malformed request, no word at all. Definitions only.
use Rattle.std.specs.Prelude.{ℕ, ◌+◌, ◌*◌, true, List, [], ◌∷◌}
use Rattle.shape_definitions.specs.declared.b2_polygon_shape.PolygonAnswer.{PolygonAnswer}
use Rattle.shape_definitions.specs.Answers.{ValidateAnswer}
use Rattle.shape_definitions.specs.Polygon.{b2_polygon_shape_set}
use Rattle.shape_definitions.specs.Boxes.{b2_polygon_shape_set_as_box, b2_polygon_shape_set_as_box_angle}
use Rattle.shape_definitions.specs.Validate.{b2_polygon_shape_validate}
use Rattle.wire.specs.Words.{word_at}
use Rattle.wire.specs.Requests.{well_formed}
use Rattle.wire.specs.Records.{float_at, vector_at, points_at, rotation_at, polygon_at}
use Rattle.wire.specs.Answers.{flag, polygon_words}

abbrev pub outline_words : PolygonAnswer → List ℕ
outline_words a = a.refusal ∷ polygon_words a.shape

-- 1, an outline, n, n points
unfoldable pub set_answer : List ℕ → List ℕ
set_answer request =
    well_formed (38 + 2 * word_at request 37) true request
    (outline_words (b2_polygon_shape_set (polygon_at request 1) (points_at request 38 (word_at request 37))))

-- 2, an outline, hx, hy
unfoldable pub box_answer : List ℕ → List ℕ
box_answer request =
    well_formed 39 true request
    (outline_words (b2_polygon_shape_set_as_box (polygon_at request 1) (float_at request 37) (float_at request 38)))

-- 3, an outline, hx, hy, the centre, sine, cosine
unfoldable pub box_angle_answer : List ℕ → List ℕ
box_angle_answer request =
    well_formed 43 true request
    (outline_words (b2_polygon_shape_set_as_box_angle (polygon_at request 1) (float_at request 37)
    (float_at request 38) (vector_at request 39) (rotation_at request 41)))

-- 4, an outline: whether it is convex
abbrev pub validity_words : ValidateAnswer → List ℕ
validity_words v = v.refusal ∷ flag v.valid ∷ []

unfoldable pub validate_answer : List ℕ → List ℕ
validate_answer request =
    well_formed 37 true request (validity_words (b2_polygon_shape_validate (polygon_at request 1)))
