-- What the entries of the root, of unit vectors and of headings answer: 0, and then the result; to a malformed request,
-- no word at all. Definitions only.
use Rattle.std.specs.Prelude.{ℕ, true, cond, List, [], ◌∷◌, ltb, Float}
use Rattle.std.specs.Float.{binary32}
use Rattle.sqrt.specs.declared.root.Rooted.{Rooted}
use Rattle.sqrt.specs.declared.root.Rooted.TheVariants.{Special, Exact, Rounded}
use Rattle.sqrt.specs.Sqrt.{root_by_steps}
use Rattle.floats.specs.declared.b2_math.B2Rot.{B2Rot}
use Rattle.floats.specs.declared.b2_math.Normalized.{Normalized}
use Rattle.floats.specs.B2Math.{vec2, b2_sqrt, b2_normalize}
use Rattle.headings.specs.Headings.{heading}
use Rattle.shape_definitions.specs.Refusal.{unknown_turn}
use Rattle.record_definitions.specs.Frame.{largest_turn}
use Rattle.wire.specs.Words.{word_at}
use Rattle.wire.specs.Requests.{well_formed}
use Rattle.wire.specs.Records.{float_at}
use Rattle.wire.specs.Answers.{bits, flag}

-- 15, x: the root
unfoldable pub root_answer : List ℕ → List ℕ
root_answer request = well_formed 2 true request (0 ∷ bits (b2_sqrt (float_at request 1)) ∷ [])

-- 16, x, y: the length that was found, the vector made unit, and whether there was a length of at least 2^-23
abbrev pub normalized_words : Normalized → List ℕ
normalized_words n = 0 ∷ bits n.length ∷ bits n.v.x ∷ bits n.v.y ∷ flag n.had_length ∷ []

unfoldable pub normalize_answer : List ℕ → List ℕ
normalize_answer request =
    well_formed 3 true request (normalized_words (b2_normalize (vec2 (float_at request 1) (float_at request 2))))

-- 17, turn number: the sine and the cosine of its heading; 14 and two zeros where it is above 4,095
abbrev pub heading_words : B2Rot → List ℕ
heading_words q = 0 ∷ bits q.s ∷ bits q.c ∷ []

abbrev pub turn_words : ℕ → List ℕ
turn_words number = cond (ltb largest_turn number) (unknown_turn ∷ 0 ∷ 0 ∷ []) (heading_words (heading number))

unfoldable pub heading_answer : List ℕ → List ℕ
heading_answer request = well_formed 2 true request (turn_words (word_at request 1))

-- 18, x: the step that gave the root, 0 special, 1 exact, 2 rounded, and the root
abbrev pub given : ℕ → Float → List ℕ
given step r = 0 ∷ step ∷ bits r ∷ []

abbrev pub step_words : Rooted → List ℕ
step_words (Special r) = given 0 r
step_words (Exact r) = given 1 r
step_words (Rounded r) = given 2 r

unfoldable pub root_step_answer : List ℕ → List ℕ
root_step_answer request = well_formed 2 true request (step_words (root_by_steps binary32 (float_at request 1)))
