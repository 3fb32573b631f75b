-- Document 01, "The touch record": answers as bytes, and as lines. `00`; `ff` and the refusal; or the test's result,
-- with the age of each point (document 02, request 06), of a chain (request 03) that of each piece. Definitions only.
use Rattle.std.specs.Prelude.{ℕ, ◌+◌, ◌*◌, ◌-◌, cond, List, [], ◌∷◌, ◌++◌, eqb, length, get_or, take, replicate}
use Rattle.algebra.specs.Buffer.{over}
use Rattle.rounding.specs.Literals.{zero32}
use Rattle.shape_definitions.specs.Outline.{origin}
use Rattle.lines.specs.Fields.{number_bytes, float_bytes, vector_bytes}
use Rattle.lines.specs.Hex.{line_of}
use Rattle.contact_definitions.specs.declared.b2_collision.B2pointState.TheVariants.{B2NullState}
use Rattle.contact_definitions.specs.declared.b2_collision.PointStates.{PointStates}
use Rattle.contact_definitions.specs.PointStates.{state_number}
use Rattle.record_definitions.specs.declared.touch.Touch.{Touch}
use Rattle.record_definitions.specs.declared.touch.TouchPoint.{TouchPoint}
use Rattle.record_definitions.specs.declared.frame.Answer.{Answer}
use Rattle.record_definitions.specs.declared.frame.Answer.TheVariants.{Accepted, Refused, Tested}
use Rattle.record_definitions.specs.declared.frame.Said.{Said}
use Rattle.record_definitions.specs.World.{most_pieces}

-- ---- a test: 05, a, b, point count, kind, two old states, two new states, touch count
abbrev pub names_bytes : Touch → List ℕ
names_bytes t = 5 ∷ t.a ∷ t.b ∷ t.count ∷ t.kind ∷ []

abbrev pub states_bytes : PointStates → List ℕ
states_bytes s = state_number s.old0 ∷ state_number s.old1 ∷ state_number s.new0 ∷ state_number s.new1 ∷ []

unfoldable pub head_bytes : Touch → List ℕ
head_bytes t = names_bytes t ++ states_bytes t.states ++ number_bytes t.touches

-- with points, then the normal, and each point's x, y, separation and age
unfoldable pub point_bytes : TouchPoint → List ℕ
point_bytes p = vector_bytes p.p ++ float_bytes p.separation ++ number_bytes p.age

unfoldable pub touch_bytes : Touch → List ℕ
touch_bytes t =
    cond (eqb t.count 0) (head_bytes t)
    (cond (eqb t.count 1) (head_bytes t ++ vector_bytes t.normal ++ point_bytes t.first)
    (head_bytes t ++ vector_bytes t.normal ++ point_bytes t.first ++ point_bytes t.second))

-- ---- any answer
abbrev pub answer_bytes : Answer → List ℕ
answer_bytes Accepted = 0 ∷ []
answer_bytes (Refused number) = 255 ∷ number ∷ []
answer_bytes (Tested t) = touch_bytes t

-- the bytes of the longest answer, two points, and the characters of its line
abbrev pub longest_answer : ℕ
longest_answer = 53

abbrev pub longest_line : ℕ
longest_line = 2 * longest_answer + 1

-- ---- what is said: the answer alone, or the results of the pieces of a chain
abbrev pub blank_point : TouchPoint
blank_point = record { p = origin; separation = zero32; age = 0 }

abbrev pub blank_touch : Touch
blank_touch = record {
  a = 0;
  b = 0;
  count = 0;
  kind = 0;
  states = record { old0 = B2NullState; old1 = B2NullState; new0 = B2NullState; new1 = B2NullState };
  touches = 0;
  normal = origin;
  first = blank_point;
  second = blank_point;
}

-- those of a chain behind its first piece
abbrev pub most_further : ℕ
most_further = most_pieces - 1

abbrev pub said_alone : Answer → Said
said_alone answer = record { answer = answer; further = 0; more = replicate most_further blank_touch }

abbrev pub said_of_touches : Touch → List Touch → Said
said_of_touches t touches = record {
  answer = Tested t;
  further = length touches;
  more = over touches (replicate most_further blank_touch);
}

-- ---- the two printings: the export's bytes, and the program's lines, one for each piece
abbrev pub said_bytes : Said → List ℕ
said_bytes said = answer_bytes said.answer

unfoldable pub touch_lines : List Touch → List ℕ
touch_lines [] = []
touch_lines (t ∷ touches) = line_of (touch_bytes t) ++ touch_lines touches

abbrev pub said_line : Said → List ℕ
said_line said = line_of (said_bytes said) ++ touch_lines (take said.further said.more)

-- the results that are said, in order
abbrev pub answer_touches : Answer → List Touch
answer_touches Accepted = []
answer_touches (Refused number) = []
answer_touches (Tested t) = t ∷ []

abbrev pub touches_said : Said → List Touch
touches_said said = answer_touches said.answer ++ take said.further said.more

-- that of piece i
abbrev pub result_of : Said → ℕ → Touch
result_of said i = get_or (touches_said said) i blank_touch

-- the characters of the longest answer: a chain of seven pieces, each with two points
abbrev pub longest_said : ℕ
longest_said = most_pieces * longest_line
