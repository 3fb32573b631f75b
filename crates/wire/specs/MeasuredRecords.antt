-- Measured circles and boxes of a request, at word i: lowest and highest of each number, in two's complement, x, y and
-- radius, or x, y and both half-widths; and answers about two of them as words. Definitions only.
use Rattle.std.specs.Prelude.{ℕ, ◌+◌, List, [], ◌∷◌, ◌++◌}
use Rattle.measured_definitions.specs.declared.Span.{Span}
use Rattle.measured_definitions.specs.declared.MeasuredCircle.{MeasuredCircle}
use Rattle.measured_definitions.specs.declared.MeasuredBox.{MeasuredBox}
use Rattle.measured_definitions.specs.declared.WholeCircle.{WholeCircle}
use Rattle.measured_definitions.specs.declared.WholeBox.{WholeBox}
use Rattle.measured_definitions.specs.declared.CirclePair.{CirclePair}
use Rattle.measured_definitions.specs.declared.BoxPair.{BoxPair}
use Rattle.measured_definitions.specs.declared.CirclesAnswer.{CirclesAnswer}
use Rattle.measured_definitions.specs.declared.BoxesAnswer.{BoxesAnswer}
use Rattle.wire.specs.Words.{word_at, signed, unsigned}

unfoldable pub span_at : List ℕ → ℕ → Span
span_at request i = record { lowest = signed (word_at request i); highest = signed (word_at request (i + 1)) }

unfoldable pub measured_circle_at : List ℕ → ℕ → MeasuredCircle
measured_circle_at request i = record {
  x = span_at request i;
  y = span_at request (i + 2);
  radius = span_at request (i + 4);
}

unfoldable pub measured_box_at : List ℕ → ℕ → MeasuredBox
measured_box_at request i = record {
  x = span_at request i;
  y = span_at request (i + 2);
  hx = span_at request (i + 4);
  hy = span_at request (i + 6);
}

-- ---- answers: the refusal, the verdict, the touching pair, the pair apart
abbrev pub circle_words : WholeCircle → List ℕ
circle_words w = unsigned w.x ∷ unsigned w.y ∷ unsigned w.radius ∷ []

abbrev pub circle_pair_words : CirclePair → List ℕ
circle_pair_words w = circle_words w.a ++ circle_words w.b

abbrev pub circles_answer_words : CirclesAnswer → List ℕ
circles_answer_words r =
    r.refusal ∷ r.verdict ∷ circle_pair_words r.touching ++ circle_pair_words r.apart

abbrev pub box_words : WholeBox → List ℕ
box_words w = unsigned w.x ∷ unsigned w.y ∷ unsigned w.hx ∷ unsigned w.hy ∷ []

abbrev pub box_pair_words : BoxPair → List ℕ
box_pair_words w = box_words w.a ++ box_words w.b

abbrev pub boxes_answer_words : BoxesAnswer → List ℕ
boxes_answer_words r = r.refusal ∷ r.verdict ∷ box_pair_words r.touching ++ box_pair_words r.apart
