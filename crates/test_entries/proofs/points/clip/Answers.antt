-- Entry 12 answers what is left of a segment, or nothing to a request of another length. Assumes nothing.
use mathlib.Core.Path.{refl, ap, ◌∙◌}
use mathlib.Core.Bool.{true}
use Rattle.wire.specs.ContactAnswers.{clip_answer_words}
use Rattle.wire.proofs.Bytes.{answered_words}
use Rattle.wire.proofs.Requests.{other_length, answered}
use Rattle.wire.proofs.TwoPoints.{clip_words}
use Rattle.test_entries.specs.Points.{clip_answer}
use Rattle.test_entries.proofs.points.clip.Goals as goal

pub returns-then-input-ne68 : goal.returns-then-input-ne68
unfolding clip_answer
returns-then-input-ne68 c = other_length 17 _ _ _ _ c.if-input-ne68.true

pub returns : goal.returns
unfolding clip_answer clip_answer_words
returns c =
    answered 17 _ _ _ _ true c.if-input-ne68.false refl _ _ _ refl
    (answered_words clip_words _ _ _ c.of.ensures
    ∙ ap clip_answer_words c.b2_clip_segment_to_line-answer.ensures ∙ simp (
      c.clip_vertices-old.ensures,
      c.clip_vertices-ends.ensures,
      c.vector-normal.ensures,
      c.float-offset.ensures,
      c.word-index.ensures,
    ))
    c.put_clip.ensures
