-- Entry 2 answers a box, or nothing to a request of another length. Assumes nothing.
use mathlib.Core.Path.{refl, ap, ◌∙◌}
use mathlib.Core.Bool.{true}
use Rattle.wire.specs.Answers.{polygon_words}
use Rattle.wire.proofs.Bytes.{answered_words}
use Rattle.wire.proofs.Requests.{other_length, answered}
use Rattle.test_entries.specs.Outlines.{box_answer, outline_words}
use Rattle.test_entries.proofs.outlines.set_as_box.Goals as goal

pub returns-then-input-ne156 : goal.returns-then-input-ne156
unfolding box_answer
returns-then-input-ne156 c = other_length 39 _ _ _ _ c.if-input-ne156.true

pub returns : goal.returns
unfolding box_answer
returns c =
    answered 39 _ _ _ _ true c.if-input-ne156.false refl _ _ _ refl
    (answered_words polygon_words _ _ _ c.of.ensures
    ∙ ap outline_words c.b2_polygon_shape_set_as_box-answer.ensures ∙ simp (
      c.polygon-old.ensures,
      c.float-hx.ensures,
      c.float-hy.ensures,
    ))
    c.put_polygon.ensures
