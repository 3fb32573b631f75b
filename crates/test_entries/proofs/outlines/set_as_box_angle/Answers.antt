-- Entry 3 answers a box that is turned and moved, or nothing to a request of another length. Assumes nothing.
use mathlib.Core.Path.{refl, ap, ◌∙◌}
use mathlib.Core.Bool.{true}
use Rattle.wire.specs.Answers.{polygon_words}
use Rattle.wire.proofs.Bytes.{answered_words}
use Rattle.wire.proofs.Requests.{other_length, answered}
use Rattle.test_entries.specs.Outlines.{box_angle_answer, outline_words}
use Rattle.test_entries.proofs.outlines.set_as_box_angle.Goals as goal

pub returns-then-input-ne172 : goal.returns-then-input-ne172
unfolding box_angle_answer
returns-then-input-ne172 c = other_length 43 _ _ _ _ c.if-input-ne172.true

pub returns : goal.returns
unfolding box_angle_answer
returns c =
    answered 43 _ _ _ _ true c.if-input-ne172.false refl _ _ _ refl
    (answered_words polygon_words _ _ _ c.of.ensures
    ∙ ap outline_words c.b2_polygon_shape_set_as_box_angle-answer.ensures ∙ simp (
      c.polygon-old.ensures,
      c.float-hx.ensures,
      c.float-hy.ensures,
      c.vector-center.ensures,
      c.rotation-q.ensures,
    ))
    c.put_polygon.ensures
