-- Entry 18 answers the words of the verdict, or nothing to a request of another length. Assumes nothing.
use mathlib.Core.Path.{refl, ap, ◌∙◌}
use mathlib.Core.Bool.{true}
use Rattle.measured_definitions.specs.MeasuredBoxes.{measured_boxes, boxes_answer}
use Rattle.wire.specs.MeasuredRecords.{boxes_answer_words}
use Rattle.wire.proofs.Requests.{other_length, answered}
use Rattle.test_entries.specs.Measured.{measured_boxes_answer}
use Rattle.test_entries.proofs.measured.boxes.Goals as goal

pub returns-then-input-ne68 : goal.returns-then-input-ne68
unfolding measured_boxes_answer
returns-then-input-ne68 c = other_length 17 _ _ _ _ c.if-input-ne68.true

pub returns : goal.returns
unfolding measured_boxes_answer
returns c =
    let verdict = c.netxurbil_measured_boxes-answer.ensures
    ∙ (λ i. boxes_answer (measured_boxes (c.measured_box-a.ensures i) (c.measured_box-b.ensures i))) in
    answered 17 _ _ _ _ true c.if-input-ne68.false refl _ _ _ refl (ap boxes_answer_words verdict)
    c.put_boxes_answer.ensures
