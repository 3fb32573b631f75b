-- Entry 17 answers the words of the verdict, or nothing to a request of another length. Assumes nothing.
use mathlib.Core.Path.{refl, ap, ◌∙◌}
use mathlib.Core.Bool.{true}
use Rattle.measured_definitions.specs.MeasuredCircles.{measured_circles, circles_answer}
use Rattle.wire.specs.MeasuredRecords.{circles_answer_words}
use Rattle.wire.proofs.Requests.{other_length, answered}
use Rattle.test_entries.specs.Measured.{measured_circles_answer}
use Rattle.test_entries.proofs.measured.circles.Goals as goal

pub returns-then-input-ne52 : goal.returns-then-input-ne52
unfolding measured_circles_answer
returns-then-input-ne52 c = other_length 13 _ _ _ _ c.if-input-ne52.true

pub returns : goal.returns
unfolding measured_circles_answer
returns c =
    let verdict = c.netxurbil_measured_circles-answer.ensures
    ∙ (λ i. circles_answer
    (measured_circles (c.measured_circle-a.ensures i) (c.measured_circle-b.ensures i))) in
    answered 13 _ _ _ _ true c.if-input-ne52.false refl _ _ _ refl (ap circles_answer_words verdict)
    c.put_circles_answer.ensures
