-- Each way out. Assumes nothing.
use Rattle.record_definitions.proofs.Exported.{too_short, was_refused, was_written}
use Rattle.record.proofs.export.netxurbil_test.Goals as goal

pub returns-then-out-lt-LONGEST_ANSWER : goal.returns-then-out-lt-LONGEST_ANSWER
returns-then-out-lt-LONGEST_ANSWER c =
    rw (c.from-then-out-lt-LONGEST_ANSWER.ensures, c.from.ensures)
    (too_short _ _ c.if-out-lt-LONGEST_ANSWER.true)

pub returns-then-number-ne0 : goal.returns-then-number-ne0
returns-then-number-ne0 c =
    rw c.from-then-number-ne0.ensures
    (was_refused _ _ c.if-out-lt-LONGEST_ANSWER.false _ c.export_said-said.ensures _ c.refusal_in-number.ensures
    c.if-number-ne0.true)

pub returns : goal.returns
returns c =
    was_written _ _ c.if-out-lt-LONGEST_ANSWER.false _ c.export_said-said.ensures _ c.refusal_in-number.ensures
    c.if-number-ne0.false _ _ c.put_said.ensures.put
