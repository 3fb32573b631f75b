-- `measured_calls` answers what the entry named by the first word answers, and nothing to any other request. Assumes
-- nothing.
use native.Mathlib.Omega.{arith}
use Rattle.wire.proofs.Bytes.{nothing_written, written_as}
use Rattle.test_calls.proofs.MeasuredAnswers.{no_measured, circles_entry, boxes_entry, other_entry}
use Rattle.test_calls.proofs.measured_calls.Goals as goal

pub returns-then-input-lt4 : goal.returns-then-input-lt4
returns-then-input-lt4 c = nothing_written _ _ (no_measured _ c.if-input-lt4.true)

pub returns-in-20 : goal.returns-in-20
returns-in-20 c =
    written_as _ _ _ _ _ (circles_entry _ _ c.if-input-lt4.false c.word-entry.ensures c.in-20.is)
    c.circles.ensures

pub returns-in-21 : goal.returns-in-21
returns-in-21 c =
    written_as _ _ _ _ _ (boxes_entry _ _ c.if-input-lt4.false c.word-entry.ensures c.in-21.is)
    c.boxes.ensures

pub returns-in_default : goal.returns-in_default
returns-in_default c =
    nothing_written _ _
    (other_entry _ _ c.if-input-lt4.false c.word-entry.ensures (λ is. omega arith) (λ is. omega arith))
