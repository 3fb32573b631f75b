-- `calls` answers what the entry named by the first word answers, and nothing to any other request. Assumes nothing.
use Rattle.wire.proofs.Bytes.{nothing_written, written_as}
use Rattle.test_calls.proofs.Answers.{no_entry, root_entry, normalize_entry, heading_entry, root_step_entry}
use Rattle.test_calls.proofs.Answers.{shape_entry, contact_entry}
use Rattle.test_calls.proofs.calls.Goals as goal

pub returns-then-input-lt4 : goal.returns-then-input-lt4
returns-then-input-lt4 c = nothing_written _ _ (no_entry _ c.if-input-lt4.true)

pub returns-in-15 : goal.returns-in-15
returns-in-15 c =
    written_as _ _ _ _ _ (root_entry _ _ c.if-input-lt4.false c.word-entry.ensures c.in-15.is)
    c.root.ensures

pub returns-in-16 : goal.returns-in-16
returns-in-16 c =
    written_as _ _ _ _ _ (normalize_entry _ _ c.if-input-lt4.false c.word-entry.ensures c.in-16.is)
    c.normalize.ensures

pub returns-in-17 : goal.returns-in-17
returns-in-17 c =
    written_as _ _ _ _ _ (heading_entry _ _ c.if-input-lt4.false c.word-entry.ensures c.in-17.is)
    c.heading.ensures

pub returns-in-18 : goal.returns-in-18
returns-in-18 c =
    written_as _ _ _ _ _ (root_step_entry _ _ c.if-input-lt4.false c.word-entry.ensures c.in-18.is)
    c.root_step.ensures

pub returns-then-entry-lt7 : goal.returns-then-entry-lt7
returns-then-entry-lt7 c =
    let none = c.in_default.in_default-own.rest in
    written_as _ _ _ _ _
    (shape_entry _ _ c.if-input-lt4.false c.word-entry.ensures none.0.0.0.1 none.0.0.1
    none.0.1 none.1 c.if-entry-lt7.true)
    c.shape_call.ensures

pub returns-else-entry-lt7 : goal.returns-else-entry-lt7
returns-else-entry-lt7 c =
    let none = c.in_default.in_default-own.rest in
    written_as _ _ _ _ _
    (contact_entry _ _ c.if-input-lt4.false c.word-entry.ensures none.0.0.0.1 none.0.0.1
    none.0.1 none.1 c.if-entry-lt7.false)
    c.contact_call.ensures
