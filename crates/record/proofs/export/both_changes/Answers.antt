-- The first frame, and where it is taken the second. Assumes nothing.
use Rattle.record.proofs.FiveFrames.{refused_alone, taken_both}
use native.Mathlib.Omega.{arith}
use Rattle.record.proofs.export.both_changes.Goals as goal

pub frame-c-requires : goal.frame-c-requires
frame-c-requires c =
    let pre' = c.requires in
    λ turned. absurd (omega (arith, turned, pre'.0))

pub returns-then-refusal_in-ne0 : goal.returns-then-refusal_in-ne0
returns-then-refusal_in-ne0 c =
    let refusal_in' = c.refusal_in in
    let frame' = c.frame-c in
    let fresh_pair' = c.fresh_pair-fresh in
    let blank_body' = c.blank_body-blank in
    let args' = c.args in
    refused_alone args'.shape.now args'.placement.now frame'.result _
    (rw (blank_body'.ensures, fresh_pair'.ensures) at frame'.ensures) refusal_in'.ensures c.if-refusal_in-ne0.true

pub frame-requires : goal.frame-requires
frame-requires c =
    let pre' = c.requires in
    λ turned. absurd (omega (arith, turned, pre'.1))

pub returns : goal.returns
returns c =
    let if1' = c.if-refusal_in-ne0 in
    let refusal_in' = c.refusal_in in
    let frame' = c.frame-c in
    let fresh_pair' = c.fresh_pair-fresh in
    let blank_body' = c.blank_body-blank in
    let args' = c.args in
    taken_both args'.shape.now args'.placement.now frame'.result _ c.frame.result
    (rw (blank_body'.ensures, fresh_pair'.ensures) at frame'.ensures) refusal_in'.ensures if1'.false
    (rw (blank_body'.ensures, fresh_pair'.ensures) at c.frame.ensures)
