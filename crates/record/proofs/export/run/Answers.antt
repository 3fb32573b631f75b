-- Both bodies, and their test. Assumes nothing.
use Rattle.record.proofs.FiveFrames.{first_body_refused, second_body_refused, bodies_tested}
use native.Mathlib.Omega.{arith}
use Rattle.record.proofs.export.run.Goals as goal

pub returns-then-refusal_in-ne0 : goal.returns-then-refusal_in-ne0
returns-then-refusal_in-ne0 c =
    let if1' = c.if-refusal_in-ne0 in
    let refusal_in' = c.refusal_in in
    let both_changes' = c.both_changes-a in
    let args' = c.args in
    let pre' = c.requires in
    first_body_refused args'.f0.now args'.f1.now args'.f2.now args'.f3.now (pre')
    both_changes'.result both_changes'.ensures _ refusal_in'.ensures if1'.true

pub returns-then-refusal_in-ne0-2 : goal.returns-then-refusal_in-ne0-2
returns-then-refusal_in-ne0-2 c =
    let if2' = c.if-refusal_in-ne0-2 in
    let refusal_in2' = c.refusal_in-2 in
    let both_changes2' = c.both_changes-b in
    let if1' = c.if-refusal_in-ne0 in
    let refusal_in' = c.refusal_in in
    let both_changes' = c.both_changes-a in
    let args' = c.args in
    let pre' = c.requires in
    second_body_refused args'.f0.now args'.f1.now args'.f2.now args'.f3.now (pre')
    both_changes'.result both_changes'.ensures _ refusal_in'.ensures if1'.false
    both_changes2'.result both_changes2'.ensures _ refusal_in2'.ensures if2'.true

pub frame-c-requires : goal.frame-c-requires
frame-c-requires c = λ turned. absurd (omega (arith, turned))

pub returns : goal.returns
returns c =
    let frame' = c.frame-c in
    let fresh_pair' = c.fresh_pair-fresh in
    let if2' = c.if-refusal_in-ne0-2 in
    let refusal_in2' = c.refusal_in-2 in
    let both_changes2' = c.both_changes-b in
    let if1' = c.if-refusal_in-ne0 in
    let refusal_in' = c.refusal_in in
    let both_changes' = c.both_changes-a in
    let args' = c.args in
    let pre' = c.requires in
    bodies_tested args'.f0.now args'.f1.now args'.f2.now args'.f3.now (pre')
    both_changes'.result both_changes'.ensures _ refusal_in'.ensures if1'.false
    both_changes2'.result both_changes2'.ensures _ refusal_in2'.ensures frame'.result if2'.false
    (rw fresh_pair'.ensures at frame'.ensures)
