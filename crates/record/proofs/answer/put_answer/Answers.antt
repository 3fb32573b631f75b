-- By the case. Assumes nothing.
use native.Mathlib.Omega.{arith}
use lib.ListN.{length-set}
use Rattle.record.proofs.Parts.{accepted_put, refused_put, tested_put}
use Rattle.record.proofs.answer.put_answer.Goals as goal

pub bounds-out-1 : goal.bounds-out-1
bounds-out-1 c = simp length-set (omega arith)

pub returns-in-Accepted : goal.returns-in-Accepted
returns-in-Accepted c =
    let args' = c.args in
    let pre' = c.requires in
    record { put = accepted_put args'.answer args'.out.now pre' c.in-Accepted.is; upper_bound = omega arith }

pub returns-in-Refused : goal.returns-in-Refused
returns-in-Refused c =
    let args' = c.args in
    let pre' = c.requires in
    record { put = refused_put args'.answer args'.out.now pre' _ c.in-Refused.is; upper_bound = omega arith }

pub returns-in-Tested : goal.returns-in-Tested
returns-in-Tested c =
    let put_touch' = c.put_touch in
    let args' = c.args in
    let pre' = c.requires in
    record {
      put = tested_put args'.answer args'.out.now pre' _ _ _ c.in-Tested.is put_touch'.ensures.put;
      upper_bound = put_touch'.ensures.upper_bound;
    }
