-- The bytes, then their digits. Assumes nothing.
use mathlib.Core.Path.{◌≡◌, sym}
use native.Mathlib.Omega.{arith}
use lib.ListN.{length, take}
use lib.Seq.{length-take-le}
use Rattle.record.proofs.Parts.{line_put}
use Rattle.record.proofs.Lines.{line_fits}
use Rattle.record.proofs.answer.put_answer_line.Goals as goal

pub slice_bounds-put_line-end : goal.slice_bounds-put_line-end
slice_bounds-put_line-end c =
    let put_answer' = c.put_answer-n in
    sym (length-take-le put_answer'.result put_answer'.new.out (omega arith))

pub put_line-requires : goal.put_line-requires
put_line-requires c =
    let put_answer' = c.put_answer-n in
    let size : length (take put_answer'.result put_answer'.new.out) ≡ put_answer'.result =
    length-take-le _ _ (omega arith) in
    omega arith

pub returns : goal.returns
returns c =
    let put_line' = c.put_line in
    let put_answer' = c.put_answer-n in
    let args' = c.args in
    let put = line_put _ _ put_answer'.new.out args'.out.now _ put_answer'.result _
    put_answer'.ensures.put put_line'.ensures in
    record { put = put; upper_bound = line_fits args'.answer _ _ _ put }
