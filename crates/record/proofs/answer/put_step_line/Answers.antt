-- The bytes, then their digits. Assumes nothing.
use Rattle.record.proofs.answer.put_step_line.Goals as goal

pub returns : goal.returns
returns c =
    let put_step' = c.put_step in
    rw put_step'.ensures at c.put_line.ensures
