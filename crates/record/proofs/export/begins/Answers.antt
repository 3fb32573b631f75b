-- Both bytes. Assumes nothing.
use Rattle.record.proofs.export.begins.Goals as goal

pub returns : goal.returns
returns c =
    let byte' = c.byte-k in
    simp (byte'.ensures, c.byte-i.ensures)
