-- Six tests. Assumes nothing.
use Rattle.record.proofs.export.begin_all.Goals as goal

pub returns : goal.returns
returns c =
    let begins3' = c.begins-f2 in
    let begins2' = c.begins-f1 in
    let begins' = c.begins-f0 in
    simp (c.begins-f3.ensures, begins3'.ensures, begins2'.ensures, begins'.ensures)
