-- x, then y. Assumes nothing.
use Rattle.lines.specs.Fields.{vector_at}
use Rattle.lines.proofs.fields.vector.Goals as goal

pub returns : goal.returns
unfolding vector_at
returns c =
    let float' = c.float-x in
    simp (c.float-y.ensures, float'.ensures)
