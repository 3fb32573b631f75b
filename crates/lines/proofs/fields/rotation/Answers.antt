-- The sine, then the cosine. Assumes nothing.
use Rattle.lines.specs.Fields.{rotation_at}
use Rattle.lines.proofs.fields.rotation.Goals as goal

pub returns : goal.returns
unfolding rotation_at
returns c =
    let float' = c.float-s in
    simp (c.float-c.ensures, float'.ensures)
