-- The position, then the rotation. Assumes nothing.
use Rattle.lines.specs.Fields.{placement_at}
use Rattle.lines.proofs.fields.placement.Goals as goal

pub returns : goal.returns
unfolding placement_at
returns c =
    let vector' = c.vector-p in
    simp (c.rotation-q.ensures, vector'.ensures)
