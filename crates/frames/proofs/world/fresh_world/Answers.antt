-- No bodies, and no tests. Assumes nothing.
use Rattle.record_definitions.specs.World.{fresh_world}
use Rattle.frames.proofs.world.fresh_world.Goals as goal

pub returns : goal.returns
unfolding fresh_world
returns c =
    let blank_body = c.blank_body-body in
    simp (c.fresh_pair-pair.ensures, blank_body.ensures)
