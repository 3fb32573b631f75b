-- No test yet, of any piece. Assumes nothing.
use Rattle.record_definitions.specs.World.{fresh_pair}
use Rattle.frames.proofs.world.fresh_pair.Goals as goal

pub returns : goal.returns
unfolding fresh_pair
returns c = simp c.fresh_kept-kept.ensures
