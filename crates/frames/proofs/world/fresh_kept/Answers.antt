-- No test yet. Assumes nothing.
use Rattle.frames.proofs.world.fresh_kept.Goals as goal

pub returns : goal.returns
returns c = simp c.default_id-none.ensures
