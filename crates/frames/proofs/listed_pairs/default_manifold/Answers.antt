-- Two points that are none. Assumes nothing.
use Rattle.frames.proofs.listed_pairs.default_manifold.Goals as goal

pub returns : goal.returns
returns c = simp c.default_id.ensures
