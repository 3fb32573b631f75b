-- The word is below two. Assumes nothing.
use Rattle.wire.proofs.records.edge_known.Goals as goal

pub returns : goal.returns
returns c = simp c.word.ensures
