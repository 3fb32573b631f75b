-- Six blank results. Assumes nothing.
use Rattle.frames.proofs.changes.said_alone.Goals as goal

pub returns : goal.returns
returns c = simp c.blank_touch-blank.ensures
