-- By the count. Assumes nothing.
use borrow.Author.Tests.{le-leb, lt-leb}
use Rattle.frames.proofs.frame.chain_length.Goals as goal

pub returns-then-count-le8-clause-length : goal.returns-then-count-le8-clause-length
returns-then-count-le8-clause-length c = simp (le-leb _ _ c.if-count-le8.true)

pub returns-else-count-le8-clause-length : goal.returns-else-count-le8-clause-length
returns-else-count-le8-clause-length c = simp (lt-leb _ _ c.if-count-le8.false)
