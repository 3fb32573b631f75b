-- `opposite` computes its definition. Assumes nothing.
use Rattle.headings.specs.Headings.{opposite}
use Rattle.headings.proofs.turns.opposite.Goals as goal

pub returns-then-x : goal.returns-then-x
unfolding opposite
returns-then-x c = simp c.if-x.true

pub returns-else-x : goal.returns-else-x
unfolding opposite
returns-else-x c = simp c.if-x.false
