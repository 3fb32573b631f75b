-- `b2_min` computes its definition: the first where it is below the second. Assumes nothing.
use Rattle.floats.specs.B2Math.{b2_min}
use Rattle.floats.proofs.b2_math.b2_min.Goals as goal

pub returns-then-a-b : goal.returns-then-a-b
unfolding b2_min
returns-then-a-b c = simp c.if-a-b.true

pub returns-else-a-b : goal.returns-else-a-b
unfolding b2_min
returns-else-a-b c = simp c.if-a-b.false
