-- `b2_length` computes its definition: the root of the squared length. Assumes nothing.
use Rattle.floats.specs.B2Math.{b2_length}
use Rattle.floats.proofs.b2_math.b2_length.Goals as goal

pub returns : goal.returns
unfolding b2_length
returns c = simp (c.b2_sqrt.ensures, c.b2_length_squared.ensures)
