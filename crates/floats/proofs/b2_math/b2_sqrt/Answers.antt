-- `b2_sqrt` computes its definition. Assumes nothing.
use Rattle.floats.specs.B2Math.{b2_sqrt}
use Rattle.floats.proofs.b2_math.b2_sqrt.Goals as goal

pub returns : goal.returns
unfolding b2_sqrt
returns c = c.square_root.ensures
