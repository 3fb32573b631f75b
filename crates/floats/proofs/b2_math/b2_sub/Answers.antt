-- `b2_sub` computes its definition, operation by operation. Assumes nothing.
use mathlib.Core.Path.{refl}
use Rattle.floats.specs.B2Math.{b2_sub}
use Rattle.floats.proofs.b2_math.b2_sub.Goals as goal

pub returns : goal.returns
unfolding b2_sub
returns c = refl
