-- `b2_neg` computes its definition, operation by operation. Assumes nothing.
use mathlib.Core.Path.{refl}
use Rattle.floats.specs.B2Math.{b2_neg}
use Rattle.floats.proofs.b2_math.b2_neg.Goals as goal

pub returns : goal.returns
unfolding b2_neg
returns c = refl
