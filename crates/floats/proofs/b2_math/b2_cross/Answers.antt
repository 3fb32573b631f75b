-- `b2_cross` computes its definition, operation by operation. Assumes nothing.
use mathlib.Core.Path.{refl}
use Rattle.floats.specs.B2Math.{b2_cross}
use Rattle.floats.proofs.b2_math.b2_cross.Goals as goal

pub returns : goal.returns
unfolding b2_cross
returns c = refl
