-- `b2_add` computes its definition, operation by operation. Assumes nothing.
use mathlib.Core.Path.{refl}
use Rattle.floats.specs.B2Math.{b2_add}
use Rattle.floats.proofs.b2_math.b2_add.Goals as goal

pub returns : goal.returns
unfolding b2_add
returns c = refl
