-- `b2_scale` computes its definition, operation by operation. Assumes nothing.
use mathlib.Core.Path.{refl}
use Rattle.floats.specs.B2Math.{b2_scale}
use Rattle.floats.proofs.b2_math.b2_scale.Goals as goal

pub returns : goal.returns
unfolding b2_scale
returns c = refl
