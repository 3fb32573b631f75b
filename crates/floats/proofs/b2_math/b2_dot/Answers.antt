-- `b2_dot` computes its definition, operation by operation. Assumes nothing.
use mathlib.Core.Path.{refl}
use Rattle.floats.specs.B2Math.{b2_dot}
use Rattle.floats.proofs.b2_math.b2_dot.Goals as goal

pub returns : goal.returns
unfolding b2_dot
returns c = refl
