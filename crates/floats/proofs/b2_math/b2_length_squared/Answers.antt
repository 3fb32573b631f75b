-- `b2_length_squared` computes its definition, operation by operation. Assumes nothing.
use mathlib.Core.Path.{refl}
use Rattle.floats.specs.B2Math.{b2_length_squared}
use Rattle.floats.proofs.b2_math.b2_length_squared.Goals as goal

pub returns : goal.returns
unfolding b2_length_squared
returns c = refl
