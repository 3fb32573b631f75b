-- `b2_cross_scalar_by_vec` computes its definition, operation by operation. Assumes nothing.
use mathlib.Core.Path.{refl}
use Rattle.floats.specs.B2Math.{b2_cross_scalar_by_vec}
use Rattle.floats.proofs.b2_math.b2_cross_scalar_by_vec.Goals as goal

pub returns : goal.returns
unfolding b2_cross_scalar_by_vec
returns c = refl
