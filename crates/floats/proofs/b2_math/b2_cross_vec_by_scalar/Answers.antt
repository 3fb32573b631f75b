-- `b2_cross_vec_by_scalar` computes its definition, operation by operation. Assumes nothing.
use mathlib.Core.Path.{refl}
use Rattle.floats.specs.B2Math.{b2_cross_vec_by_scalar}
use Rattle.floats.proofs.b2_math.b2_cross_vec_by_scalar.Goals as goal

pub returns : goal.returns
unfolding b2_cross_vec_by_scalar
returns c = refl
