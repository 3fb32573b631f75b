-- `b2_mul_t_rot` computes its definition, operation by operation. Assumes nothing.
use mathlib.Core.Path.{refl}
use Rattle.floats.specs.B2Math.{b2_mul_t_rot}
use Rattle.floats.proofs.b2_math.b2_mul_t_rot.Goals as goal

pub returns : goal.returns
unfolding b2_mul_t_rot
returns c = refl
