-- `b2_mul_rot_by_vec2` computes its definition, operation by operation. Assumes nothing.
use mathlib.Core.Path.{refl}
use Rattle.floats.specs.B2Math.{b2_mul_rot_by_vec2}
use Rattle.floats.proofs.b2_math.b2_mul_rot_by_vec2.Goals as goal

pub returns : goal.returns
unfolding b2_mul_rot_by_vec2
returns c = refl
