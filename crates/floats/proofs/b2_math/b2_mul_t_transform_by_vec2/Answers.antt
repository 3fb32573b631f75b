-- `b2_mul_t_transform_by_vec2` computes its definition: the difference, turned back. Assumes nothing.
use mathlib.Core.Path.{refl}
use Rattle.floats.specs.B2Math.{b2_mul_t_transform_by_vec2, b2_mul_t_rot_by_vec2, b2_sub}
use Rattle.floats.proofs.b2_math.b2_mul_t_transform_by_vec2.Goals as goal

pub returns : goal.returns
unfolding b2_mul_t_transform_by_vec2 b2_mul_t_rot_by_vec2 b2_sub
returns c = refl
