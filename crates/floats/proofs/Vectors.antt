-- Definitions of vectors by one another, bit for bit. Assumes nothing.
use mathlib.Core.Path.{◌≡◌, refl}
use Rattle.floats.specs.declared.b2_math.B2vec2.{B2vec2}
use Rattle.floats.specs.declared.b2_math.B2Transform.{B2Transform}
use Rattle.floats.specs.B2Math.{b2_add, b2_dot, b2_length_squared, b2_mul_rot_by_vec2, b2_mul_transform_by_vec2}

-- the squared length is the vector's dot product with itself
pub length_is_dot : (a : B2vec2) → b2_length_squared a ≡ b2_dot a a
unfolding b2_length_squared b2_dot
length_is_dot a = refl

-- a transform turns, then moves
pub carry_is : (t : B2Transform) (v : B2vec2) → b2_mul_transform_by_vec2 t v ≡ b2_add (b2_mul_rot_by_vec2 t.q v)
    t.p
unfolding b2_mul_transform_by_vec2 b2_mul_rot_by_vec2 b2_add
carry_is t v = refl
