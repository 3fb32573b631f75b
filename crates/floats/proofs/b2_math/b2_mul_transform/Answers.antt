-- `b2_mul_transform` computes its definition from those of its parts. Assumes nothing.
use Rattle.floats.specs.B2Math.{b2_mul_transform}
use Rattle.floats.proofs.b2_math.b2_mul_transform.Goals as goal

pub returns : goal.returns
unfolding b2_mul_transform
returns c = simp (c.b2_add-p.ensures, c.b2_mul_rot_by_vec2.ensures, c.b2_mul_rot-q.ensures)
