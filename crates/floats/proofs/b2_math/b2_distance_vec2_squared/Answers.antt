-- `b2_distance_vec2_squared` computes its definition: the difference, squared. Assumes nothing.
use Rattle.floats.specs.B2Math.{b2_distance_vec2_squared}
use Rattle.floats.proofs.b2_math.b2_distance_vec2_squared.Goals as goal

pub returns : goal.returns
unfolding b2_distance_vec2_squared
returns c = simp (c.b2_dot.ensures, c.b2_sub-c.ensures)
