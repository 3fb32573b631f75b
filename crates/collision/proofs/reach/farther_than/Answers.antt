-- `farther_than` computes its definition. Assumes nothing.
use Rattle.contact_definitions.specs.B2CollideCircle.{farther}
use Rattle.collision.proofs.reach.farther_than.Goals as goal

pub returns : goal.returns
unfolding farther
returns c = simp c.b2_distance_vec2_squared.ensures
