-- The squared distance against the limit. Assumes nothing.
use Rattle.shape_definitions.specs.Outline.{too_near}
use Rattle.shapes.proofs.outline.too_near.Goals as goal

pub returns : goal.returns
unfolding too_near
returns c = simp c.b2_distance_vec2_squared.ensures
