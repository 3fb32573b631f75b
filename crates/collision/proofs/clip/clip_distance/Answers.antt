-- The dot product less the offset. Assumes nothing.
use Rattle.contact_definitions.specs.Clip.{clip_distance}
use Rattle.collision.proofs.clip.clip_distance.Goals as goal

pub returns : goal.returns
unfolding clip_distance
returns c = simp c.b2_dot.ensures
