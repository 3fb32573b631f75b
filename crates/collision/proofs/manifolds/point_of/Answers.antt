-- Place and id are new, the impulses kept. Assumes nothing.
use mathlib.Core.Path.{refl}
use Rattle.contact_definitions.specs.Manifold.{with_local_point}
use Rattle.collision.proofs.manifolds.point_of.Goals as goal

pub returns : goal.returns
unfolding with_local_point
returns c = refl
