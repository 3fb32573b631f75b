-- Both indices and both types change sides. Assumes nothing.
use mathlib.Core.Path.{refl}
use Rattle.contact_definitions.specs.Manifold.{swapped_id}
use Rattle.collision.proofs.manifolds.swapped.Goals as goal

pub returns : goal.returns
unfolding swapped_id
returns c = refl
