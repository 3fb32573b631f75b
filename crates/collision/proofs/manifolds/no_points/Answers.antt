-- The kind is its own. Assumes nothing.
use Rattle.contact_definitions.specs.Manifold.{with_count, with_kind}
use Rattle.collision.proofs.manifolds.no_points.Goals as goal

pub returns : goal.returns
unfolding with_kind with_count
returns c = c.made_anew.ensures
