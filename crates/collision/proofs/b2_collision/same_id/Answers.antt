-- The four tests. Assumes nothing.
use borrow.Author.Rules.{rules}
use Rattle.contact_definitions.specs.PointStates.{same_id}
use Rattle.collision.proofs.b2_collision.same_id.Goals as goal

pub returns : goal.returns
unfolding same_id
returns c = search rules
