-- A world manifold from eight words. Assumes nothing.
use Rattle.wire.specs.ContactRecords.{world_manifold_at}
use Rattle.wire.proofs.contact_records.world_manifold.Goals as goal

pub returns : goal.returns
unfolding world_manifold_at
returns c =
    simp (
      c.float-s1.ensures,
      c.float-s0.ensures,
      c.vector-p1.ensures,
      c.vector-p0.ensures,
      c.vector-normal.ensures,
    )
