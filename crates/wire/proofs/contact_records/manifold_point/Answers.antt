-- A manifold's point from five words. Assumes nothing.
use Rattle.wire.specs.ContactRecords.{manifold_point_at}
use Rattle.wire.proofs.contact_records.manifold_point.Goals as goal

pub returns : goal.returns
unfolding manifold_point_at
returns c =
    simp (c.id-id.ensures, c.float-tangent_impulse.ensures, c.float-normal_impulse.ensures, c.vector-local_point.ensures)
