-- A manifold from sixteen words. Assumes nothing.
use Rattle.wire.specs.ContactRecords.{manifold_at}
use Rattle.wire.proofs.contact_records.manifold.Goals as goal

pub returns : goal.returns
unfolding manifold_at
returns c =
    simp (
      c.manifold_point-second.ensures,
      c.manifold_point-first.ensures,
      c.vector-local_point.ensures,
      c.vector-local_normal.ensures,
      c.word-point_count.ensures,
      c.kind-manifold_type.ensures,
      c.word.ensures,
    )
