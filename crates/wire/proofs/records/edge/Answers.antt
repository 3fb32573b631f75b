-- A wall from ten words. Assumes nothing.
use Rattle.wire.specs.Records.{edge_at}
use Rattle.wire.proofs.records.edge.Goals as goal

pub returns : goal.returns
unfolding edge_at
returns c =
    simp (
      c.vector-v3.ensures,
      c.vector-v2.ensures,
      c.vector-v1.ensures,
      c.vector-v0.ensures,
      c.word-one_sided.ensures,
      c.float-radius.ensures,
    )
