-- A point and an id are a clip vertex. Assumes nothing.
use Rattle.wire.specs.ContactRecords.{clip_vertex_at}
use Rattle.wire.proofs.contact_records.clip_vertex.Goals as goal

pub returns : goal.returns
unfolding clip_vertex_at
returns c =
    simp (c.id-id.ensures, c.vector-v.ensures)
