-- Two clip vertices from six words. Assumes nothing.
use Rattle.wire.specs.ContactRecords.{clip_vertices_at}
use Rattle.wire.proofs.contact_records.clip_vertices.Goals as goal

pub returns : goal.returns
unfolding clip_vertices_at
returns c =
    simp (c.clip_vertex-second.ensures, c.clip_vertex-first.ensures)
