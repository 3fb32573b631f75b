-- A float and a point are a circle. Assumes nothing.
use Rattle.wire.specs.ContactRecords.{circle_at}
use Rattle.wire.proofs.contact_records.circle.Goals as goal

pub returns : goal.returns
unfolding circle_at
returns c =
    simp (c.vector-m_p.ensures, c.float-m_radius.ensures)
