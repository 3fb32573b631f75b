-- The two offsets. Assumes nothing.
use Rattle.contact_definitions.specs.EdgeReference.{face_between}
use Rattle.wall_contacts.proofs.edge_reference.face_between.Goals as goal

pub returns : goal.returns
unfolding face_between
returns c =
    let b2_dot' = c.b2_dot in
    simp (c.b2_dot-2.ensures, b2_dot'.ensures)
