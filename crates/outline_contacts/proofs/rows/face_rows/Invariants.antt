-- The faces below i are carried so far. Assumes nothing.
use Rattle.outline_contacts.specs.FaceRows.{FaceRows}
use Rattle.outline_contacts.proofs.rows.face_rows.Given as goal

abbrev pub invariant-loop-i : goal.invariant-loop-i
invariant-loop-i l = FaceRows l.xf l.vs l.ns l.i l.rows.nxs l.rows.nys l.rows.xs l.rows.ys
