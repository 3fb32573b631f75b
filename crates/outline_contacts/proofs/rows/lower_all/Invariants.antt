-- The corners below j are passed so far, at every face. Assumes nothing.
use Rattle.outline_contacts.specs.FaceRows.{Eight}
use Rattle.outline_contacts.proofs.Lowest.{Lowest}
use Rattle.outline_contacts.proofs.rows.lower_all.Given as goal

abbrev pub invariant-loop-j : goal.invariant-loop-j
invariant-loop-j l = Eight l.s × Lowest l.rows.nxs l.rows.nys l.rows.xs l.rows.ys l.v2s l.count2 l.initial.s l.n l.j l.s
