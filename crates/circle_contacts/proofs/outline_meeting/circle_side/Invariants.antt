-- The first four faces side by side (proofs/FirstFour), then a face at a time (proofs/FarthestSide). Assumes nothing.
use Rattle.circle_contacts.proofs.FarthestSide.{SoFar}
use Rattle.circle_contacts.proofs.outline_meeting.circle_side.Given as goal

abbrev pub invariant-loop-i : goal.invariant-loop-i
invariant-loop-i l =
    SoFar l.vs l.ns l.count l.c l.radius l.index l.separation l.i
