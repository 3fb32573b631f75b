-- The loop: the bytes so far, and what the rest of the line says, make what the whole line says. Assumes nothing.
use Rattle.lines.proofs.Reading.{ReadSoFar}
use Rattle.lines.proofs.hex.unhex.Given as goal

abbrev pub invariant-loop-i : goal.invariant-loop-i
invariant-loop-i l = ReadSoFar l.line l.initial.bytes l.n l.bytes l.digits l.i
