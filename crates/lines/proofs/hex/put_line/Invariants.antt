-- The loop: the digits of the first i bytes stand at the front. Assumes nothing.
use Rattle.lines.proofs.Writing.{WrittenSoFar}
use Rattle.lines.proofs.hex.put_line.Given as goal

abbrev pub invariant-loop-i : goal.invariant-loop-i
invariant-loop-i l = WrittenSoFar l.bytes l.initial.line l.n l.line l.i
