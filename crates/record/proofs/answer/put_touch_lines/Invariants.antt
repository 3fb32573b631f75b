-- The loop: the lines of the first i results stand at the front. Assumes nothing.
use Rattle.record.proofs.Lines.{LinesSoFar}
use Rattle.record.proofs.answer.put_touch_lines.Given as goal

abbrev pub invariant-loop-i : goal.invariant-loop-i
invariant-loop-i l = LinesSoFar l.touches l.initial.out l.last l.out l.at l.i
