-- So many line feeds are at most so many characters. Assumes nothing.
use Rattle.std.proofs.Common.{◌≤◌}
use Rattle.touches.proofs.say.few.Given as goal

abbrev pub invariant-loop-x : goal.invariant-loop-x
invariant-loop-x l = l.n ≤ l.x-index
