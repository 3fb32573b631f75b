-- Each try is one less, and one is left. Assumes nothing.
use Rattle.std.proofs.Common.{◌<◌}
use Rattle.touches.proofs.put.Given as goal

abbrev pub invariant-loop-n : goal.invariant-loop-n
invariant-loop-n g l = 0 < l.patience

abbrev pub decreases-loop-n : goal.decreases-loop-n
decreases-loop-n g l = l.patience
