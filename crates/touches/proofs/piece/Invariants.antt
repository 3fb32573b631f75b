-- What the piece fed so far leaves and prints (`Pieces`). Assumes nothing.
use Rattle.std.proofs.Common.{length, ◌-◌}
use Rattle.record_definitions.specs.Answer.{longest_said}
use Rattle.record_definitions.specs.Server.{reply_line}
use Rattle.touches.proofs.Pieces.{PieceSoFar}
use Rattle.touches.proofs.piece.Given as goal

abbrev pub invariant-loop-from : goal.invariant-loop-from
invariant-loop-from g l = PieceSoFar reply_line longest_said l.fn.s l.chunk l.fn.out l.out l.s l.from

abbrev pub decreases-loop-from : goal.decreases-loop-from
decreases-loop-from g l = length l.chunk - l.from
