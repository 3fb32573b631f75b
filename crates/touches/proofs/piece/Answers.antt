-- The lemmas of `Pieces`, applied. Assumes nothing.
use Rattle.record_definitions.specs.Answer.{longest_said}
use Rattle.record_definitions.specs.Server.{reply_line}
use Rattle.touches.proofs.Pieces.{none_fed, more_fed}
use Rattle.touches.proofs.piece.Goals as goal

pub loop-from-init : goal.loop-from-init
loop-from-init g c = none_fed reply_line longest_said _ _ _ c.requires

pub loop-from-preserved : goal.loop-from-preserved
loop-from-preserved g c =
    more_fed reply_line longest_said c.args.s c.args.chunk.now c.args.out.now c.loop-from.out c.loop-from.s
    c.loop-from.from c.loop-from.invariant c.feed-f.result c.feed-f.new.out c.feed-f.auto.out c.feed-f.ensures
