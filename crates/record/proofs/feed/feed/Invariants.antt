-- The loop of `feed`: what it knows (`SoFar`). Assumes nothing.
use Prim.Native.Nat.{◌-◌}
use lib.ListN.{length, take}
use Rattle.record_definitions.specs.Server.{reply_line}
use Rattle.record_definitions.proofs.Feeding.{SoFar}
use Rattle.record.proofs.feed.feed.Given as goal

abbrev pub invariant-loop-i : goal.invariant-loop-i
invariant-loop-i l =
    SoFar reply_line l.chunk l.initial.out (record { server = record { world = l.initial.w; steps = l.initial.steps }; line = take l.initial.len l.initial.line }) l.out
    (record { world = l.w; steps = l.steps }) l.line l.len l.at l.i

abbrev pub decreases-loop-i : goal.decreases-loop-i
decreases-loop-i l = length l.chunk - l.i
