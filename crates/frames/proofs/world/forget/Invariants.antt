-- The loop: the pairs with each of the first j partners are fresh. Assumes nothing.
use Prim.Native.Nat.{◌-◌, ◌≤◌, ◌<◌}
use mathlib.Core.Path.{◌≡◌}
use lib.ListN.{length}
use Rattle.record_definitions.specs.World.{fresh_pair, forget_below}
use Rattle.frames.proofs.world.forget.Given as goal

abbrev pub invariant-loop-j : goal.invariant-loop-j
invariant-loop-j l =
    (l.j ≤ 8) × (l.id < 8) × (l.fresh ≡ fresh_pair) × (length l.ps ≡ 64) × (l.ps ≡ forget_below l.id l.initial.ps l.j)
