-- No piece below i is short. Assumes nothing.
use mathlib.Core.Path.{◌≡◌}
use mathlib.Core.Bool.{not, false}
use Prim.Native.Nat.{ℕ, ◌≤◌, ◌-◌}
use lib.ListN.{length}
use Rattle.contact_definitions.specs.Searches.{some_below}
use Rattle.record_definitions.specs.declared.world.Chain.{Chain}
use Rattle.record_definitions.specs.Frame.{long_piece}
use Rattle.frames.proofs.chain_frame.some_short.Given as goal

abbrev pub invariant-loop-i : goal.invariant-loop-i
invariant-loop-i l =
    (l.i ≤ l.n) × (l.n ≤ 7) × (length l.points ≡ 10)
    × ((chain : Chain) → chain.points ≡ l.points → some_below (λ (k : ℕ). not (long_piece chain k)) l.i ≡ false)
