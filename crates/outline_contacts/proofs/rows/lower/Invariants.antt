-- The places below i are done, the others as they were. Assumes nothing.
use mathlib.Core.Path.{◌≡◌}
use Prim.Native.Nat.{ℕ, ◌<◌, ◌≤◌}
use Rattle.floats.specs.B2Math.{b2_min}
use Rattle.outline_contacts.specs.FaceRows.{Eight, at, distance_at}
use Rattle.outline_contacts.proofs.rows.lower.Given as goal

abbrev pub invariant-loop-i : goal.invariant-loop-i
invariant-loop-i l =
    Eight l.s × ((k : ℕ) → k < l.i → at l.s k ≡ b2_min (distance_at l.rows.nxs l.rows.nys l.rows.xs l.rows.ys l.v k) (at l.initial.s k))
    × ((k : ℕ) → l.i ≤ k → at l.s k ≡ at l.initial.s k)
