-- The points read so far are the first ones. Assumes nothing.
use mathlib.Core.Path.{◌≡◌}
use Prim.Native.Nat.{◌≤◌}
use lib.ListN.{length, take}
use Rattle.shapes.specs.Coordinates.{points_in}
use Rattle.shapes.proofs.coordinates.Row.points.Given as goal

abbrev pub invariant-loop-i : goal.invariant-loop-i
invariant-loop-i l = (l.i ≤ 8) × (length l.vs ≡ 8) × (take l.i l.vs ≡ take l.i (points_in l.self.xs))
