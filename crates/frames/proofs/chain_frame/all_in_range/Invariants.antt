-- The points below i are in range. Assumes nothing.
use mathlib.Core.Path.{◌≡◌}
use Prim.Native.Nat.{◌≤◌, ◌-◌}
use lib.ListN.{length, take, drop}
use Rattle.floats.specs.Ranges.{point_in_range}
use Rattle.shape_definitions.specs.Polygon.{all_points}
use Rattle.frames.proofs.chain_frame.all_in_range.Given as goal

abbrev pub invariant-loop-i : goal.invariant-loop-i
invariant-loop-i l =
    (l.i ≤ l.n) × (l.n ≤ 10) × (length l.points ≡ 10)
    × (all_points point_in_range (drop l.i (take l.n l.points)) ≡ all_points point_in_range (take l.n l.points))
