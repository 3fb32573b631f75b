-- One of the points is out of range, or none is: the loop passes the places below i. Assumes nothing.
use mathlib.Core.Path.{◌≡◌}
use Prim.Native.Nat.{◌≤◌}
use lib.ListN.{take, drop}
use Rattle.floats.specs.Ranges.{point_in_range}
use Rattle.shape_definitions.specs.Polygon.{all_points}
use Rattle.shapes.specs.Coordinates.{points_in}
use Rattle.shapes.proofs.coordinates.Row.in_range.Given as goal

abbrev pub invariant-loop-i : goal.invariant-loop-i
invariant-loop-i l =
    (l.i ≤ l.n) × (l.n ≤ 8)
    × (all_points point_in_range (drop l.i (take l.n (points_in l.self.xs))) ≡ all_points point_in_range (take l.n (points_in l.self.xs)))
