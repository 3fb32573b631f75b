-- One of the kept points is too near, or none is: the loop passes the places below j. Assumes nothing.
use mathlib.Core.Path.{◌≡◌}
use Prim.Native.Nat.{◌≤◌}
use lib.ListN.{take, drop}
use Rattle.algebra.specs.Loops.{near_any}
use Rattle.shape_definitions.specs.Outline.{too_near}
use Rattle.shapes.specs.Coordinates.{points_in}
use Rattle.shapes.proofs.outline.near_any.Given as goal

abbrev pub invariant-loop-j : goal.invariant-loop-j
invariant-loop-j l =
    (l.j ≤ l.n) × (l.n ≤ 8)
    × (near_any too_near l.v (drop l.j (take l.n (points_in l.ps.xs))) ≡ near_any too_near l.v (take l.n (points_in l.ps.xs)))
