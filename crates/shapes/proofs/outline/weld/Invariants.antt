-- The points kept so far, and those to come, give the whole answer. Assumes nothing.
use mathlib.Core.Path.{◌≡◌}
use Prim.Native.Nat.{◌≤◌}
use lib.ListN.{take, drop}
use Rattle.algebra.specs.Loops.{weld}
use Rattle.shape_definitions.specs.Outline.{too_near, welded}
use Rattle.shapes.specs.Coordinates.{points_in}
use Rattle.shapes.proofs.outline.weld.Given as goal

abbrev pub invariant-loop-i : goal.invariant-loop-i
invariant-loop-i l =
    (l.n ≤ l.i) × (l.i ≤ l.count) × (l.count ≤ 8)
    × (weld too_near (take l.n (points_in l.ps.xs)) (drop l.i (take l.count (points_in l.points.xs)))
    ≡ welded (take l.count (points_in l.points.xs)))
