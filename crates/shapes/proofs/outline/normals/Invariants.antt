-- The normals done, and the edges that are left. Assumes nothing.
use Prim.Native.Nat.{◌≤◌}
use lib.ListN.{take}
use Rattle.shapes.specs.Coordinates.{points_in}
use Rattle.shapes.proofs.Facing.{Facing}
use Rattle.shapes.proofs.outline.normals.Given as goal

abbrev pub invariant-loop-i : goal.invariant-loop-i
invariant-loop-i l =
    (l.i ≤ l.m) × (l.m ≤ 8)
    × Facing (take l.m (points_in l.vs.xs)) (points_in l.initial.ns.xs) l.i (points_in l.ns.xs)
