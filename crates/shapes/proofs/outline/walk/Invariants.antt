-- The corners done, and the row they begin. Assumes nothing.
use mathlib.Core.Path.{◌≡◌}
use Prim.Native.Nat.{◌≤◌, ◌<◌}
use lib.ListN.{take}
use Rattle.shape_definitions.specs.Outline.{start}
use Rattle.shapes.specs.Coordinates.{points_in}
use Rattle.shapes.proofs.Walking.{Walking}
use Rattle.shapes.proofs.outline.walk.Given as goal

abbrev pub invariant-loop-m : goal.invariant-loop-m
invariant-loop-m l =
    (l.m ≤ 8) × (l.n ≤ 8) × (l.ih < l.n) × (l.i0 ≡ start (take l.n (points_in l.ps.xs)))
    × Walking (take l.n (points_in l.ps.xs)) (points_in l.initial.corners.xs) l.m l.ih (points_in l.corners.xs)
