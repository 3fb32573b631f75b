-- What the scan keeps from here, seen from the corner, is what it keeps of all places; r leads to the candidate.
-- Assumes nothing.
use mathlib.Core.Path.{◌≡◌}
use Prim.Native.Nat.{◌≤◌, ◌<◌, ◌-◌}
use lib.ListN.{take}
use Rattle.algebra.specs.Loops.{places, scan}
use Rattle.floats.specs.B2Math.{b2_sub}
use Rattle.shape_definitions.specs.Outline.{point_at, replaces, next}
use Rattle.shapes.specs.Coordinates.{points_in}
use Rattle.shapes.proofs.outline.next.Given as goal

abbrev pub invariant-loop-j : goal.invariant-loop-j
invariant-loop-j l =
    (l.j ≤ l.n) × (l.n ≤ 8) × (l.ie < l.n) × (l.ih < l.n) × (l.corner ≡ point_at (points_in l.ps.xs) l.ih)
    × (l.r ≡ b2_sub (point_at (points_in l.ps.xs) l.ie) l.corner)
    × (scan (replaces (take l.n (points_in l.ps.xs)) l.ih) l.ie (places l.j (l.n - l.j)) ≡ next (take l.n (points_in l.ps.xs)) l.ih)
