-- What the scan keeps from here is what it keeps of all places; best is the point kept. Assumes nothing.
use mathlib.Core.Path.{◌≡◌}
use Prim.Native.Nat.{◌≤◌, ◌<◌, ◌-◌}
use lib.ListN.{take}
use Rattle.algebra.specs.Loops.{places, scan}
use Rattle.shape_definitions.specs.Outline.{point_at, earlier, start}
use Rattle.shapes.specs.Coordinates.{points_in}
use Rattle.shapes.proofs.outline.start.Given as goal

abbrev pub invariant-loop-i : goal.invariant-loop-i
invariant-loop-i l =
    (l.i ≤ l.n) × (l.n ≤ 8) × (l.i0 < l.n) × (l.best ≡ point_at (points_in l.ps.xs) l.i0)
    × (scan (earlier (take l.n (points_in l.ps.xs))) l.i0 (places l.i (l.n - l.i)) ≡ start (take l.n (points_in l.ps.xs)))
