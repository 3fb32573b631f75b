-- The sum so far, and the triangles that are left. Assumes nothing.
use mathlib.Core.Path.{◌≡◌}
use Prim.Native.Nat.{◌≤◌}
use lib.ListN.{take, drop}
use Rattle.floats.specs.B2Math.{b2_sub}
use Rattle.shape_definitions.specs.Outline.{point_at, fan}
use Rattle.shapes.specs.Coordinates.{points_in}
use Rattle.shapes.proofs.Around.{fan_rest}
use Rattle.shapes.proofs.outline.fan.Given as goal

abbrev pub invariant-loop-i : goal.invariant-loop-i
invariant-loop-i l =
    (l.i ≤ l.m) × (l.m ≤ 8) × (l.s ≡ point_at (take l.m (points_in l.vs.xs)) 0) × (l.p1 ≡ b2_sub l.s l.s)
    × (fan_rest (point_at (take l.m (points_in l.vs.xs)) 0) (drop l.i (take l.m (points_in l.vs.xs))) l.sum ≡ fan (take l.m (points_in l.vs.xs)))
