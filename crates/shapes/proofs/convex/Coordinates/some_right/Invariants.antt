-- The corners below j, and no more than count, are asked so far. Assumes nothing.
use mathlib.Core.Path.{◌≡◌}
use mathlib.Core.Bool.{not}
use mathlib.Core.List.{zip_with}
use Prim.Native.Nat.{◌≤◌, min}
use Rattle.floats.specs.B2Math.{vec2}
use Rattle.shape_definitions.specs.Validate.{corners_not_right}
use Rattle.shapes.proofs.convex.Coordinates.some_right.Given as goal

abbrev pub invariant-loop-j : goal.invariant-loop-j
invariant-loop-j l =
    (l.j ≤ 8) × (l.count ≤ 8)
    × (l.right ≡ not (corners_not_right (zip_with vec2 l.self.xs l.self.ys) l.count l.i (min l.j l.count)))
