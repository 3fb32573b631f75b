-- No face so far has a corner right of it. Assumes nothing.
use mathlib.Core.Path.{◌≡◌}
use mathlib.Core.Bool.{true}
use mathlib.Core.List.{zip_with}
use Prim.Native.Nat.{◌≤◌}
use Rattle.floats.specs.B2Math.{vec2}
use Rattle.shape_definitions.specs.Validate.{faces_convex}
use Rattle.shapes.proofs.convex.faces_convex.Given as goal

abbrev pub invariant-loop-i : goal.invariant-loop-i
invariant-loop-i l = (l.i ≤ l.count) × (l.count ≤ 8) × (faces_convex (zip_with vec2 l.corners.xs l.corners.ys) l.count l.i ≡ true)
