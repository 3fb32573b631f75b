-- The places before from + j are tested. Assumes nothing.
use mathlib.Core.Path.{◌≡◌}
use Prim.Native.Nat.{◌≤◌}
use lib.ListN.{length, take, drop}
use Rattle.floats.specs.Ranges.{vec2_within}
use Rattle.shape_definitions.specs.Polygon.{all_points}
use Rattle.shape_ranges.proofs.polygon_range.four_within.Given as goal

abbrev pub invariant-loop-j : goal.invariant-loop-j
invariant-loop-j l =
    (l.j ≤ 4) × (l.from ≤ 4) × (length l.ps ≡ 8) × (l.ok ≡ all_points (vec2_within l.limit) (take l.j (drop l.from l.ps)))
