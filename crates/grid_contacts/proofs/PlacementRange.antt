-- No call refuses a placement on the grid: its position and its rotation are in range. Assumes nothing.
use Prim.Native.Nat.{◌*◌}
use native.Mathlib.Omega.{arith}
use lib.Dec.{T}
use mir.Facts.{yes_and}
use Rattle.algebra.specs.Integer.{Z, ◌⊛◌, ◌≐◌, Abs}
use Rattle.rounding.specs.Value.{metre, val}
use Rattle.rounding.specs.Literals.{one32}
use Rattle.floats.specs.declared.b2_math.B2Rot.{B2Rot}
use Rattle.floats.specs.declared.b2_math.B2Transform.{B2Transform}
use Rattle.floats.specs.Ranges.{within, point_in_range, rotation_in_range, transform_in_range}
use Rattle.floats.proofs.RangeValue.{one_limit_is, value_limit}
use Rattle.grid.proofs.Verdict.{grid_in_range}
use Rattle.grid_contacts.specs.Placement.{QuarterTurn, unturned, to_left, about, to_right, sine, cosine, Turning}
use Rattle.grid_contacts.specs.Placement.{GridPlacement}

sine_most : (turn : QuarterTurn) (v : Z) → v ≐ metre ⊛ sine turn → Abs v (1 * metre)
sine_most unturned v h = (omega arith, omega arith)
sine_most to_left v h = (omega arith, omega arith)
sine_most about v h = (omega arith, omega arith)
sine_most to_right v h = (omega arith, omega arith)

cosine_most : (turn : QuarterTurn) (v : Z) → v ≐ metre ⊛ cosine turn → Abs v (1 * metre)
cosine_most unturned v h = (omega arith, omega arith)
cosine_most to_left v h = (omega arith, omega arith)
cosine_most about v h = (omega arith, omega arith)
cosine_most to_right v h = (omega arith, omega arith)

turning_in_range : {q : B2Rot} {turn : QuarterTurn} → Turning q turn → T (rotation_in_range q)
unfolding rotation_in_range
turning_in_range {q} {turn} t =
    yes_and (within one32 q.s) (within one32 q.c)
    (value_limit one_limit_is t.s_own (sine_most turn (val q.s) t.s_is))
    (value_limit one_limit_is t.c_own (cosine_most turn (val q.c) t.c_is))

pub placement_in_range : {t : B2Transform} → GridPlacement t → T (transform_in_range t)
unfolding transform_in_range
placement_in_range {t} g =
    yes_and (point_in_range t.p) (rotation_in_range t.q) (grid_in_range t.p g.position)
    (turning_in_range g.turning)
