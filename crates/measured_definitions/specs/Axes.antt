-- The spans of two bodies on one axis: whether a span is within its limits, the two numbers that are nearest to each
-- other and the two that are farthest apart. Definitions only.
use Rattle.std.specs.Prelude.{Bool, cond, ◌&&◌, ℤ, pos, negsuc, ◌+ℤ◌}
use Rattle.std.specs.Int.Signed.{lt_z, le_z}
use Rattle.measured_definitions.specs.declared.Span.{Span}
use Rattle.measured_definitions.specs.declared.AxisChoice.{AxisChoice}

-- ---- the limits, by tests
unfoldable pub in_limits : ℤ → Span → Bool
in_limits least s = le_z least s.lowest && le_z s.lowest s.highest && le_z s.highest (pos 1024)

abbrev pub coordinate_in_limits : Span → Bool
coordinate_in_limits s = in_limits (negsuc 1023) s

abbrev pub size_in_limits : Span → Bool
size_in_limits s = in_limits (pos 0) s

-- ---- choices
abbrev pub choice : ℤ → ℤ → AxisChoice
choice a b = record { a = a; b = b }

-- the ends that face each other; where the spans share a number, the lowest that they share
unfoldable pub nearest : Span → Span → AxisChoice
nearest a b =
    cond (lt_z a.highest b.lowest) (choice a.highest b.lowest)
    (cond (lt_z b.highest a.lowest) (choice a.lowest b.highest)
    (cond (lt_z a.lowest b.lowest) (choice b.lowest b.lowest) (choice a.lowest a.lowest)))

-- the ends that look away from each other: the middles say which
unfoldable pub farthest : Span → Span → AxisChoice
farthest a b =
    cond (le_z (a.lowest +ℤ a.highest) (b.lowest +ℤ b.highest)) (choice a.lowest b.highest)
    (choice a.highest b.lowest)
