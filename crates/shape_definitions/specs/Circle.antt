-- Circles: which numbers of a circle a call takes (document 01, "Ranges"). Definitions only.
use Rattle.std.specs.Prelude.{Bool, ◌&&◌}
use Rattle.floats.specs.Ranges.{point_in_range, radius_in_range}
use Rattle.shape_definitions.specs.declared.b2_circle_shape.B2circleShape.{B2circleShape}

unfoldable pub circle_in_range : B2circleShape → Bool
circle_in_range circle = radius_in_range circle.m_radius && point_in_range circle.m_p
