-- The convexity test, b2_polygon_shape_validate: no corner lies right of a face, by the rounded cross product. Counts 0
-- to 8; an outline of no or one corner passes. Refusals: 7 for the count, then 2 for any number of the outline that the
-- count takes in. Definitions only.
use Rattle.std.specs.Prelude.{Bool, true, false, not, cond, ◌&&◌, ◌||◌, ℕ, zero, suc, ltb, eqb, take, List}
use Rattle.std.specs.Float.Ieee.{lt}
use Rattle.floats.specs.declared.b2_math.B2vec2.{B2vec2}
use Rattle.rounding.specs.Literals.{zero32}
use Rattle.floats.specs.B2Math.{b2_sub, b2_cross}
use Rattle.floats.specs.Ranges.{point_in_range, radius_in_range, normal_in_range}
use Rattle.shape_definitions.specs.declared.b2_polygon_shape.B2polygonShape.{B2polygonShape}
use Rattle.shape_definitions.specs.Answers.{ValidateAnswer}
use Rattle.shape_definitions.specs.Refusal.{accepted, shape_out_of_range, count_out_of_range}
use Rattle.shape_definitions.specs.Outline.{point_at, place_after}
use Rattle.shape_definitions.specs.Polygon.{all_points}

-- corner j is not right of the face from i, or is one of its ends
abbrev pub not_right_of : List B2vec2 → ℕ → ℕ → ℕ → Bool
not_right_of vs count i j =
    eqb j i || eqb j (place_after count i)
    || not (lt (b2_cross (b2_sub (point_at vs (place_after count i)) (point_at vs i))
    (b2_sub (point_at vs j) (point_at vs i))) zero32)

-- all of the corners below j
unfoldable pub corners_not_right : List B2vec2 → ℕ → ℕ → ℕ → Bool
corners_not_right vs count i zero = true
corners_not_right vs count i (suc j) = corners_not_right vs count i j && not_right_of vs count i j

-- of all of the faces below i
unfoldable pub faces_convex : List B2vec2 → ℕ → ℕ → Bool
faces_convex vs count zero = true
faces_convex vs count (suc i) = faces_convex vs count i && corners_not_right vs count i count

unfoldable pub polygon_in_range : B2polygonShape → Bool
polygon_in_range shape =
    radius_in_range shape.m_radius && point_in_range shape.m_centroid
    && all_points point_in_range (take shape.m_count shape.m_vertices)
    && all_points normal_in_range (take shape.m_count shape.m_normals)

unfoldable pub b2_polygon_shape_validate : B2polygonShape → ValidateAnswer
b2_polygon_shape_validate shape =
    cond (ltb 8 shape.m_count) (record { refusal = count_out_of_range; valid = false })
    (cond (not (polygon_in_range shape)) (record { refusal = shape_out_of_range; valid = false })
    (record { refusal = accepted; valid = faces_convex shape.m_vertices shape.m_count shape.m_count }))
