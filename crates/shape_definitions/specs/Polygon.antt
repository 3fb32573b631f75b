-- The outline builder, b2_polygon_shape_set, as document 01 has it: weld, start, walk, normals, centroid, with the
-- refusals 1, 2, 3, 4, 5 in that order and no other; a refused call hands back the outline that it was given.
-- Definitions only.
use Rattle.std.specs.Prelude.{Bool, not, cond, ◌&&◌, ◌||◌, List, map, ℕ, ltb, length, take}
use Rattle.std.proofs.Math.Option.{Option, none, some}
use Rattle.std.specs.Float.Ieee.{lt}
use Rattle.algebra.specs.Lists.{all_of}
use Rattle.algebra.specs.Buffer.{over}
use Rattle.floats.specs.declared.b2_math.B2vec2.{B2vec2}
use Rattle.floats.specs.B2Common.{b2_epsilon}
use Rattle.floats.specs.Ranges.{point_in_range}
use Rattle.shape_definitions.specs.declared.b2_polygon_shape.B2polygonShape.{B2polygonShape}
use Rattle.shape_definitions.specs.declared.b2_polygon_shape.PolygonAnswer.{PolygonAnswer}
use Rattle.shape_definitions.specs.declared.b2_polygon_shape.FanSum.{FanSum}
use Rattle.shape_definitions.specs.Refusal.{accepted, wrong_number_of_points, shape_out_of_range}
use Rattle.shape_definitions.specs.Refusal.{too_few_after_welding}
use Rattle.shape_definitions.specs.Refusal.{walk_not_closed, edge_or_area_too_small}
use Rattle.shape_definitions.specs.Outline.{point_at, welded, row, edges, long_enough, normal_of_edge, fan}
use Rattle.shape_definitions.specs.Outline.{centroid_of}

abbrev pub refused : ℕ → B2polygonShape → PolygonAnswer
refused number old = record { refusal = number; shape = old }

-- every point passes the test
abbrev pub all_points : (B2vec2 → Bool) → List B2vec2 → Bool
all_points test points = all_of test points

-- new points in the first places; the places past them keep their bits
abbrev pub put_first : List B2vec2 → List B2vec2 → List B2vec2
put_first new old = over new old

-- the outline of a row of corners: normals, then the centroid; the radius is kept
abbrev pub finished : B2polygonShape → List B2vec2 → FanSum → PolygonAnswer
finished old corners sum = record {
  refusal = accepted;
  shape = record {
    m_radius = old.m_radius;
    m_centroid = centroid_of (point_at corners 0) sum;
    m_vertices = put_first corners old.m_vertices;
    m_normals = put_first (map normal_of_edge (edges corners)) old.m_normals;
    m_count = length corners;
  };
}

unfoldable pub outline_of_corners : B2polygonShape → List B2vec2 → PolygonAnswer
outline_of_corners old corners =
    cond (long_enough (edges corners) && lt b2_epsilon (fan corners).area) (finished old corners (fan corners))
    (refused edge_or_area_too_small old)

abbrev pub outline_of_row : B2polygonShape → List B2vec2 → Option (List ℕ) → PolygonAnswer
outline_of_row old ps none = refused walk_not_closed old
outline_of_row old ps (some places) =
    cond (ltb (length places) 3) (refused walk_not_closed old) (outline_of_corners old (map (point_at ps) places))

unfoldable pub outline_of_welded : B2polygonShape → List B2vec2 → PolygonAnswer
outline_of_welded old ps =
    cond (ltb (length ps) 3) (refused too_few_after_welding old) (outline_of_row old ps (row ps))

unfoldable pub b2_polygon_shape_set : B2polygonShape → List B2vec2 → PolygonAnswer
b2_polygon_shape_set old points =
    cond (ltb (length points) 3 || ltb 8 (length points)) (refused wrong_number_of_points old)
    (cond (not (all_points point_in_range points)) (refused shape_out_of_range old)
    (outline_of_welded old (welded points)))

-- the same of the first count points
unfoldable pub b2_polygon_shape_set_counted : B2polygonShape → List B2vec2 → ℕ → PolygonAnswer
b2_polygon_shape_set_counted old points count =
    cond (ltb count 3 || ltb 8 count) (refused wrong_number_of_points old)
    (b2_polygon_shape_set old (take count points))
