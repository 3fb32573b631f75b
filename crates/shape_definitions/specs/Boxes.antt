-- Boxes, b2_polygon_shape_set_as_box and b2_polygon_shape_set_as_box_angle; the second takes sine and cosine.
-- Half-widths may be negative. Refusals: 2 for a half-width or the centre, then 6 for sine or cosine. Definitions only.
use Rattle.std.specs.Prelude.{not, cond, ◌&&◌, List, [], ◌∷◌, map, Float}
use Rattle.std.specs.Float.Ieee.{neg}
use Rattle.floats.specs.declared.b2_math.B2vec2.{B2vec2}
use Rattle.floats.specs.declared.b2_math.B2Rot.{B2Rot}
use Rattle.rounding.specs.Literals.{zero32, one32}
use Rattle.floats.specs.B2Math.{vec2, b2_mul_rot_by_vec2, b2_mul_transform_by_vec2}
use Rattle.floats.specs.Ranges.{coordinate_in_range, point_in_range, rotation_in_range}
use Rattle.shape_definitions.specs.declared.b2_polygon_shape.B2polygonShape.{B2polygonShape}
use Rattle.shape_definitions.specs.declared.b2_polygon_shape.PolygonAnswer.{PolygonAnswer}
use Rattle.shape_definitions.specs.Refusal.{accepted, shape_out_of_range, placement_out_of_range}
use Rattle.shape_definitions.specs.Outline.{origin}
use Rattle.shape_definitions.specs.Polygon.{refused, put_first}

abbrev pub box_corners : Float → Float → List B2vec2
box_corners hx hy = vec2 (neg hx) (neg hy) ∷ vec2 hx (neg hy) ∷ vec2 hx hy ∷ vec2 (neg hx) hy ∷ []

abbrev pub box_normals : List B2vec2
box_normals = vec2 zero32 (neg one32) ∷ vec2 one32 zero32 ∷ vec2 zero32 one32 ∷ vec2 (neg one32) zero32 ∷ []

-- four corners and their normals; the radius and the places past them are kept
abbrev pub box_with : B2polygonShape → B2vec2 → List B2vec2 → List B2vec2 → PolygonAnswer
box_with old centroid corners normals = record {
  refusal = accepted;
  shape = record {
    m_radius = old.m_radius;
    m_centroid = centroid;
    m_vertices = put_first corners old.m_vertices;
    m_normals = put_first normals old.m_normals;
    m_count = 4;
  };
}

unfoldable pub b2_polygon_shape_set_as_box : B2polygonShape → Float → Float → PolygonAnswer
b2_polygon_shape_set_as_box old hx hy =
    cond (coordinate_in_range hx && coordinate_in_range hy)
    (box_with old origin (box_corners hx hy) box_normals)
    (refused shape_out_of_range old)

unfoldable pub b2_polygon_shape_set_as_box_angle : B2polygonShape → Float → Float → B2vec2 → B2Rot → PolygonAnswer
b2_polygon_shape_set_as_box_angle old hx hy center q =
    cond (not (coordinate_in_range hx && coordinate_in_range hy && point_in_range center))
    (refused shape_out_of_range old)
    (cond (not (rotation_in_range q)) (refused placement_out_of_range old)
    (box_with old center
    (map (b2_mul_transform_by_vec2 (record { p = center; q = q })) (box_corners hx hy))
    (map (b2_mul_rot_by_vec2 q) box_normals)))
