-- Closed cases of the export: what it returns and leaves of an output whose bytes are 07. The answers are those of the
-- second programs, written by tests/record/closed_heats. Assumes nothing.
use Prim.Native.String.{String}
use mathlib.Core.Path.{refl}
use mathlib.Core.List.{[], ◌∷◌}
use lib.Ieee.{neg, add, sub, mul, div, le, lt, eq, of_bits, to_bits}
use Rattle.sqrt.specs.Sqrt.{root_digits, whole_root, root_by_steps, sqrt}
use Rattle.floats.specs.B2Math.{b2_sqrt, b2_min, b2_add, b2_sub, b2_neg, b2_scale, b2_dot, b2_cross}
use Rattle.floats.specs.B2Math.{b2_cross_vec_by_scalar, b2_length_squared, b2_length, b2_distance_vec2_squared}
use Rattle.floats.specs.B2Math.{b2_normalize, b2_mul_t_rot, b2_mul_rot_by_vec2, b2_mul_t_rot_by_vec2}
use Rattle.floats.specs.B2Math.{b2_mul_transform_by_vec2, b2_mul_t_transform_by_vec2, b2_mul_t_transform}
use Rattle.floats.specs.Ranges.{point_in_range, radius_in_range, rotation_in_range, transform_in_range, normal_in_range}
use Rattle.floats.specs.Ranges.{local_normal_in_range, contact_number_in_range, contact_point_in_range}
use Rattle.lines.specs.Fields.{vector_at, points_at, rotation_at, placement_at}
use Rattle.lines.specs.Hex.{unhex}
use Rattle.shape_definitions.specs.Circle.{circle_in_range}
use Rattle.shape_definitions.specs.Validate.{polygon_in_range}
use Rattle.shape_definitions.specs.Polygon.{outline_of_corners, outline_of_welded, b2_polygon_shape_set}
use Rattle.shape_definitions.specs.Outline.{too_near, welded, comes_before, start, closer, next, row, edges}
use Rattle.shape_definitions.specs.Outline.{long_enough, fan}
use Rattle.contact_definitions.specs.B2CollideCircle.{farther, circle_separation, circle_at_corner, circle_at_face}
use Rattle.contact_definitions.specs.B2CollideCircle.{circle_at_best, polygon_circle_manifold}
use Rattle.contact_definitions.specs.B2CollideCircle.{b2_collide_polygon_and_circle}
use Rattle.contact_definitions.specs.B2CollidePolygon.{face_separation, b2_find_max_separation, axis_of, polygons_axis}
use Rattle.contact_definitions.specs.B2CollidePolygon.{incident_place, incident_end, b2_find_incident_edge}
use Rattle.contact_definitions.specs.B2CollidePolygon.{local_tangent, face_middle, face_along, outline_face}
use Rattle.contact_definitions.specs.B2CollidePolygon.{within_skins, outline_point, outline_manifold, polygons_manifold}
use Rattle.contact_definitions.specs.B2CollidePolygon.{b2_collide_polygons}
use Rattle.contact_definitions.specs.Clip.{clip_distance, crossing, clipped_by, clipped, clip_in_range}
use Rattle.contact_definitions.specs.Clip.{b2_clip_segment_to_line}
use Rattle.contact_definitions.specs.ReferenceFace.{clipped_to_sides, only, points_from, with_points, manifold_of_ends}
use Rattle.contact_definitions.specs.Searches.{some_below, least, first_greatest, first_least}
use Rattle.contact_definitions.specs.Manifold.{swapped_id, counted_points, with_local_point, with_count, with_kind}
use Rattle.contact_definitions.specs.Manifold.{with_one_point}
use Rattle.contact_definitions.specs.PointStates.{same_id, id_among, ids_of, ids_in, point_state, states_of_ids}
use Rattle.contact_definitions.specs.WorldManifold.{on_face, on_other, plane_separation, plane_middle, carried_points}
use Rattle.contact_definitions.specs.WorldManifold.{world_of_face, points_in_range, manifold_in_range}
use Rattle.contact_definitions.specs.WorldManifold.{b2_world_manifold_initialize}
use Rattle.record_definitions.specs.World.{blank_body, circle_body, outline_body, placed, fresh_pair, fresh_world}
use Rattle.record_definitions.specs.World.{piece_of, forget_below}
use Rattle.record_definitions.specs.Ages.{age_after, next_age, ages_of, with_ages}
use Rattle.record_definitions.specs.Touch.{meet_circle, meet_outline, meet, skin, world_points, touches_after}
use Rattle.record_definitions.specs.Touch.{states_of, touch_of, tested_as, tested, piece_tested, pieces_tested}
use Rattle.record_definitions.specs.Touch.{first_refusal}
use Rattle.record_definitions.specs.Frame.{frame_length, well_formed, frame_refusal, circle_change, outline_change}
use Rattle.record_definitions.specs.Frame.{place_change, listed, test_refusal, test_change, change_of_kind, change}
use Rattle.record_definitions.specs.Answer.{head_bytes, point_bytes, touch_bytes, touch_lines}
use Rattle.record_definitions.specs.OneFrame.{change_in, changed, after_frame, said_of_frame}
use Rattle.record_definitions.specs.Export.{last_said, in_order, export_said, export_number, export_output}
use Rattle.record_definitions.proofs.Heats.{Exports}

-- a triangle for each id, placed where it was drawn
abbrev triangle_0 : String
triangle_0 = "02000300000000000000003f80000000000000000000003f800000"

abbrev unmoved_0 : String
unmoved_0 = "04000000000000000000000000003f800000"

abbrev triangle_1 : String
triangle_1 = "02010300000000000000003f80000000000000000000003f800000"

abbrev unmoved_1 : String
unmoved_1 = "04010000000000000000000000003f800000"

pub record ExportCases : Type 0 where
  -- 53 bytes for two points, 37 for one, 13 for none; the byte past the longest answer stays
  pub two_points : Exports (triangle_0 ∷ unmoved_0 ∷ triangle_1 ∷ unmoved_1 ∷ []) 54 53
      "050001020100000101000000013f3504f33f3504f3000000003f800000bca3d6fb000000003e7ffffe3e7ffffebf3a23aa00000000"
  pub one_point : Exports (triangle_0 ∷ unmoved_0 ∷ triangle_1 ∷ "04013f00000000000000000000003f800000" ∷ []) 53 37
      "050001010100000100000000013f3504f33f3504f33f2000003dffffffbebf426200000000"
  pub no_point : Exports (triangle_0 ∷ unmoved_0 ∷ triangle_1 ∷ "04014110000000000000000000003f800000" ∷ []) 54 13
      "05000100000000000000000000"
  -- an output of 52 bytes is refused with 9, also for 13, and before 10
  pub output_too_short : Exports (triangle_0 ∷ unmoved_0 ∷ triangle_1 ∷ "04014110000000000000000000003f800000" ∷ [])
      52 265 ""
  pub short_before_malformed : Exports [] 52 265 ""
  -- 10 for no frames, a byte missing or too many, an outline of nine points, another id of an outline or a placement
  pub nothing_given : Exports [] 54 266 ""
  pub nine_points : Exports ("020009" ∷ "000000000000000000000000000000000000000000000000000000000000000000000000" ∷
      "000000000000000000000000000000000000000000000000000000000000000000000000" ∷ unmoved_0 ∷ triangle_1 ∷ unmoved_1 ∷
      []) 54 266 ""
  pub byte_missing : Exports (triangle_0 ∷ unmoved_0 ∷ triangle_1 ∷ "04010000000000000000000000003f8000" ∷ []) 54 266 ""
  pub byte_too_many : Exports (triangle_0 ∷ unmoved_0 ∷ triangle_1 ∷ "04010000000000000000000000003f80000000" ∷ [])
      54 266 ""
  pub other_outline : Exports (triangle_0 ∷ unmoved_0 ∷ "02020300000000000000003f80000000000000000000003f800000" ∷
      unmoved_1 ∷ []) 54 266 ""
  pub other_placement : Exports (triangle_0 ∷ unmoved_1 ∷ triangle_1 ∷ unmoved_1 ∷ []) 54 266 ""
  -- the first refusal met is returned: 1 of the first outline though the second too, 6 of a placement before it
  pub first_refusal : Exports ("02000200000000000000003f80000000000000" ∷ unmoved_0 ∷ "020100" ∷ unmoved_1 ∷ [])
      54 257 ""
  pub placement_refused : Exports (triangle_0 ∷ "040049f4240000000000000000003f800000" ∷
      "02010200000000000000003f80000000000000" ∷ unmoved_1 ∷ []) 54 262 ""
  -- but 10 of the whole input comes before any frame runs
  pub malformed_before_refused : Exports ("02000200000000000000003f80000000000000" ∷ unmoved_0 ∷ triangle_1 ∷
      "04010000000000000000000000003f8000" ∷ []) 54 266 ""

pub export_cases : ExportCases
unfolding neg add sub mul div le lt eq of_bits to_bits root_digits whole_root root_by_steps sqrt b2_sqrt b2_add b2_sub
    b2_neg b2_scale b2_dot b2_length_squared b2_length b2_distance_vec2_squared b2_normalize b2_mul_rot_by_vec2
    b2_mul_transform_by_vec2 point_in_range radius_in_range rotation_in_range transform_in_range local_normal_in_range
    contact_point_in_range vector_at rotation_at placement_at unhex circle_in_range farther with_local_point with_count
    with_one_point counted_points same_id id_among ids_of ids_in point_state states_of_ids points_in_range
    manifold_in_range b2_world_manifold_initialize blank_body circle_body placed fresh_pair fresh_world forget_below
    meet_circle meet skin world_points touches_after states_of age_after next_age ages_of with_ages touch_of tested_as
    tested frame_length well_formed frame_refusal circle_change place_change listed test_refusal test_change
    change_of_kind change head_bytes point_bytes touch_bytes touch_lines change_in changed after_frame said_of_frame
    too_near welded comes_before start closer next row edges long_enough fan b2_min outline_of_corners outline_of_welded
    b2_polygon_shape_set polygon_in_range normal_in_range points_at outline_body outline_change meet_outline
    b2_cross_vec_by_scalar b2_cross b2_mul_t_rot b2_mul_t_rot_by_vec2 b2_mul_t_transform_by_vec2 b2_mul_t_transform
    face_separation b2_find_max_separation axis_of polygons_axis incident_place incident_end b2_find_incident_edge
    local_tangent face_middle face_along outline_face within_skins outline_point outline_manifold polygons_manifold
    b2_collide_polygons circle_separation circle_at_corner circle_at_face circle_at_best polygon_circle_manifold
    b2_collide_polygon_and_circle clip_distance crossing clipped_by clipped clip_in_range b2_clip_segment_to_line
    clipped_to_sides only points_from with_points manifold_of_ends some_below least first_greatest first_least
    swapped_id with_kind on_face on_other plane_separation plane_middle carried_points world_of_face
    contact_number_in_range export_number export_output export_said in_order last_said piece_of piece_tested
    pieces_tested first_refusal
export_cases = record {
  two_points = record { returns = refl; leaves = refl };
  one_point = record { returns = refl; leaves = refl };
  no_point = record { returns = refl; leaves = refl };
  output_too_short = record { returns = refl; leaves = refl };
  short_before_malformed = record { returns = refl; leaves = refl };
  nothing_given = record { returns = refl; leaves = refl };
  nine_points = record { returns = refl; leaves = refl };
  byte_missing = record { returns = refl; leaves = refl };
  byte_too_many = record { returns = refl; leaves = refl };
  other_outline = record { returns = refl; leaves = refl };
  other_placement = record { returns = refl; leaves = refl };
  first_refusal = record { returns = refl; leaves = refl };
  placement_refused = record { returns = refl; leaves = refl };
  malformed_before_refused = record { returns = refl; leaves = refl };
}
