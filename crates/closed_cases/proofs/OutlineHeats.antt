-- Closed cases of the touch record, of outlines: each line of a heat with its answer. The answers are those of the
-- second programs, written by tests/record/closed_heats. Every body is placed before it is tested. Assumes nothing.
use mathlib.Core.Path.{refl}
use mathlib.Core.List.{[], ◌∷◌}
use lib.Ieee.{neg, add, sub, mul, div, le, lt, eq, of_bits, to_bits}
use Rattle.sqrt.specs.Sqrt.{root_digits, whole_root, root_by_steps, sqrt}
use Rattle.floats.specs.B2Math.{b2_sqrt, b2_min, b2_add, b2_sub, b2_neg, b2_scale, b2_dot, b2_cross}
use Rattle.floats.specs.B2Math.{b2_cross_vec_by_scalar, b2_length_squared, b2_length, b2_distance_vec2_squared}
use Rattle.floats.specs.B2Math.{b2_normalize, b2_mul_t_rot, b2_mul_rot_by_vec2, b2_mul_t_rot_by_vec2}
use Rattle.floats.specs.B2Math.{b2_mul_transform_by_vec2, b2_mul_t_transform_by_vec2, b2_mul_t_transform}
use Rattle.floats.specs.Ranges.{point_in_range, radius_in_range, rotation_in_range, transform_in_range, normal_in_range}
use Rattle.floats.specs.Ranges.{local_normal_in_range, contact_number_in_range, contact_point_in_range}
use Rattle.headings.specs.Sines.{sines}
use Rattle.headings.specs.Headings.{quarter_wave, opposite, heading}
use Rattle.lines.specs.Fields.{vector_at, points_at, rotation_at, placement_at}
use Rattle.lines.specs.Hex.{unhex, frame_of, hex}
use Rattle.shape_definitions.specs.Circle.{circle_in_range}
use Rattle.shape_definitions.specs.Validate.{polygon_in_range}
use Rattle.shape_definitions.specs.Polygon.{outline_of_corners, outline_of_welded, b2_polygon_shape_set}
use Rattle.shape_definitions.specs.Outline.{too_near, welded, comes_before, start, closer, next, row, edges}
use Rattle.shape_definitions.specs.Outline.{long_enough, fan}
use Rattle.contact_definitions.specs.B2CollideCircle.{farther, circle_separation, circle_at_corner, circle_at_face}
use Rattle.contact_definitions.specs.B2CollideCircle.{circle_at_best, polygon_circle_manifold}
use Rattle.contact_definitions.specs.B2CollideCircle.{b2_collide_polygon_and_circle}
use Rattle.contact_definitions.specs.B2CollidePolygon.{face_separation, b2_find_max_separation, axis_of, polygons_axis}
use Rattle.contact_definitions.specs.B2CollidePolygon.{incident_place, incident_end, b2_find_incident_edge}
use Rattle.contact_definitions.specs.B2CollidePolygon.{local_tangent, face_middle, face_along, outline_face}
use Rattle.contact_definitions.specs.B2CollidePolygon.{within_skins, outline_point, outline_manifold, polygons_manifold}
use Rattle.contact_definitions.specs.B2CollidePolygon.{b2_collide_polygons}
use Rattle.contact_definitions.specs.Clip.{clip_distance, crossing, clipped_by, clipped, clip_in_range}
use Rattle.contact_definitions.specs.Clip.{b2_clip_segment_to_line}
use Rattle.contact_definitions.specs.ReferenceFace.{clipped_to_sides, only, points_from, with_points, manifold_of_ends}
use Rattle.contact_definitions.specs.Searches.{some_below, least, first_greatest, first_least}
use Rattle.contact_definitions.specs.Manifold.{swapped_id, counted_points, with_local_point, with_count, with_kind}
use Rattle.contact_definitions.specs.Manifold.{with_one_point}
use Rattle.contact_definitions.specs.PointStates.{same_id, id_among, ids_of, ids_in, point_state, states_of_ids}
use Rattle.contact_definitions.specs.WorldManifold.{on_face, on_other, plane_separation, plane_middle, carried_points}
use Rattle.contact_definitions.specs.WorldManifold.{world_of_face, points_in_range, manifold_in_range}
use Rattle.contact_definitions.specs.WorldManifold.{b2_world_manifold_initialize}
use Rattle.record_definitions.specs.World.{blank_body, circle_body, outline_body, placed, fresh_pair, fresh_world}
use Rattle.record_definitions.specs.World.{piece_of, forget_below}
use Rattle.record_definitions.specs.Ages.{age_after, next_age, ages_of, with_ages}
use Rattle.record_definitions.specs.Touch.{meet_circle, meet_outline, meet, skin, world_points, touches_after}
use Rattle.record_definitions.specs.Touch.{states_of, touch_of, tested_as, tested, piece_tested, pieces_tested}
use Rattle.record_definitions.specs.Touch.{first_refusal}
use Rattle.record_definitions.specs.Frame.{frame_length, well_formed, frame_refusal, circle_change, outline_change}
use Rattle.record_definitions.specs.Frame.{place_change, turn_change, listed, test_refusal, test_change}
use Rattle.record_definitions.specs.Frame.{change_of_kind, change}
use Rattle.record_definitions.specs.Answer.{head_bytes, point_bytes, touch_bytes, touch_lines}
use Rattle.record_definitions.specs.OneFrame.{change_in, changed, after_frame, said_of_frame}
use Rattle.record_definitions.specs.Touches.{lines_from, printed_lines, touches}
use Rattle.record_definitions.proofs.Heats.{Runs}

pub record OutlineHeats : Type 0 where
  -- two boxes: two points at once are one touch; slid along, one point is gone, one rests and one is new, and no touch
  -- begins
  pub outlines_slide : Runs (
      ("020004bf800000bf8000003f800000bf8000003f8000003f800000bf8000003f800000", "00") ∷
      ("04000000000000000000000000003f800000", "00") ∷
      ("020104bf800000bf8000003f800000bf8000003f8000003f800000bf8000003f800000", "00") ∷
      ("04013fc0000000000000000000003f800000", "00") ∷
      ("050001", "050001020100000101000000013f800000000000003f4000003f800000bf051eb8000000003f400000bf800000bf051eb800000000") ∷
      ("04013fc000003f000000000000003f800000", "00") ∷
      ("050001", "050001020103020201000000013f800000000000003f400000bf000000bf051eb8000000013f4000003f828f5cbf051eb800000000") ∷
      [])
  -- an outline and a circle; the other order is not listed; a refused outline leaves the old one
  pub outline_and_circle : Runs (
      ("02000300000000000000003f80000000000000000000003f800000", "00") ∷
      ("04000000000000000000000000003f800000", "00") ∷
      ("01013f000000be8000003f000000", "00") ∷
      ("04010000000000000000000000003f800000", "00") ∷
      ("050001", "0500010101000001000000000100000000bf8000003f0000003df5c28fbe851eb800000000") ∷
      ("050100", "ff0d") ∷
      ("02000200000000000000003f80000000000000", "ff01") ∷
      ("050001", "0500010101020002000000000100000000bf8000003f0000003df5c28fbe851eb800000001") ∷
      [])
  -- a circle centred on a corner, out of a face by rounding alone: the normal of that face (document 02, request 07)
  pub circle_on_a_corner : Runs (
      ("02000341100000c2780000bf800000c0000000c254000040800000", "00") ∷
      ("04000000000000000000000000003f800000", "00") ∷
      ("0101bf800000c00000003f000000", "00") ∷
      ("04010000000000000000000000003f800000", "00") ∷
      ("050001", "050001010100000100000000013f7c844f3e285835bf9eeeeec00293e9bf028f5c00000000") ∷
      [])
  -- the kind that the contact call writes is not printed where clipping leaves no point
  pub clipped_away : Runs (
      ("020004bf800000bf8000003f800000bf8000003f8000003f800000bf8000003f800000", "00") ∷
      ("04000000000000000000000000003f800000", "00") ∷
      ("0201033f8147ae3f83d70a3f8ccccdc0a000003f8147ae40400000", "00") ∷
      ("04010000000000000000000000003f800000", "00") ∷
      ("050001", "05000100000000000000000000") ∷
      [])
  -- a triangle beside a box, by a turn number in each quarter: an eighth of a turn, and three times a quarter more; it
  -- rolls from corner to corner in one touch
  pub outline_turned : Runs (
      ("020004bf800000bf8000003f800000bf8000003f8000003f800000bf8000003f800000", "00") ∷
      ("04000000000000000000000000003f800000", "00") ∷
      ("020103bf000000bf0000003f000000bf0000003f0000003f000000", "00") ∷
      ("06013fc00000000000000200", "00") ∷
      ("050001", "05000100000000000000000000") ∷
      ("06013fc00000000000000600", "00") ∷
      ("050001", "050001010100000100000000013f800000000000003f657d8700000000be688ea800000000") ∷
      ("06013fc00000000000000a00", "00") ∷
      ("050001", "050001010103000100000000013f800000000000003f657d8700000000be688ea800000000") ∷
      ("06013fc00000000000000e00", "00") ∷
      ("050001", "050001010103000100000000013f800000000000003f657d8700000000be688ea800000000") ∷
      [])
  -- refusals 1, 2, 3, 4 and 5 of an outline
  pub outlines_refused : Runs (
      ("020000", "ff01") ∷
      ("02000300000000000000004a00000000000000000000003f800000", "ff02") ∷
      ("02000300000000000000003b1d495200000000000000003f800000", "ff03") ∷
      ("02000300000000000000003f800000000000004000000000000000", "ff04") ∷
      ("02000300000000000000003f800000000000003f00000033d6bf95", "ff05") ∷
      [])
  -- an accepted outline whose centroid is out of range: each test of it is refused with 2
  pub far_centroid : Runs (
      ("020004490a1fa5492cfc44c89c4a18c8c3bc7749282b0749529ceac81ff02fc8484e51", "00") ∷
      ("04000000000000000000000000003f800000", "00") ∷
      ("010100000000000000003f800000", "00") ∷
      ("04010000000000000000000000003f800000", "00") ∷
      ("050001", "ff02") ∷
      [])

pub outline_heats : OutlineHeats
unfolding neg add sub mul div le lt eq of_bits to_bits root_digits whole_root root_by_steps sqrt b2_sqrt b2_add b2_sub
    b2_neg b2_scale b2_dot b2_length_squared b2_length b2_distance_vec2_squared b2_normalize b2_mul_rot_by_vec2
    b2_mul_transform_by_vec2 point_in_range radius_in_range rotation_in_range transform_in_range local_normal_in_range
    contact_point_in_range sines quarter_wave opposite heading vector_at rotation_at placement_at unhex frame_of hex
    circle_in_range farther with_local_point with_count with_one_point counted_points same_id id_among ids_of ids_in
    point_state states_of_ids points_in_range manifold_in_range b2_world_manifold_initialize blank_body circle_body
    placed piece_of fresh_pair fresh_world forget_below meet_circle meet skin world_points touches_after states_of
    age_after next_age ages_of with_ages touch_of tested_as tested piece_tested pieces_tested first_refusal frame_length
    well_formed frame_refusal circle_change place_change turn_change listed test_refusal test_change change_of_kind
    change head_bytes point_bytes touch_bytes touch_lines change_in changed after_frame said_of_frame lines_from
    printed_lines touches too_near welded comes_before start closer next row edges long_enough fan b2_min
    outline_of_corners outline_of_welded b2_polygon_shape_set polygon_in_range normal_in_range points_at outline_body
    outline_change meet_outline b2_cross_vec_by_scalar b2_cross b2_mul_t_rot b2_mul_t_rot_by_vec2
    b2_mul_t_transform_by_vec2 b2_mul_t_transform face_separation b2_find_max_separation axis_of polygons_axis
    incident_place incident_end b2_find_incident_edge local_tangent face_middle face_along outline_face within_skins
    outline_point outline_manifold polygons_manifold b2_collide_polygons circle_separation circle_at_corner
    circle_at_face circle_at_best polygon_circle_manifold b2_collide_polygon_and_circle clip_distance crossing
    clipped_by clipped clip_in_range b2_clip_segment_to_line clipped_to_sides only points_from with_points
    manifold_of_ends some_below least first_greatest first_least swapped_id with_kind on_face on_other plane_separation
    plane_middle carried_points world_of_face contact_number_in_range
outline_heats = record {
  outlines_slide = refl;
  outline_and_circle = refl;
  circle_on_a_corner = refl;
  clipped_away = refl;
  outline_turned = refl;
  outlines_refused = refl;
  far_centroid = refl;
}
