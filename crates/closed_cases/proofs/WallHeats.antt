-- Closed cases of the touch record, of walls: each line of a heat with its answer. The answers are those of the
-- second programs, written by tests/record/closed_heats. Every body is placed before it is tested. Assumes nothing.
use mathlib.Core.Path.{refl}
use mathlib.Core.List.{[], ◌∷◌}
use lib.Ieee.{neg, add, sub, mul, div, le, lt, eq, of_bits, to_bits}
use Rattle.sqrt.specs.Sqrt.{root_digits, whole_root, root_by_steps, sqrt}
use Rattle.floats.specs.B2Math.{b2_sqrt, b2_min, b2_add, b2_sub, b2_neg, b2_scale, b2_dot, b2_cross}
use Rattle.floats.specs.B2Math.{b2_cross_vec_by_scalar, b2_length_squared, b2_length, b2_distance_vec2_squared}
use Rattle.floats.specs.B2Math.{b2_normalize, b2_mul_t_rot, b2_mul_rot_by_vec2, b2_mul_t_rot_by_vec2}
use Rattle.floats.specs.B2Math.{b2_mul_transform_by_vec2, b2_mul_t_transform_by_vec2, b2_mul_t_transform}
use Rattle.floats.specs.Ranges.{point_in_range, radius_in_range, rotation_in_range, transform_in_range, normal_in_range}
use Rattle.floats.specs.Ranges.{local_normal_in_range, contact_number_in_range, contact_point_in_range}
use Rattle.lines.specs.Fields.{vector_at, points_at, rotation_at, placement_at}
use Rattle.lines.specs.Hex.{unhex, frame_of, hex}
use Rattle.shape_definitions.specs.Circle.{circle_in_range}
use Rattle.shape_definitions.specs.Edge.{b2_set_one_sided, b2_set_two_sided, edge_in_range}
use Rattle.shape_definitions.specs.Validate.{polygon_in_range}
use Rattle.shape_definitions.specs.Polygon.{outline_of_corners, outline_of_welded, b2_polygon_shape_set}
use Rattle.shape_definitions.specs.Outline.{too_near, welded, comes_before, start, closer, next, row, edges}
use Rattle.shape_definitions.specs.Outline.{long_enough, fan}
use Rattle.contact_definitions.specs.B2CollideCircle.{farther}
use Rattle.contact_definitions.specs.B2CollideEdge.{circle_at_end, circle_at_wall, over_before, over_after}
use Rattle.contact_definitions.specs.B2CollideEdge.{edge_circle_answer, b2_collide_edge_and_circle}
use Rattle.contact_definitions.specs.B2CollideEdge.{edge_polygon_manifold, b2_collide_edge_and_polygon}
use Rattle.contact_definitions.specs.Clip.{clip_distance, crossing, clipped_by, clipped, clip_in_range}
use Rattle.contact_definitions.specs.Clip.{b2_clip_segment_to_line}
use Rattle.contact_definitions.specs.ReferenceFace.{clipped_to_sides, only, points_from, with_points, manifold_of_ends}
use Rattle.contact_definitions.specs.Searches.{some_below, least, first_greatest, first_least}
use Rattle.contact_definitions.specs.Manifold.{swapped_id, counted_points, with_local_point, with_count, with_kind}
use Rattle.contact_definitions.specs.Manifold.{with_one_point}
use Rattle.contact_definitions.specs.PointStates.{same_id, id_among, ids_of, ids_in, point_state, states_of_ids}
use Rattle.contact_definitions.specs.WorldManifold.{circles_normal, world_of_circles}
use Rattle.contact_definitions.specs.WorldManifold.{on_face, on_other, plane_separation, plane_middle, carried_points}
use Rattle.contact_definitions.specs.WorldManifold.{world_of_face, points_in_range, manifold_in_range}
use Rattle.contact_definitions.specs.WorldManifold.{b2_world_manifold_initialize}
use Rattle.contact_definitions.specs.EdgeAxis.{placed_corner, placed_normal, right_of, side_axis}
use Rattle.contact_definitions.specs.EdgeAxis.{b2_compute_edge_separation, outline_axis, b2_compute_polygon_separation}
use Rattle.contact_definitions.specs.EdgeAxis.{clearly_above, primary_axis, region_before, region_after, gauss_region}
use Rattle.contact_definitions.specs.EdgeAxis.{smoothed, edge_polygon_axis}
use Rattle.contact_definitions.specs.EdgeReference.{face_between, within_radius, most_against, outline_end}
use Rattle.contact_definitions.specs.EdgeReference.{outline_edge, point_in_frame, wall_manifold, wall_edge}
use Rattle.contact_definitions.specs.EdgeReference.{point_as_it_is, placed_face, face_manifold}
use Rattle.record_definitions.specs.World.{blank_body, circle_body, outline_body, wall_body, placed, fresh_pair}
use Rattle.record_definitions.specs.World.{fresh_world, piece_of, forget_below}
use Rattle.record_definitions.specs.Ages.{age_after, next_age, ages_of, with_ages}
use Rattle.record_definitions.specs.Touch.{meet_circle, meet_outline, meet, skin, world_points, touches_after}
use Rattle.record_definitions.specs.Touch.{states_of, touch_of, tested_as, tested, piece_tested, pieces_tested}
use Rattle.record_definitions.specs.Touch.{first_refusal}
use Rattle.record_definitions.specs.Frame.{frame_length, well_formed, frame_refusal, circle_change, outline_change}
use Rattle.record_definitions.specs.Frame.{wall_at, wall_change, place_change, listed, test_refusal, test_change}
use Rattle.record_definitions.specs.Frame.{change_of_kind, change}
use Rattle.record_definitions.specs.Answer.{head_bytes, point_bytes, touch_bytes, touch_lines}
use Rattle.record_definitions.specs.OneFrame.{change_in, changed, after_frame, said_of_frame}
use Rattle.record_definitions.specs.Touches.{lines_from, printed_lines, touches}
use Rattle.record_definitions.proofs.Heats.{Runs}

pub record WallHeats : Type 0 where
  -- a two-sided wall and a circle; a one-sided wall, new under the same id, does not see what is behind it
  pub wall_and_circle : Runs (
      ("030000bf800000000000003f80000000000000", "00") ∷
      ("04000000000000000000000000003f800000", "00") ∷
      ("0101000000003f0000003f800000", "00") ∷
      ("04010000000000000000000000003f800000", "00") ∷
      ("050001", "05000101010000010000000001800000003f80000000000000be7ae148bf028f5c00000000") ∷
      ("030001c000000000000000bf800000000000003f800000000000004000000000000000", "00") ∷
      ("04000000000000000000000000003f800000", "00") ∷
      ("050001", "05000100000000000000000000") ∷
      ("050100", "ff0d") ∷
      [])
  -- a one-sided wall from the side that it sees
  pub one_sided_wall : Runs (
      ("03000140000000000000003f80000000000000bf80000000000000c000000000000000", "00") ∷
      ("04000000000000000000000000003f800000", "00") ∷
      ("0101000000003f0000003f800000", "00") ∷
      ("04010000000000000000000000003f800000", "00") ∷
      ("050001", "05000101010000010000000001000000003f80000000000000be7ae148bf028f5c00000000") ∷
      [])
  -- a wall and an outline; the other order, and two walls, are not listed
  pub wall_and_outline : Runs (
      ("030000c0000000000000004000000000000000", "00") ∷
      ("04000000000000000000000000003f800000", "00") ∷
      ("02010300000000000000003f80000000000000000000003f800000", "00") ∷
      ("04010000000000000000000000003f800000", "00") ∷
      ("050001", "05000102010000010100000001800000003f8000000000000000000000bca3d70a000000003f80000000000000bca3d70a00000000") ∷
      ("050100", "ff0d") ∷
      ("03010000000000000000003f80000000000000", "00") ∷
      ("04010000000000000000000000003f800000", "00") ∷
      ("050001", "ff0d") ∷
      [])
  -- 2 for a wall, of a ghost point too
  pub walls_refused : Runs (
      ("0300004a000000000000003f80000000000000", "ff02") ∷
      ("03000100000000000000003f800000000000004000000000000000000000004a000000", "ff02") ∷
      ("050000", "ff0c") ∷
      [])
  -- 8, and the count stays
  pub short_wall : Runs (
      ("03000000000000000000001a0000001a000000", "00") ∷
      ("04000000000000000000000000003f800000", "00") ∷
      ("01011a400000998000003f800000", "00") ∷
      ("04010000000000000000000000003f800000", "00") ∷
      ("050001", "ff08") ∷
      [])
  -- a box on a wall rolls from corner to corner, comes to lie on both, is lifted off and put down again: the states
  -- change at each test, and two touches begin, one with one point and one with two
  pub rolling_box : Runs (
      ("030000c0000000000000004000000000000000", "00") ∷
      ("04000000000000000000000000003f800000", "00") ∷
      ("020104bf800000bf8000003f800000bf8000003f8000003f800000bf8000003f800000", "00") ∷
      ("0401000000003fb000003f19999a3f4ccccd", "00") ∷
      ("050001", "05000101010000010000000001800000003f800000be4cccd0bc4ccd40bd38522400000000") ∷
      ("0401000000003fb00000bf19999a3f4ccccd", "00") ∷
      ("050001", "05000101010300010000000001800000003f8000003e4cccd0bc4ccd40bd38522400000000") ∷
      ("0401000000003f800000000000003f800000", "00") ∷
      ("050001", "05000102010200010200000001800000003f800000bf80000000000000bca3d70a000000003f80000000000000bca3d70a00000001") ∷
      ("04010000000040000000000000003f800000", "00") ∷
      ("050001", "05000100000303000000000001") ∷
      ("0401000000003f800000000000003f800000", "00") ∷
      ("050001", "05000102010000010100000002800000003f800000bf80000000000000bca3d70a000000003f80000000000000bca3d70a00000000") ∷
      [])
  -- a test that is refused with 8 is no last test: the circle is at the wall's end, then over its middle, and back
  pub refused_between : Runs (
      ("03000000000000000000001a0000001a000000", "00") ∷
      ("04000000000000000000000000003f800000", "00") ∷
      ("01011a400000998000003f800000", "00") ∷
      ("0401000000003f000000000000003f800000", "00") ∷
      ("050001", "050001010000000100000000011a0000003f80000019c147aebe7ae148bf028f5c00000000") ∷
      ("04010000000000000000000000003f800000", "00") ∷
      ("050001", "ff08") ∷
      ("0401000000003f000000000000003f800000", "00") ∷
      ("050001", "050001010002000200000000011a0000003f80000019c147aebe7ae148bf028f5c00000001") ∷
      [])
  -- a squared length whose reciprocal is infinite: a point at any distance
  pub far_circle : Runs (
      ("03000000000000000000001c80000000000000", "00") ∷
      ("04000000000000000000000000003f800000", "00") ∷
      ("01011c000000447a000000000000", "00") ∷
      ("04010000000000000000000000003f800000", "00") ∷
      ("050001", "05000101010000010000000001800000001c8000001c000000447a00000000000000000000") ∷
      [])

pub wall_heats : WallHeats
unfolding neg add sub mul div le lt eq of_bits to_bits root_digits whole_root root_by_steps sqrt b2_sqrt b2_add b2_sub
    b2_neg b2_scale b2_dot b2_length_squared b2_length b2_distance_vec2_squared b2_normalize b2_mul_rot_by_vec2
    b2_mul_transform_by_vec2 point_in_range radius_in_range rotation_in_range transform_in_range local_normal_in_range
    contact_point_in_range vector_at rotation_at placement_at unhex frame_of hex circle_in_range farther
    with_local_point with_count with_one_point counted_points same_id id_among ids_of ids_in point_state states_of_ids
    points_in_range manifold_in_range b2_world_manifold_initialize blank_body circle_body placed piece_of fresh_pair
    fresh_world forget_below meet_circle meet skin world_points touches_after states_of age_after next_age ages_of
    with_ages touch_of tested_as tested piece_tested pieces_tested first_refusal frame_length well_formed frame_refusal
    circle_change place_change listed test_refusal test_change change_of_kind change head_bytes point_bytes touch_bytes
    touch_lines change_in changed after_frame said_of_frame lines_from printed_lines touches too_near welded
    comes_before start closer next row edges long_enough fan b2_min outline_of_corners outline_of_welded
    b2_polygon_shape_set polygon_in_range normal_in_range points_at outline_body outline_change meet_outline
    b2_cross_vec_by_scalar b2_cross b2_mul_t_rot b2_mul_t_rot_by_vec2 b2_mul_t_transform_by_vec2 b2_mul_t_transform
    b2_set_one_sided b2_set_two_sided edge_in_range wall_body wall_at wall_change circle_at_end circle_at_wall
    over_before over_after edge_circle_answer b2_collide_edge_and_circle edge_polygon_manifold
    b2_collide_edge_and_polygon placed_corner placed_normal right_of side_axis b2_compute_edge_separation outline_axis
    b2_compute_polygon_separation clearly_above primary_axis region_before region_after gauss_region smoothed
    edge_polygon_axis face_between within_radius most_against outline_end outline_edge point_in_frame wall_manifold
    wall_edge point_as_it_is placed_face face_manifold clip_distance crossing clipped_by clipped clip_in_range
    b2_clip_segment_to_line clipped_to_sides only points_from with_points manifold_of_ends some_below least
    first_greatest first_least swapped_id with_kind on_face on_other plane_separation plane_middle carried_points
    world_of_face contact_number_in_range circles_normal world_of_circles
wall_heats = record {
  wall_and_circle = refl;
  one_sided_wall = refl;
  wall_and_outline = refl;
  walls_refused = refl;
  short_wall = refl;
  rolling_box = refl;
  refused_between = refl;
  far_circle = refl;
}
