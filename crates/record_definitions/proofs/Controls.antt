-- Closed cases of the touch record, of lines and circles: each line of a heat with its answer. The answers are those of
-- the second programs, written by tests/record/closed_heats. Every body is placed before it is tested, but for document
-- 01's whole case and the heat of a new shape. Assumes nothing.
use mathlib.Core.Path.{◌≡◌, refl}
use mathlib.Core.List.{[], ◌∷◌, ◌++◌}
use lib.ListN.{replicate}
use lib.Ieee.{neg, add, sub, mul, div, le, lt, eq, of_bits, to_bits}
use Rattle.sqrt.specs.Sqrt.{root_digits, whole_root, root_by_steps, sqrt}
use Rattle.floats.specs.B2Math.{b2_sqrt, b2_add, b2_sub, b2_neg, b2_scale, b2_dot, b2_length_squared, b2_length}
use Rattle.floats.specs.B2Math.{b2_distance_vec2_squared, b2_normalize, b2_mul_rot_by_vec2, b2_mul_transform_by_vec2}
use Rattle.floats.specs.Ranges.{point_in_range, radius_in_range, rotation_in_range, transform_in_range}
use Rattle.floats.specs.Ranges.{local_normal_in_range, contact_point_in_range}
use Rattle.lines.specs.Fields.{vector_at, points_at, rotation_at, placement_at}
use Rattle.lines.specs.Hex.{unhex, frame_of, hex}
use Rattle.lines.proofs.Text.{text}
use Rattle.shape_definitions.specs.Circle.{circle_in_range}
use Rattle.shape_definitions.specs.Polygon.{outline_of_welded, b2_polygon_shape_set}
use Rattle.shape_definitions.specs.Outline.{too_near, welded}
use Rattle.contact_definitions.specs.B2CollideCircle.{farther, circles_manifold, b2_collide_circles}
use Rattle.contact_definitions.specs.Manifold.{counted_points, with_local_point, with_count, with_one_point}
use Rattle.contact_definitions.specs.PointStates.{same_id, id_among, ids_of, ids_in, point_state, states_of_ids}
use Rattle.contact_definitions.specs.WorldManifold.{circles_normal, world_of_circles, points_in_range}
use Rattle.contact_definitions.specs.WorldManifold.{manifold_in_range, b2_world_manifold_initialize}
use Rattle.record_definitions.specs.World.{blank_body, circle_body, outline_body, placed, fresh_pair, fresh_world}
use Rattle.record_definitions.specs.World.{piece_of, forget_below}
use Rattle.record_definitions.specs.Ages.{age_after, next_age, ages_of, with_ages}
use Rattle.record_definitions.specs.Touch.{meet_circle, meet, skin, world_points, touches_after, states_of}
use Rattle.record_definitions.specs.Touch.{touch_of, tested_as, tested, piece_tested, pieces_tested}
use Rattle.record_definitions.specs.Touch.{first_refusal}
use Rattle.record_definitions.specs.Frame.{frame_length, well_formed, frame_refusal, circle_change}
use Rattle.record_definitions.specs.Frame.{outline_change, place_change, listed, test_refusal, test_change}
use Rattle.record_definitions.specs.Frame.{change_of_kind, change}
use Rattle.record_definitions.specs.Answer.{head_bytes, point_bytes, touch_bytes, touch_lines}
use Rattle.record_definitions.specs.OneFrame.{change_in, changed, after_frame, said_of_frame}
use Rattle.record_definitions.specs.Touches.{lines_from, printed_lines, touches}
use Rattle.record_definitions.proofs.Heats.{Runs}

pub record LineCases : Type 0 where
  -- document 01's whole case
  pub document_case : Runs (
      ("010000000000000000003f800000", "00") ∷
      ("01013fc00000000000003f800000", "00") ∷
      ("050001", "050001010000000100000000013f800000000000003f40000000000000bf00000000000000") ∷
      [])
  -- 10 of lines: another character, an odd number
  pub malformed_lines : Runs (
      ("0A", "ff0a") ∷
      ("050", "ff0a") ∷
      [])
  -- 10 of frames: kinds 00 and 0b, a circle without its numbers and with a byte too many, a wall without a flag and
  -- with another flag; and before 11
  pub malformed_frames : Runs (
      ("000000", "ff0a") ∷
      ("0b0000", "ff0a") ∷
      ("0100", "ff0a") ∷
      ("010000000000000000003f80000000", "ff0a") ∷
      ("0300", "ff0a") ∷
      ("03000200000000000000000000000000000000", "ff0a") ∷
      ("0508", "ff0a") ∷
      [])
  -- 11, of every kind of frame and of either id of a test, and before 12
  pub unknown_ids : Runs (
      ("010800000000000000003f800000", "ff0b") ∷
      ("02080300000000000000003f80000000000000000000003f800000", "ff0b") ∷
      ("03080000000000000000003f80000000000000", "ff0b") ∷
      ("04080000000000000000000000003f800000", "ff0b") ∷
      ("060800000000000000000000", "ff0b") ∷
      ("050800", "ff0b") ∷
      ("050008", "ff0b") ∷
      ("05ff00", "ff0b") ∷
      [])
  -- 12, of a placement, of either body of a test, and before 13
  pub no_shapes : Runs (
      ("04000000000000000000000000003f800000", "ff0c") ∷
      ("050000", "ff0c") ∷
      ("010000000000000000003f800000", "00") ∷
      ("04000000000000000000000000003f800000", "00") ∷
      ("050001", "ff0c") ∷
      ("050100", "ff0c") ∷
      [])
  -- 13, a body against itself
  pub same_body : Runs (
      ("010700000000000000003f800000", "00") ∷
      ("04070000000000000000000000003f800000", "00") ∷
      ("050707", "ff0d") ∷
      [])
  -- 2 for the radius and for the centre; 6 for the place, the sine and the cosine, and the circle stays where it is
  pub out_of_range : Runs (
      ("01000000000000000000bf800000", "ff02") ∷
      ("0100000000004a0000003f800000", "ff02") ∷
      ("010000000000000000003f800000", "00") ∷
      ("04000000000000000000000000003f800000", "00") ∷
      ("01013fc00000000000003f800000", "00") ∷
      ("04010000000000000000000000003f800000", "00") ∷
      ("04014a00000000000000000000003f800000", "ff06") ∷
      ("04010000000000000000400000003f800000", "ff06") ∷
      ("040100000000000000000000000040000000", "ff06") ∷
      ("050001", "050001010000000100000000013f800000000000003f40000000000000bf00000000000000") ∷
      [])
  -- a contact that rests is not counted again; one that is gone leaves the state remove once, and is counted when it is
  -- back; b a is another pair than a b
  pub circles_rest : Runs (
      ("010000000000000000003f800000", "00") ∷
      ("04000000000000000000000000003f800000", "00") ∷
      ("01013fc00000000000003f800000", "00") ∷
      ("04010000000000000000000000003f800000", "00") ∷
      ("050001", "050001010000000100000000013f800000000000003f40000000000000bf00000000000000") ∷
      ("050001", "050001010002000200000000013f800000000000003f40000000000000bf00000000000001") ∷
      ("04014040000000000000000000003f800000", "00") ∷
      ("050001", "05000100000300000000000001") ∷
      ("050001", "05000100000000000000000001") ∷
      ("04010000000000000000000000003f800000", "00") ∷
      ("050001", "050001010000000100000000023f800000000000003f40000000000000bf00000000000000") ∷
      ("050100", "05010001000000010000000001bf800000000000003f40000000000000bf00000000000000") ∷
      [])
  -- a refused shape forgets nothing; a new one forgets its pairs in both orders, and no others
  pub shapes_forget : Runs (
      ("010000000000000000003f800000", "00") ∷
      ("04000000000000000000000000003f800000", "00") ∷
      ("01013fc00000000000003f800000", "00") ∷
      ("04010000000000000000000000003f800000", "00") ∷
      ("0102000000003f8000003f800000", "00") ∷
      ("04020000000000000000000000003f800000", "00") ∷
      ("050001", "050001010000000100000000013f800000000000003f40000000000000bf00000000000000") ∷
      ("050100", "05010001000000010000000001bf800000000000003f40000000000000bf00000000000000") ∷
      ("050002", "05000201000000010000000001000000003f800000000000003f000000bf80000000000000") ∷
      ("01010000000000000000bf800000", "ff02") ∷
      ("050001", "050001010002000200000000013f800000000000003f40000000000000bf00000000000001") ∷
      ("04014110000000000000000000003f800000", "00") ∷
      ("01013fc00000000000003f800000", "00") ∷
      ("04010000000000000000000000003f800000", "00") ∷
      ("050001", "050001010000000100000000013f800000000000003f40000000000000bf00000000000000") ∷
      ("050100", "05010001000000010000000001bf800000000000003f40000000000000bf00000000000000") ∷
      ("050002", "05000201000200020000000001000000003f800000000000003f000000bf80000000000001") ∷
      [])
  -- a new shape stands at the origin, unturned, wherever the old one was
  pub new_shape_at_origin : Runs (
      ("010000000000000000003f800000", "00") ∷
      ("04000000000000000000000000003f800000", "00") ∷
      ("01013fc00000000000003f800000", "00") ∷
      ("040141100000000000003f80000000000000", "00") ∷
      ("01013fc00000000000003f800000", "00") ∷
      ("050001", "050001010000000100000000013f800000000000003f40000000000000bf00000000000000") ∷
      [])
  -- nothing is printed of nothing, and an empty line is a line: it ends a step
  pub no_input : touches [] ≡ []
  pub one_line_feed : touches (text "\n") ≡ text "0a00000001\n"
  -- the last line may lack its line feed; nothing after a last line feed is a line
  pub last_line_without_line_feed : touches (text "\n050707\n050001") ≡ text "0a00000001\nff0c\nff0c\n"
  -- an outline has at most 134 characters, here eight points that are one; with one or two more it is none, nor with
  -- nine points
  pub longest_line : touches (text "020008" ++ replicate 128 48) ≡ text "ff03\n"
  pub overlong_by_one : touches (text "020008" ++ replicate 129 48) ≡ text "ff0a\n"
  pub overlong_by_two : touches (text "020009" ++ replicate 130 48) ≡ text "ff0a\n"
  pub nine_points : touches (text "020009" ++ replicate 128 48) ≡ text "ff0a\n"

pub line_cases : LineCases
unfolding neg add sub mul div le lt eq of_bits to_bits root_digits whole_root root_by_steps sqrt b2_sqrt b2_add b2_sub
    b2_neg b2_scale b2_dot b2_length_squared b2_length b2_distance_vec2_squared b2_normalize b2_mul_rot_by_vec2
    b2_mul_transform_by_vec2 point_in_range radius_in_range rotation_in_range transform_in_range local_normal_in_range
    contact_point_in_range vector_at rotation_at placement_at unhex frame_of hex circle_in_range farther
    with_local_point with_count with_one_point counted_points same_id id_among ids_of ids_in point_state states_of_ids
    points_in_range manifold_in_range b2_world_manifold_initialize blank_body circle_body placed fresh_pair fresh_world
    forget_below meet_circle meet skin world_points touches_after states_of age_after next_age ages_of with_ages
    touch_of tested_as tested frame_length well_formed frame_refusal circle_change place_change listed test_refusal
    test_change change_of_kind change head_bytes point_bytes touch_bytes change_in changed after_frame said_of_frame
    lines_from printed_lines touches circles_manifold b2_collide_circles circles_normal world_of_circles outline_change
    outline_body b2_polygon_shape_set outline_of_welded points_at too_near welded piece_of piece_tested pieces_tested
    first_refusal touch_lines
line_cases = record {
  document_case = refl;
  malformed_lines = refl;
  malformed_frames = refl;
  unknown_ids = refl;
  no_shapes = refl;
  same_body = refl;
  out_of_range = refl;
  circles_rest = refl;
  shapes_forget = refl;
  new_shape_at_origin = refl;
  no_input = refl;
  one_line_feed = refl;
  last_line_without_line_feed = refl;
  longest_line = refl;
  overlong_by_one = refl;
  overlong_by_two = refl;
  nine_points = refl;
}
