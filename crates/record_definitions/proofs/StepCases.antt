-- Closed cases of steps (document 02, request 05): empty lines among frames and malformed lines, lines that are only
-- almost empty, and the step number at its largest. The answers of the heat are those of the second programs, written by
-- tests/record/closed_heats. Assumes nothing.
use Prim.Native.Nat.{ℕ}
use mathlib.Core.Path.{◌≡◌, refl}
use mathlib.Core.List.{List, [], ◌∷◌, ◌++◌}
use lib.ListN.{replicate}
use lib.Ieee.{neg, add, sub, mul, div, le, lt, eq, of_bits, to_bits}
use Rattle.sqrt.specs.Sqrt.{root_digits, whole_root, root_by_steps, sqrt}
use Rattle.floats.specs.B2Math.{b2_sqrt, b2_add, b2_sub, b2_neg, b2_scale, b2_dot, b2_length_squared, b2_length}
use Rattle.floats.specs.B2Math.{b2_distance_vec2_squared, b2_normalize, b2_mul_rot_by_vec2, b2_mul_transform_by_vec2}
use Rattle.floats.specs.Ranges.{point_in_range, radius_in_range, rotation_in_range, transform_in_range}
use Rattle.floats.specs.Ranges.{local_normal_in_range, contact_point_in_range}
use Rattle.lines.specs.Fields.{vector_at, points_at, rotation_at, placement_at}
use Rattle.lines.specs.Hex.{unhex, frame_of, hex}
use Rattle.lines.proofs.Text.{text}
use Rattle.shape_definitions.specs.Circle.{circle_in_range}
use Rattle.shape_definitions.specs.Polygon.{outline_of_welded, b2_polygon_shape_set}
use Rattle.shape_definitions.specs.Outline.{too_near, welded}
use Rattle.contact_definitions.specs.B2CollideCircle.{farther, circles_manifold, b2_collide_circles}
use Rattle.contact_definitions.specs.Manifold.{counted_points, with_local_point, with_count, with_one_point}
use Rattle.contact_definitions.specs.PointStates.{same_id, id_among, ids_of, ids_in, point_state, states_of_ids}
use Rattle.contact_definitions.specs.WorldManifold.{circles_normal, world_of_circles, points_in_range}
use Rattle.contact_definitions.specs.WorldManifold.{manifold_in_range, b2_world_manifold_initialize}
use Rattle.record_definitions.specs.World.{blank_body, circle_body, outline_body, placed, fresh_pair, fresh_world}
use Rattle.record_definitions.specs.World.{piece_of, forget_below}
use Rattle.record_definitions.specs.Ages.{age_after, next_age, ages_of, with_ages}
use Rattle.record_definitions.specs.Touch.{meet_circle, meet, skin, world_points, touches_after, states_of}
use Rattle.record_definitions.specs.Touch.{touch_of, tested_as, tested, piece_tested, pieces_tested}
use Rattle.record_definitions.specs.Touch.{first_refusal}
use Rattle.record_definitions.specs.Frame.{frame_length, well_formed, frame_refusal, circle_change}
use Rattle.record_definitions.specs.Frame.{outline_change, place_change, listed, test_refusal, test_change}
use Rattle.record_definitions.specs.Frame.{change_of_kind, change}
use Rattle.record_definitions.specs.Answer.{head_bytes, point_bytes, touch_bytes, touch_lines}
use Rattle.record_definitions.specs.OneFrame.{change_in, changed, after_frame, said_of_frame}
use Rattle.record_definitions.specs.Server.{reply_to, reply_line}
use Rattle.record_definitions.specs.Touches.{lines_from, printed_lines, touches}
use Rattle.record_definitions.specs.Reading.{after_character, after, begin, printed_character, printed, fed_pieces}
use Rattle.record_definitions.proofs.Heats.{Runs}

-- what an empty line prints after so many steps
abbrev printed_after : ℕ → List ℕ
printed_after steps = reply_line (reply_to (record { world = fresh_world; steps = steps }) [])

pub record StepCases : Type 0 where
  -- a step may end before any frame, and two at once; the point that rests goes on resting over them, and its touch is
  -- the same; one digit and a blank end none
  pub steps_end : Runs (
      ("", "0a00000001") ∷
      ("010000000000000000003f800000", "00") ∷
      ("04000000000000000000000000003f800000", "00") ∷
      ("01013fc00000000000003f800000", "00") ∷
      ("04010000000000000000000000003f800000", "00") ∷
      ("050001", "050001010000000100000000013f800000000000003f40000000000000bf00000000000000") ∷
      ("", "0a00000002") ∷
      ("", "0a00000003") ∷
      ("050001", "050001010002000200000000013f800000000000003f40000000000000bf00000000000001") ∷
      ("0", "ff0a") ∷
      (" ", "ff0a") ∷
      ("", "0a00000004") ∷
      ("050001", "050001010002000200000000013f800000000000003f40000000000000bf00000000000002") ∷
      [])
  -- nor does a carriage return, nor a line of 166 characters or more, none of which is kept as an empty one
  pub carriage_return : touches (text "\r\n\n") ≡ text "ff0a\n0a00000001\n"
  pub longest_line : touches (replicate 166 48 ++ text "\n\n") ≡ text "ff0a\n0a00000001\n"
  pub overlong_line : touches (replicate 167 48 ++ text "\n\n") ≡ text "ff0a\n0a00000001\n"
  pub longer_line : touches (replicate 400 48 ++ text "\n\n") ≡ text "ff0a\n0a00000001\n"
  -- nothing after a last line feed is a line
  pub two_line_feeds : touches (text "\n\n") ≡ text "0a00000001\n0a00000002\n"
  pub last_line : touches (text "\n\n0") ≡ text "0a00000001\n0a00000002\nff0a\n"
  -- however it is read
  pub in_pieces : fed_pieces reply_line begin (text "\n0" ∷ [] ∷ text "\n" ∷ text "\n" ∷ [])
      ≡ text "0a00000001\nff0a\n0a00000002\n"
  -- the highest byte first; up to the largest, which holds
  pub high_byte_first : printed_after 66050 ≡ text "0a00010203\n"
  pub last_raised : printed_after 4294967294 ≡ text "0affffffff\n"
  pub held : printed_after 4294967295 ≡ text "0affffffff\n"

pub step_cases : StepCases
unfolding neg add sub mul div le lt eq of_bits to_bits root_digits whole_root root_by_steps sqrt b2_sqrt b2_add b2_sub
    b2_neg b2_scale b2_dot b2_length_squared b2_length b2_distance_vec2_squared b2_normalize b2_mul_rot_by_vec2
    b2_mul_transform_by_vec2 point_in_range radius_in_range rotation_in_range transform_in_range local_normal_in_range
    contact_point_in_range vector_at rotation_at placement_at unhex frame_of hex circle_in_range farther
    with_local_point with_count with_one_point counted_points same_id id_among ids_of ids_in point_state states_of_ids
    points_in_range manifold_in_range b2_world_manifold_initialize blank_body circle_body placed fresh_pair fresh_world
    forget_below meet_circle meet skin world_points touches_after states_of age_after next_age ages_of with_ages
    touch_of tested_as tested frame_length well_formed frame_refusal circle_change place_change listed test_refusal
    test_change change_of_kind change head_bytes point_bytes touch_bytes change_in changed after_frame said_of_frame
    lines_from printed_lines touches circles_manifold b2_collide_circles circles_normal world_of_circles outline_change
    outline_body b2_polygon_shape_set outline_of_welded points_at too_near welded piece_of piece_tested pieces_tested
    first_refusal touch_lines after_character after printed_character printed fed_pieces
step_cases = record {
  steps_end = refl;
  carriage_return = refl;
  longest_line = refl;
  overlong_line = refl;
  longer_line = refl;
  two_line_feeds = refl;
  last_line = refl;
  in_pieces = refl;
  high_byte_first = refl;
  last_raised = refl;
  held = refl;
}
