-- Closed cases of frame 06: heats whose answers are those of the second programs, written by tests/record/closed_heats,
-- and the theorem of frame 06 on closed frames, so that no hypothesis of it is empty. Assumes nothing.
use Prim.Native.Nat.{ℕ}
use mathlib.Core.Path.{◌≡◌, refl}
use mathlib.Core.Bool.{false}
use mathlib.Core.List.{List, [], ◌∷◌}
use native.Mathlib.Omega.{arith}
use lib.ListN.{replicate}
use lib.Ieee.{neg, add, sub, mul, div, le, lt, eq, of_bits, to_bits}
use Rattle.sqrt.specs.Sqrt.{root_digits, whole_root, root_by_steps, sqrt}
use Rattle.floats.specs.B2Math.{b2_sqrt, b2_add, b2_sub, b2_neg, b2_scale, b2_dot, b2_length_squared, b2_length}
use Rattle.floats.specs.B2Math.{b2_distance_vec2_squared, b2_normalize, b2_mul_rot_by_vec2, b2_mul_transform_by_vec2}
use Rattle.floats.specs.Ranges.{point_in_range, radius_in_range, rotation_in_range, transform_in_range}
use Rattle.floats.specs.Ranges.{local_normal_in_range, contact_point_in_range}
use Rattle.headings.specs.Sines.{sines}
use Rattle.headings.specs.Headings.{quarter_wave, opposite, heading}
use Rattle.lines.specs.Fields.{vector_at, rotation_at, placement_at}
use Rattle.lines.specs.Hex.{unhex, frame_of, hex}
use Rattle.shape_definitions.specs.Circle.{circle_in_range}
use Rattle.contact_definitions.specs.B2CollideCircle.{farther, circles_manifold, b2_collide_circles}
use Rattle.contact_definitions.specs.Manifold.{counted_points, with_local_point, with_count, with_one_point}
use Rattle.contact_definitions.specs.PointStates.{same_id, id_among, ids_of, ids_in, point_state, states_of_ids}
use Rattle.contact_definitions.specs.WorldManifold.{circles_normal, world_of_circles, points_in_range}
use Rattle.contact_definitions.specs.WorldManifold.{manifold_in_range, b2_world_manifold_initialize}
use Rattle.record_definitions.specs.declared.world.World.{World}
use Rattle.record_definitions.specs.declared.frame.Answer.TheVariants.{Accepted, Refused}
use Rattle.record_definitions.specs.World.{blank_body, circle_body, placed, fresh_pair, fresh_world, forget_below}
use Rattle.record_definitions.specs.World.{piece_of}
use Rattle.record_definitions.specs.Ages.{age_after, next_age, ages_of, with_ages}
use Rattle.record_definitions.specs.Touch.{meet_circle, meet, skin, world_points, touches_after, states_of}
use Rattle.record_definitions.specs.Touch.{touch_of, tested_as, tested, piece_tested, pieces_tested}
use Rattle.record_definitions.specs.Touch.{first_refusal}
use Rattle.record_definitions.specs.Frame.{frame_length, well_formed, frame_refusal, circle_change, place_change}
use Rattle.record_definitions.specs.Frame.{turn_change, listed, test_refusal, test_change, change_of_kind, change}
use Rattle.record_definitions.specs.Answer.{head_bytes, point_bytes, touch_bytes, touch_lines}
use Rattle.record_definitions.specs.OneFrame.{change_in, changed, after_frame, said_of_frame}
use Rattle.record_definitions.specs.Touches.{lines_from, printed_lines, touches}
use Rattle.record_definitions.specs.TurnFrames.{frame_by_turn, frame_by_heading, turned}
use Rattle.record_definitions.proofs.Heats.{bytes_of, Runs}
use Rattle.record_definitions.proofs.TurnFrames.{turn_frames}

-- a circle under the id 1, and a position: at the origin, or out of range
abbrev world : World
world = after_frame fresh_world (bytes_of ("01013fc00000000000003f800000" ∷ []))

abbrev origin : List ℕ
origin = replicate 8 0

abbrev outside : List ℕ
outside = 0x4a ∷ replicate 7 0

pub record TurnCases : Type 0 where
  -- a circle of which the centre goes round another, a turn number in each quarter: 30°, 120°, 210°, 300°, nearly
  pub each_quarter : Runs (
      ("010000000000000000003f800000", "00") ∷
      ("04000000000000000000000000003f800000", "00") ∷
      ("01013fc00000000000003f800000", "00") ∷
      ("060100000000000000000155", "00") ∷
      ("050001", "050001010000000100000000013f5dc4973effc5f33f2653713ebfd476bf00000100000000") ∷
      ("060100000000000000000555", "00") ∷
      ("050001", "05000101000200020000000001beffc5f33f5dc497bebfd4763f265371bf00000100000001") ∷
      ("060100000000000000000955", "00") ∷
      ("050001", "05000101000200020000000001bf5dc497beffc5f3bf265371bebfd476bf00000100000002") ∷
      ("060100000000000000000d55", "00") ∷
      ("050001", "050001010002000200000000013effc5f3bf5dc4973ebfd476bf265371bf00000100000003") ∷
      [])
  -- the quarter turns, about a position of (1, 2)
  pub quarter_turns : Runs (
      ("01003f800000400000003f800000", "00") ∷
      ("04000000000000000000000000003f800000", "00") ∷
      ("01013fc00000000000003f800000", "00") ∷
      ("06013f800000400000000000", "00") ∷
      ("050001", "050001010000000100000000013f800000000000003fe0000040000000bf00000000000000") ∷
      ("06013f800000400000000400", "00") ∷
      ("050001", "05000101000200020000000001000000003f8000003f80000040300000bf00000000000001") ∷
      ("06013f800000400000000800", "00") ∷
      ("050001", "05000101000200020000000001bf800000000000003e80000040000000bf00000000000002") ∷
      ("06013f800000400000000c00", "00") ∷
      ("050001", "0500010100020002000000000100000000bf8000003f8000003fa00000bf00000000000003") ∷
      [])
  -- 10: a byte too few, a byte too many, another kind. 11 before 12, 12 before 14, 14 before 6. 14 from 4,096 on, the
  -- highest byte first: of 0xff0f and of 0x0010 the bytes the other way round are 4,095 and 4,096
  pub refusals_in_order : Runs (
      ("0600000000000000000010", "ff0a") ∷
      ("060000000000000000001000ff", "ff0a") ∷
      ("0a0000000000000000000000", "ff0a") ∷
      ("060800000000000000001000", "ff0b") ∷
      ("060000000000000000000000", "ff0c") ∷
      ("060000000000000000001000", "ff0c") ∷
      ("010000000000000000003f800000", "00") ∷
      ("060000000000000000001000", "ff0e") ∷
      ("06000000000000000000ffff", "ff0e") ∷
      ("06000000000000000000ff0f", "ff0e") ∷
      ("060000000000000000000010", "00") ∷
      ("060000000000000000000fff", "00") ∷
      ("06004a000000000000001000", "ff0e") ∷
      ("06004a000000000000000fff", "ff06") ∷
      [])
  -- the theorem: turn number 341 is the frame 04 with these bits, and is taken; 6 of a position; 14, and 12 of the id 0
  pub its_heading : frame_by_heading 1 origin 341 ≡ bytes_of ("040100000000000000003effc5f33f5dc497" ∷ [])
  pub same_answer : said_of_frame world (frame_by_turn 1 origin 341)
      ≡ said_of_frame world (frame_by_heading 1 origin 341)
  pub same_world : after_frame world (frame_by_turn 1 origin 341) ≡ after_frame world (frame_by_heading 1 origin 341)
  pub taken : (said_of_frame world (frame_by_turn 1 origin 341)).answer ≡ Accepted
  pub turned_so : after_frame world (frame_by_turn 1 origin 341) ≡ turned world (frame_by_turn 1 origin 341)
  pub out_of_range : point_in_range (vector_at (frame_by_turn 1 outside 341) 2) ≡ false
  pub unknown_turn : (said_of_frame world (frame_by_turn 1 outside 4096)).answer ≡ Refused 14
  pub no_shape : (said_of_frame world (frame_by_turn 0 outside 4096)).answer ≡ Refused 12

pub turn_cases : TurnCases
unfolding neg add sub mul div le lt eq of_bits to_bits root_digits whole_root root_by_steps sqrt b2_sqrt b2_add b2_sub
    b2_neg b2_scale b2_dot b2_length_squared b2_length b2_distance_vec2_squared b2_normalize b2_mul_rot_by_vec2
    b2_mul_transform_by_vec2 point_in_range radius_in_range rotation_in_range transform_in_range local_normal_in_range
    contact_point_in_range sines quarter_wave opposite heading vector_at rotation_at placement_at unhex frame_of hex
    circle_in_range farther with_local_point with_count with_one_point counted_points same_id id_among ids_of ids_in
    point_state states_of_ids points_in_range manifold_in_range b2_world_manifold_initialize blank_body circle_body
    placed piece_of fresh_pair fresh_world forget_below meet_circle meet skin world_points touches_after states_of
    age_after next_age ages_of with_ages touch_of tested_as tested piece_tested pieces_tested first_refusal frame_length
    well_formed frame_refusal circle_change place_change turn_change listed test_refusal test_change change_of_kind
    change head_bytes point_bytes touch_bytes touch_lines change_in changed after_frame said_of_frame lines_from
    printed_lines touches circles_manifold b2_collide_circles circles_normal world_of_circles
turn_cases = record {
  each_quarter = refl;
  quarter_turns = refl;
  refusals_in_order = refl;
  its_heading = refl;
  same_answer = turn_frames.says_as_04 world 1 origin 341 refl (omega arith);
  same_world = turn_frames.leaves_as_04 world 1 origin 341 refl (omega arith);
  taken = turn_frames.table_taken world (frame_by_turn 1 origin 341) refl refl (omega arith)
      (λ none. omega arith) (omega arith) refl;
  turned_so = turn_frames.places world (frame_by_turn 1 origin 341) refl refl;
  out_of_range = turn_frames.six_of_position world (frame_by_turn 1 outside 341) refl refl;
  unknown_turn = turn_frames.above world (frame_by_turn 1 outside 4096) refl refl (omega arith) (omega arith);
  no_shape = turn_frames.above world (frame_by_turn 0 outside 4096) refl refl (omega arith) (omega arith);
}
