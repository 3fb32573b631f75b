-- The law of a heat on a closed heat of two circles: a push, a rest, the other order, a removal, a second push, placed
-- by turn number, a shape that is refused, and a new shape, after which all begins anew. So no hypothesis of the law is
-- empty. Assumes nothing.
use Prim.Native.Nat.{ℕ}
use mathlib.Core.Path.{◌≡◌, refl}
use mathlib.Core.List.{List, [], ◌∷◌, map}
use native.Mathlib.Omega.{arith}
use lib.ListN.{length, take}
use lib.Ieee.{neg, add, sub, mul, div, le, lt, eq, of_bits, to_bits}
use Rattle.sqrt.specs.Sqrt.{root_digits, whole_root, root_by_steps, sqrt}
use Rattle.floats.specs.B2Math.{b2_sqrt, b2_add, b2_sub, b2_neg, b2_scale, b2_dot, b2_length_squared, b2_length}
use Rattle.floats.specs.B2Math.{b2_distance_vec2_squared, b2_normalize, b2_mul_rot_by_vec2, b2_mul_transform_by_vec2}
use Rattle.floats.specs.Ranges.{point_in_range, radius_in_range, rotation_in_range, transform_in_range}
use Rattle.floats.specs.Ranges.{local_normal_in_range, contact_point_in_range}
use Rattle.headings.specs.Sines.{sines}
use Rattle.headings.specs.Headings.{quarter_wave, opposite, heading}
use Rattle.lines.specs.Fields.{vector_at, rotation_at, placement_at}
use Rattle.lines.specs.Hex.{unhex, frame_of}
use Rattle.lines.proofs.Text.{text}
use Rattle.shape_definitions.specs.Circle.{circle_in_range}
use Rattle.contact_definitions.specs.declared.b2_collision.B2pointState.TheVariants.{B2PersistState}
use Rattle.contact_definitions.specs.B2CollideCircle.{farther, circles_manifold, b2_collide_circles}
use Rattle.contact_definitions.specs.Manifold.{counted_points, with_local_point, with_count, with_one_point}
use Rattle.contact_definitions.specs.PointStates.{same_id, id_among, counted_ids, ids_of, ids_in, point_state}
use Rattle.contact_definitions.specs.PointStates.{states_of_ids}
use Rattle.contact_definitions.specs.WorldManifold.{circles_normal, world_of_circles, points_in_range}
use Rattle.contact_definitions.specs.WorldManifold.{manifold_in_range, b2_world_manifold_initialize}
use Rattle.record_definitions.specs.declared.world.World.{World}
use Rattle.record_definitions.specs.declared.touch.Touch.{Touch}
use Rattle.record_definitions.specs.World.{blank_body, circle_body, placed, fresh_pair, fresh_world}
use Rattle.record_definitions.specs.World.{forget_below, piece_of}
use Rattle.record_definitions.specs.Ages.{age_after, next_age, ages_of, with_ages}
use Rattle.record_definitions.specs.Touch.{meet_circle, meet, skin, world_points, touches_after, states_of}
use Rattle.record_definitions.specs.Touch.{touch_of, tested_as, tested, piece_tested, pieces_tested}
use Rattle.record_definitions.specs.Touch.{first_refusal}
use Rattle.record_definitions.specs.Frame.{frame_length, well_formed, frame_refusal, circle_change, place_change}
use Rattle.record_definitions.specs.Frame.{turn_change, listed, test_refusal, test_change, change_of_kind, change}
use Rattle.record_definitions.specs.Answer.{result_of}
use Rattle.record_definitions.specs.OneFrame.{change_in, changed, after_frame, said_of_frame}
use Rattle.record_definitions.specs.Server.{reached}
use Rattle.record_definitions.specs.Heat.{contact_in, contacts_after, contacts_of, touches_begun}
use Rattle.record_definitions.specs.Heat.{NextTest}
use Rattle.record_definitions.specs.AgeLaws.{tests_in_a_row}
use Rattle.record_definitions.specs.Export.{test_frame}
use Rattle.record_definitions.proofs.HeatLaw.{heat_law}

abbrev heat : List (List ℕ)
heat = map text (
    "010000000000000000003f800000" ∷
    "04000000000000000000000000003f800000" ∷
    "010100000000000000003f800000" ∷
    "04013fc0000000000000000000003f800000" ∷
    "050001" ∷
    "050001" ∷
    "050100" ∷
    "04014110000000000000000000003f800000" ∷
    "050001" ∷
    "06013fc00000000000000000" ∷
    "050001" ∷
    "01010000000000000000bf800000" ∷
    "010100000000000000003f800000" ∷
    "04013fc0000000000000000000003f800000" ∷
    "050001" ∷
    [])

-- its first lines, and the world after them
abbrev lines : ℕ → List (List ℕ)
lines n = take n heat

abbrev world : ℕ → World
world n = (reached (lines n)).world

-- the contacts of the pair 0 1, whose first body is its own only piece, that count there, and the touches begun
abbrev counted : ℕ → ℕ × ℕ
counted n = let contacts = contacts_of 0 1 0 (lines n) in (length contacts, touches_begun contacts)

-- the result of the test of the pair there
abbrev printed : ℕ → Touch
printed n = result_of (said_of_frame (world n) test_frame) 0

pub record HeatCases : Type 0 where
  -- how many contacts count, and how many touches: pushed, resting, apart, pushed again and a shape refused, a new
  -- shape, pushed
  pub counts : map counted (5 ∷ 6 ∷ 9 ∷ 12 ∷ 13 ∷ 15 ∷ []) ≡ (1, 1) ∷ (2, 1) ∷ (3, 1) ∷ (4, 2) ∷ (0, 0) ∷ (1, 1) ∷ []
  -- of the other order
  pub other_order : map (λ (n : ℕ). length (contacts_of 1 0 0 (lines n))) (12 ∷ 13 ∷ []) ≡ 1 ∷ 0 ∷ []
  -- what the law says of the second test: its point rests and the count stays
  pub second_test : NextTest (contacts_of 0 1 0 (lines 5)) (contact_in 0 1 0 (world 5)) (printed 5)
  pub point_rests : (printed 5).states.new0 ≡ B2PersistState
  pub count_stays : (printed 5).touches ≡ 1
  -- and of the one after the two were apart: a touch begins
  pub touch_again : (printed 10).touches ≡ 2
  -- the age of its point: new, resting, again new after it was gone, and after a new shape
  pub ages : map (λ (n : ℕ). (printed n).first.age) (4 ∷ 5 ∷ 10 ∷ 14 ∷ []) ≡ 0 ∷ 1 ∷ 0 ∷ 0 ∷ []
  pub age_grows : (printed 5).first.age ≡ 1

pub heat_cases : HeatCases
unfolding neg add sub mul div le lt eq of_bits to_bits root_digits whole_root root_by_steps sqrt b2_sqrt b2_add b2_sub
    b2_neg b2_scale b2_dot b2_length_squared b2_length b2_distance_vec2_squared b2_normalize b2_mul_rot_by_vec2
    b2_mul_transform_by_vec2 point_in_range radius_in_range rotation_in_range transform_in_range local_normal_in_range
    contact_point_in_range sines quarter_wave opposite heading vector_at rotation_at placement_at unhex frame_of
    circle_in_range farther with_local_point with_count with_one_point counted_points same_id id_among counted_ids
    ids_of ids_in point_state states_of_ids points_in_range manifold_in_range b2_world_manifold_initialize blank_body
    circle_body placed piece_of fresh_pair fresh_world forget_below meet_circle meet skin world_points touches_after
    states_of age_after next_age ages_of with_ages touch_of tested_as tested piece_tested pieces_tested first_refusal
    frame_length well_formed frame_refusal circle_change place_change turn_change listed test_refusal test_change
    change_of_kind change change_in changed after_frame said_of_frame circles_manifold b2_collide_circles circles_normal
    world_of_circles contacts_after touches_begun tests_in_a_row
heat_cases =
    let law = heat_law 0 1 0 (omega arith) (omega arith) (lines 5) in
    let next = law.next_test (text "050001") _ _ refl refl refl refl (omega arith) in
    let law_later = heat_law 0 1 0 (omega arith) (omega arith) (lines 10) in
    let later = law_later.next_test (text "050001") _ _ refl refl refl refl (omega arith) in
    record {
      counts = refl;
      other_order = refl;
      second_test = next;
      point_rests = next.first_rests (omega arith) refl;
      count_stays = next.rulebook.goes_on (omega arith);
      touch_again = later.rulebook.begins refl (omega arith);
      ages = refl;
      age_grows = next.first_age.in_a_row;
    }
