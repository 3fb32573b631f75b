-- Closed cases of chains (document 02, request 03): the points of their pieces, what refuses them, and a circle on two
-- pieces. The answers are those of the second programs over the Rust and over Box2D. Assumes nothing.
use Prim.Native.Nat.{ℕ}
use mathlib.Core.Path.{◌≡◌, refl}
use mathlib.Core.List.{List, [], ◌∷◌, map}
use lib.Ieee.{binary32, neg, add, sub, mul, div, le, lt, eq, of_bits, to_bits}
use Rattle.sqrt.specs.Sqrt.{root_digits, whole_root, root_by_steps, sqrt}
use Rattle.floats.specs.B2Math.{b2_sqrt, b2_add, b2_sub, b2_neg, b2_scale, b2_dot, b2_length_squared, b2_length}
use Rattle.floats.specs.B2Math.{b2_distance_vec2_squared, b2_normalize, b2_mul_rot_by_vec2, b2_mul_t_rot_by_vec2}
use Rattle.floats.specs.B2Math.{b2_mul_transform_by_vec2, b2_mul_t_transform_by_vec2}
use Rattle.floats.specs.Ranges.{point_in_range, radius_in_range, rotation_in_range, transform_in_range}
use Rattle.floats.specs.Ranges.{local_normal_in_range, contact_number_in_range, contact_point_in_range}
use Rattle.lines.specs.Fields.{vector_at, points_at, rotation_at, placement_at}
use Rattle.lines.specs.Hex.{unhex, frame_of, hex}
use Rattle.lines.proofs.Text.{text}
use Rattle.shape_definitions.specs.declared.b2_edge_shape.B2edgeShape.{B2edgeShape}
use Rattle.shape_definitions.specs.Circle.{circle_in_range}
use Rattle.shape_definitions.specs.Edge.{edge_in_range}
use Rattle.contact_definitions.specs.B2CollideCircle.{farther}
use Rattle.contact_definitions.specs.B2CollideEdge.{circle_at_end, circle_at_wall, over_before, over_after}
use Rattle.contact_definitions.specs.B2CollideEdge.{edge_circle_answer, b2_collide_edge_and_circle}
use Rattle.contact_definitions.specs.EdgeAxis.{right_of}
use Rattle.contact_definitions.specs.Searches.{some_below}
use Rattle.contact_definitions.specs.Manifold.{counted_points, with_local_point, with_count, with_kind}
use Rattle.contact_definitions.specs.Manifold.{with_one_point}
use Rattle.contact_definitions.specs.PointStates.{same_id, id_among, ids_of, ids_in, point_state, states_of_ids}
use Rattle.contact_definitions.specs.WorldManifold.{on_face, on_other, plane_separation, plane_middle, carried_points}
use Rattle.contact_definitions.specs.WorldManifold.{world_of_face, points_in_range, manifold_in_range}
use Rattle.contact_definitions.specs.WorldManifold.{b2_world_manifold_initialize, circles_normal, world_of_circles}
use Rattle.record_definitions.specs.World.{blank_body, circle_body, wall_body, placed, fresh_pair}
use Rattle.record_definitions.specs.World.{fresh_world, chain_body, piece_wall, piece_of, forget_below}
use Rattle.record_definitions.specs.Ages.{age_after, next_age, ages_of, with_ages}
use Rattle.record_definitions.specs.Touch.{meet_circle, meet, skin, world_points, touches_after}
use Rattle.record_definitions.specs.Touch.{states_of, touch_of, tested_as, tested, piece_tested, pieces_tested}
use Rattle.record_definitions.specs.Touch.{first_refusal}
use Rattle.record_definitions.specs.Frame.{frame_length, well_formed, circle_change}
use Rattle.record_definitions.specs.Frame.{place_change, listed, test_refusal, test_change}
use Rattle.record_definitions.specs.Frame.{chain_at, long_piece, chain_refusal, chain_change, change_of_kind, change}
use Rattle.record_definitions.specs.Frame.{frame_refusal}
use Rattle.record_definitions.specs.Answer.{head_bytes, point_bytes, touch_bytes, touch_lines}
use Rattle.record_definitions.specs.OneFrame.{change_in, changed, after_frame, said_of_frame}
use Rattle.record_definitions.specs.Touches.{lines_from, printed_lines, touches}
use Rattle.record_definitions.proofs.Heats.{Runs}

-- the x of the point before a wall, of its ends and of the point after, in bits
abbrev xs_of : B2edgeShape → List ℕ
xs_of wall = map (to_bits binary32) (
    wall.m_vertex0.x ∷ wall.m_vertex1.x ∷ wall.m_vertex2.x ∷ wall.m_vertex3.x ∷ [])

-- by x from 2 over 0 to -2, the point before at 4 and the point after at -4
abbrev chain : List ℕ
chain = text "070003408000000000000040000000000000000000000000000000c0000000bf800000c0800000c0000000"

pub record ChainCases : Type 0 where
  -- the two pieces of that chain
  pub pieces : map (λ (i : ℕ). xs_of (piece_wall (chain_at (frame_of chain)) i)) (0 ∷ 1 ∷ [])
      ≡ (0x4080_0000 ∷ 0x4000_0000 ∷ 0 ∷ 0xc000_0000 ∷ []) ∷ (0x4000_0000 ∷ 0 ∷ 0xc000_0000 ∷ 0xc080_0000 ∷ []) ∷ []
  -- 15 for a count of 0 and 1, after 11; 10 for a count of 9 and for a wrong length; 2 for the points before and after,
  -- 16 for neighbours too near, after 2 and not before 15; 0.005 is too near, the next number is not; the points before
  -- and after may be anywhere
  pub chains_refused : Runs (
      ("0700004080000000000000c080000000000000", "ff0f") ∷
      ("07000140800000000000000000000000000000c080000000000000", "ff0f") ∷
      ("07080140800000000000000000000000000000c080000000000000", "ff0b") ∷
      ("07000900000000000000003f8000000000000040000000000000004040000000000000408000000000000040a000000000000040c000000000000040e0000000000000410000000000000041100000000000004120000000000000", "ff0a") ∷
      ("070003408000000000000040000000000000000000000000000000c0000000bf800000c0800000c000000000", "ff0a") ∷
      ("07000240800000000000003f800000000000003f80000000000000", "ff0a") ∷
      ("0700024a371b00000000003f800000000000000000000000000000bf80000000000000", "ff02") ∷
      ("07000240800000000000003f8000000000000000000000000000004a371b0000000000", "ff02") ∷
      ("07000240800000000000003f800000000000003f80000000000000bf80000000000000", "ff10") ∷
      ("0700024a371b00000000003f800000000000003f80000000000000bf80000000000000", "ff02") ∷
      ("0700014a371b00000000003f800000000000003f80000000000000", "ff0f") ∷
      ("07000240800000000000003ba3d70a000000000000000000000000bf80000000000000", "ff10") ∷
      ("050000", "ff0c") ∷
      ("07000240800000000000003ba3d70b000000000000000000000000bf80000000000000", "00") ∷
      ("0700023f800000000000003f8000000000000000000000000000000000000000000000", "00") ∷
      ("050000", "ff0d") ∷
      [])
  -- a circle on the first piece, then over the joint, twice, then on the second: each piece has its own contact and count
  pub two_pieces : Runs (
      ("070003408000000000000040000000000000000000000000000000c0000000bf800000c0800000c0000000", "00") ∷
      ("01013f8000003f6666663f800000", "00") ∷
      ("050001", "05000101010000010000000001000000003f8000003f800000bd3851f0bde147b000000000\n05000100000000000000000000") ∷
      ("0401bf9000003d4ccccd000000003f800000", "00") ∷
      ("050001", "05000101000300010000000001be0595df3f7dcff43b07fc8ebc812fe9bd54387e00000000\n05000101000000010000000001be0595df3f7dcff43b07fc8ebc812fe9bd54387e00000000") ∷
      ("050001", "05000101000200020000000001be0595df3f7dcff43b07fc8ebc812fe9bd54387e00000001\n05000101000200020000000001be0595df3f7dcff43b07fc8ebc812fe9bd54387e00000001") ∷
      [])

pub chain_cases : ChainCases
unfolding neg add sub mul div le lt eq of_bits to_bits root_digits whole_root root_by_steps sqrt b2_sqrt b2_add b2_sub
    b2_neg b2_scale b2_dot b2_length_squared b2_length b2_distance_vec2_squared b2_normalize b2_mul_rot_by_vec2
    b2_mul_transform_by_vec2 point_in_range radius_in_range rotation_in_range transform_in_range local_normal_in_range
    contact_point_in_range vector_at rotation_at placement_at unhex frame_of hex circle_in_range farther
    with_local_point with_count with_one_point counted_points same_id id_among ids_of ids_in point_state states_of_ids
    points_in_range manifold_in_range b2_world_manifold_initialize blank_body circle_body placed fresh_pair fresh_world
    forget_below meet_circle meet skin world_points touches_after states_of age_after next_age ages_of with_ages
    touch_of tested_as tested frame_length well_formed frame_refusal circle_change place_change listed test_refusal
    test_change change_of_kind change head_bytes point_bytes touch_bytes change_in changed after_frame said_of_frame
    lines_from printed_lines touches points_at b2_mul_t_rot_by_vec2 b2_mul_t_transform_by_vec2 edge_in_range wall_body
    right_of circle_at_end circle_at_wall over_before over_after edge_circle_answer b2_collide_edge_and_circle
    some_below with_kind on_face on_other plane_separation plane_middle carried_points world_of_face
    contact_number_in_range piece_of piece_tested pieces_tested first_refusal touch_lines chain_at long_piece
    chain_refusal chain_change chain_body piece_wall circles_normal world_of_circles
chain_cases = record { pieces = refl; chains_refused = refl; two_pieces = refl }
