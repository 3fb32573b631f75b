-- World points, a case for each kind and refusal, computed by antt from the definitions: the complete answers are those
-- of Box2D 2.4.1 (Debian's library) and of the Rust. Assumes nothing.
use mathlib.Core.Path.{◌≡◌, refl}
use lib.Ieee.{neg, add, sub, mul, div, le, lt, eq, of_bits, nan}
use Rattle.rounding.specs.Literals.{zero32}
use Rattle.sqrt.specs.Sqrt.{root_digits, whole_root, root_by_steps, sqrt}
use Rattle.floats.specs.B2Math.{b2_sqrt, b2_add, b2_sub, b2_neg, b2_scale, b2_dot, b2_length_squared, b2_length}
use Rattle.floats.specs.B2Math.{b2_distance_vec2_squared, b2_normalize, b2_mul_rot_by_vec2, b2_mul_transform_by_vec2}
use Rattle.floats.specs.B2Math.{vec2}
use Rattle.floats.specs.Ranges.{point_in_range, radius_in_range, rotation_in_range, transform_in_range}
use Rattle.floats.specs.Ranges.{local_normal_in_range, contact_point_in_range}
use Rattle.shape_definitions.specs.Outline.{origin}
use Rattle.shape_definitions.specs.Refusal.{contact_out_of_range, count_out_of_range, placement_out_of_range}
use Rattle.contact_definitions.specs.declared.b2_collision.B2manifoldType.TheVariants.{ECircles, EFaceA}
use Rattle.contact_definitions.specs.declared.b2_collision.B2manifoldType.TheVariants.{EFaceB}
use Rattle.contact_definitions.specs.Manifold.{counted_points, contact_id}
use Rattle.contact_definitions.specs.WorldManifold.{on_face, on_other, plane_separation, plane_middle}
use Rattle.contact_definitions.specs.WorldManifold.{carried_points, world_of_face, circles_normal}
use Rattle.contact_definitions.specs.WorldManifold.{world_of_circles, points_in_range, manifold_in_range}
use Rattle.contact_definitions.specs.WorldManifold.{b2_world_manifold_initialize, world_accepted, world_refused}
use Rattle.contact_definitions.proofs.Numbers.{+1, +2, +5, +6, +8, -1, -1¼, -1½, -2, -8, -¼, -½, -¾, 1¼, 1½, ¼}
use Rattle.contact_definitions.proofs.Numbers.{½, ¾}
use Rattle.floats.proofs.BitPatterns.{float}
use Rattle.contact_definitions.proofs.Given.{after, eight_tenths, first, given_world, kept_first}
use Rattle.contact_definitions.proofs.Given.{kept_second, placed, second, six_tenths, unmoved, world_after}

pub record WorldCases : Type 0 where
  -- circles: the second place is kept, though two points are counted
  pub circles_apart : b2_world_manifold_initialize given_world (after ECircles 2 (vec2 +8 -8) (vec2 ¼ -½)
      (first (vec2 +1 ¾) (contact_id 1 2 3 4)) (second (vec2 +2 +2) (contact_id 5 6 7 8)))
      (placed ½ -1¼ six_tenths eight_tenths) ½ (placed 1½ ¼ (neg six_tenths) eight_tenths) ¾
      ≡ world_accepted (world_after (vec2 (float 0x3f35_04f3) (float 0x3f35_04f3))
      (vec2 (float 0x3fe4_afb0) (float 0xbf36_a09e)) (vec2 +5 +6) (float 0x3f9c_c8a8) +8)
  -- centres hardly apart: the normal is (1, 0)
  pub circles_together : b2_world_manifold_initialize given_world (after ECircles 1 (vec2 +8 -8) (vec2 ¼ -½)
      (first (vec2 ¼ -½) (contact_id 1 2 3 4)) (second (vec2 +2 +2) (contact_id 5 6 7 8)))
      (placed ½ -1¼ six_tenths eight_tenths) ½ (placed ½ -1¼ six_tenths eight_tenths) ¾
      ≡ world_accepted (world_after (vec2 +1 zero32) (vec2 (float 0x3f60_0000) -1½) (vec2 +5 +6) -1¼ +8)
  -- face A, two points and one
  pub face_a_two : b2_world_manifold_initialize given_world (after EFaceA 2 (vec2 (neg eight_tenths) six_tenths)
      (vec2 ½ +1) (first (vec2 -¾ ½) (contact_id 1 2 3 4)) (second (vec2 1¼ -1) (contact_id 5 6 7 8)))
      (placed ½ -1¼ six_tenths eight_tenths) ¼ (placed 1½ ¼ (neg six_tenths) eight_tenths) ½
      ≡ world_accepted (world_after (vec2 -1 zero32) (vec2 (float 0x3f60_0000) (float 0x3f8c_cccd))
      (vec2 (float 0x3f9c_cccd) (float 0xbfa6_6666)) (float 0xbfd3_3334) (float 0xc016_6667))
  pub face_a_one : b2_world_manifold_initialize given_world (after EFaceA 1 (vec2 (neg eight_tenths) six_tenths)
      (vec2 ½ +1) (first (vec2 -¾ ½) (contact_id 1 2 3 4)) (second (vec2 1¼ -1) (contact_id 5 6 7 8)))
      (placed ½ -1¼ six_tenths eight_tenths) ¼ (placed 1½ ¼ (neg six_tenths) eight_tenths) ½
      ≡ world_accepted (world_after (vec2 -1 zero32) (vec2 (float 0x3f60_0000) (float 0x3f8c_cccd)) (vec2 +5 +6)
      (float 0xbfd3_3334) +8)
  -- face B: its normal is turned round
  pub face_b_two : b2_world_manifold_initialize given_world (after EFaceB 2 (vec2 (neg eight_tenths) six_tenths)
      (vec2 ½ +1) (first (vec2 -¾ ½) (contact_id 1 2 3 4)) (second (vec2 1¼ -1) (contact_id 5 6 7 8)))
      (placed ½ -1¼ six_tenths eight_tenths) ¼ (placed 1½ ¼ (neg six_tenths) eight_tenths) ½
      ≡ world_accepted (world_after (vec2 (float 0x3e8f_5c2a) (float 0xbf75_c290))
      (vec2 (float 0xbf18_ca82) (float 0xbf20_07dd)) (vec2 (float 0x3fe7_0f7a) (float 0xbe94_0788))
      (float 0xbff3_f7cf) (float 0xc026_c8b5))
  pub face_b_one : b2_world_manifold_initialize given_world (after EFaceB 1 (vec2 (neg eight_tenths) six_tenths)
      (vec2 ½ +1) (first (vec2 -¾ ½) (contact_id 1 2 3 4)) (second (vec2 1¼ -1) (contact_id 5 6 7 8)))
      (placed 1½ ¼ (neg six_tenths) eight_tenths) ¼ (placed ½ -1¼ six_tenths eight_tenths) ½
      ≡ world_accepted (world_after (vec2 +1 (float 0x8000_0000)) (vec2 (float 0x3f20_0000) (float 0x3f8c_cccd))
      (vec2 +5 +6) (float 0xbfd3_3334) +8)
  -- three points, before anything else
  pub three_points : b2_world_manifold_initialize given_world
      (after EFaceA 3 (vec2 nan nan) origin kept_first kept_second) (placed zero32 zero32 1½ +1) -1 unmoved nan
      ≡ world_refused count_out_of_range given_world
  -- no points: nothing else is tested
  pub no_points : b2_world_manifold_initialize given_world
      (after EFaceA 0 (vec2 nan nan) origin kept_first kept_second) (placed zero32 zero32 1½ +1) -1 unmoved nan
      ≡ world_accepted given_world
  -- a normal above 8, a point above 2^30, a second point that is NaN, a radius below 0, before a sine of 1.5
  pub normal_refused : b2_world_manifold_initialize given_world (after EFaceA 1 (vec2 +8 (float 0x4100_0001)) origin
      kept_first kept_second) (placed zero32 zero32 1½ +1) +1 unmoved +1
      ≡ world_refused contact_out_of_range given_world
  pub point_refused : b2_world_manifold_initialize given_world (after EFaceB 1 origin
      (vec2 (float 0xce80_0001) zero32) kept_first kept_second) unmoved +1 unmoved +1
      ≡ world_refused contact_out_of_range given_world
  pub second_point_refused : b2_world_manifold_initialize given_world (after ECircles 2 origin origin kept_first
      (second (vec2 nan +1) (contact_id 1 2 3 4))) unmoved +1 unmoved +1
      ≡ world_refused contact_out_of_range given_world
  pub radius_refused : b2_world_manifold_initialize given_world
      (after EFaceA 1 origin origin kept_first kept_second) unmoved -1 (placed zero32 zero32 1½ +1) +1
      ≡ world_refused contact_out_of_range given_world
  -- a sine of 1.5
  pub placement_refused : b2_world_manifold_initialize given_world
      (after EFaceA 1 origin origin kept_first kept_second) unmoved +1 (placed zero32 zero32 1½ +1) +1
      ≡ world_refused placement_out_of_range given_world
  -- a second point that is NaN is not tested where one is counted
  pub uncounted_point : b2_world_manifold_initialize given_world (after EFaceA 1 (vec2 +1 zero32) (vec2 ½ +1)
      (first (vec2 -¾ ½) (contact_id 1 2 3 4)) (second (vec2 nan +1) (contact_id 5 6 7 8))) unmoved ¼ unmoved ½
      ≡ world_accepted (world_after (vec2 +1 zero32) (vec2 -¼ ½) (vec2 +5 +6) -2 +8)

pub world_cases : WorldCases
unfolding root_digits whole_root root_by_steps sqrt b2_sqrt b2_add b2_sub b2_neg b2_scale b2_dot b2_length_squared
    b2_length b2_distance_vec2_squared b2_normalize b2_mul_rot_by_vec2 b2_mul_transform_by_vec2 point_in_range
    radius_in_range rotation_in_range transform_in_range local_normal_in_range contact_point_in_range counted_points
    on_face on_other plane_separation plane_middle carried_points world_of_face circles_normal world_of_circles
    points_in_range manifold_in_range b2_world_manifold_initialize neg add sub mul div le lt eq of_bits
world_cases = record {
  circles_apart = refl;
  circles_together = refl;
  face_a_two = refl;
  face_a_one = refl;
  face_b_two = refl;
  face_b_one = refl;
  three_points = refl;
  no_points = refl;
  normal_refused = refl;
  point_refused = refl;
  second_point_refused = refl;
  radius_refused = refl;
  placement_refused = refl;
  uncounted_point = refl;
}
