-- Wall against circle, a case for each branch and refusal, computed by antt from the definitions: the complete answers
-- are those of Box2D 2.4.1 (Debian's library) and of the Rust. Assumes nothing.
use mathlib.Core.Path.{◌≡◌, refl}
use lib.Ieee.{neg, add, sub, mul, div, le, lt, eq, of_bits, nan}
use Rattle.rounding.specs.Literals.{zero32}
use Rattle.sqrt.specs.Sqrt.{root_digits, whole_root, root_by_steps, sqrt}
use Rattle.floats.specs.B2Math.{b2_sqrt, b2_add, b2_sub, b2_neg, b2_scale, b2_dot, b2_length_squared, b2_length}
use Rattle.floats.specs.B2Math.{b2_distance_vec2_squared, b2_normalize, b2_mul_t_rot_by_vec2}
use Rattle.floats.specs.B2Math.{b2_mul_transform_by_vec2, b2_mul_t_transform_by_vec2, vec2}
use Rattle.floats.specs.Ranges.{point_in_range, radius_in_range, rotation_in_range, transform_in_range}
use Rattle.shape_definitions.specs.Outline.{origin}
use Rattle.shape_definitions.specs.Refusal.{placement_out_of_range, shape_out_of_range, wall_too_short}
use Rattle.contact_definitions.specs.declared.b2_collision.B2manifoldType.TheVariants.{ECircles, EFaceA}
use Rattle.contact_definitions.specs.declared.b2_collision.B2manifoldType.TheVariants.{EFaceB}
use Rattle.shape_definitions.specs.Circle.{circle_in_range}
use Rattle.contact_definitions.specs.B2CollideCircle.{farther}
use Rattle.shape_definitions.specs.Edge.{edge_in_range}
use Rattle.contact_definitions.specs.B2CollideEdge.{circle_at_end, circle_at_wall, over_before}
use Rattle.contact_definitions.specs.B2CollideEdge.{over_after, edge_circle_answer, b2_collide_edge_and_circle}
use Rattle.contact_definitions.specs.EdgeAxis.{right_of}
use Rattle.contact_definitions.specs.Manifold.{with_local_point, with_count, with_one_point, contact_id}
use Rattle.contact_definitions.specs.Manifold.{manifold_accepted, manifold_refused}
use Rattle.contact_definitions.proofs.Numbers.{+1, +2, -1, -1¼, -1½, -¼, -½, -¾, 1¼, 1½, 2¾, ¼, ½, ¾}
use Rattle.floats.proofs.BitPatterns.{float}
use Rattle.contact_definitions.proofs.Given.{after, circle, eight_tenths, first, given, kept_second}
use Rattle.contact_definitions.proofs.Given.{moved, no_point, one_sided, placed, six_tenths, two_sided}
use Rattle.contact_definitions.proofs.Given.{unmoved}

pub record EdgeCircleCases : Type 0 where
  -- behind a one-sided wall
  pub behind : b2_collide_edge_and_circle (given EFaceB) (one_sided (vec2 -1½ ¾) origin (vec2 -¼ -¾) origin) unmoved
      (circle +1 (vec2 ½ ¼)) (moved ¾ +2)
      ≡ manifold_accepted (no_point EFaceB)
  -- at the first end, of a two-sided and of a one-sided wall
  pub first_end : b2_collide_edge_and_circle (given EFaceB) (two_sided origin (vec2 ½ +1)) unmoved
      (circle ¾ (vec2 ¼ ¼)) (moved -¼ -¼)
      ≡ manifold_accepted (after ECircles 1 origin origin (first (vec2 ¼ ¼) (contact_id 0 0 0 0)) kept_second)
  pub first_end_one_sided : b2_collide_edge_and_circle (given EFaceB) (one_sided (vec2 1½ -½) (vec2 zero32 -¼)
      (vec2 ½ -¾) (vec2 zero32 -1)) unmoved (circle +1 (vec2 -½ -¼)) (moved ¼ ¼)
      ≡ manifold_accepted (after ECircles 1 origin (vec2 zero32 -¼) (first (vec2 -½ -¼) (contact_id 0 0 0 0))
      kept_second)
  -- too far from it; over the wall before
  pub far_from_first_end : b2_collide_edge_and_circle (given EFaceB) (two_sided origin (vec2 +1 ¼)) unmoved
      (circle ¼ (vec2 -½ ¼)) (moved -¾ ¼)
      ≡ manifold_accepted (no_point EFaceB)
  pub over_the_wall_before : b2_collide_edge_and_circle (given EFaceB) (one_sided (vec2 2¾ -¼) (vec2 ½ zero32)
      (vec2 -¾ zero32) (vec2 ¾ +2)) unmoved (circle ¼ (vec2 -¼ ¼)) (moved +1 -¼)
      ≡ manifold_accepted (no_point EFaceB)
  -- at the second end
  pub second_end : b2_collide_edge_and_circle (given EFaceB) (two_sided (vec2 ½ zero32) origin) unmoved
      (circle +1 (vec2 ½ ¼)) (moved -1 ½)
      ≡ manifold_accepted (after ECircles 1 origin origin (first (vec2 ½ ¼) (contact_id 1 0 0 0)) kept_second)
  pub second_end_one_sided : b2_collide_edge_and_circle (given EFaceB) (one_sided (vec2 1¼ ¼) (vec2 -¾ zero32)
      (vec2 zero32 ½) (vec2 1½ 1½)) unmoved (circle +1 (vec2 -½ ¼)) (moved ½ ¼)
      ≡ manifold_accepted (after ECircles 1 origin (vec2 zero32 ½) (first (vec2 -½ ¼) (contact_id 1 0 0 0))
      kept_second)
  -- too far from it; over the wall after
  pub far_from_second_end : b2_collide_edge_and_circle (given EFaceB) (two_sided origin (vec2 zero32 ½)) unmoved
      (circle ¼ (vec2 -¼ -¼)) (moved ½ +1)
      ≡ manifold_accepted (no_point EFaceB)
  pub over_the_wall_after : b2_collide_edge_and_circle (given EFaceB) (one_sided (vec2 -¾ -1) (vec2 1½ zero32)
      (vec2 ½ ½) (vec2 -1¼ zero32)) unmoved (circle +1 (vec2 -½ -½)) (moved ¼ 1½)
      ≡ manifold_accepted (no_point EFaceB)
  -- over the middle, in front and behind: the normal is on the side of the circle
  pub in_front : b2_collide_edge_and_circle (given EFaceB) (two_sided (vec2 ¾ zero32) (vec2 -¾ zero32)) unmoved
      (circle ½ (vec2 -¼ ¼)) (moved ¼ ¼)
      ≡ manifold_accepted (after EFaceA 1 (vec2 zero32 +1) (vec2 ¾ zero32) (first (vec2 -¼ ¼) (contact_id 0 0 1 0))
      kept_second)
  pub at_the_back : b2_collide_edge_and_circle (given EFaceB) (two_sided (vec2 +1 ¾) (vec2 -½ zero32)) unmoved
      (circle ¼ (vec2 ½ ¼)) (moved ¼ ¼)
      ≡ manifold_accepted (after EFaceA 1 (vec2 (float 0x3ee4_f92e) (float 0xbf64_f92e)) (vec2 +1 ¾)
      (first (vec2 ½ ¼) (contact_id 0 0 1 0)) kept_second)
  -- too far
  pub far_from_the_middle : b2_collide_edge_and_circle (given EFaceB) (two_sided origin (vec2 zero32 -1)) unmoved
      (circle ½ (vec2 ½ -½)) (moved +1 ¼)
      ≡ manifold_accepted (no_point EFaceB)
  -- both turned and moved
  pub turned : b2_collide_edge_and_circle (given EFaceB) (two_sided (vec2 -½ zero32) (vec2 ¼ -1)) (moved ¾ ¾)
      (circle ½ (vec2 -¼ ¼)) (placed ¾ ¼ six_tenths eight_tenths)
      ≡ manifold_accepted (after EFaceA 1 (vec2 (neg eight_tenths) (neg six_tenths)) (vec2 -½ zero32)
      (first (vec2 -¼ ¼) (contact_id 0 0 1 0)) kept_second)
  -- over the middle of a wall whose squared length underflows to 0
  pub wall_is_too_short : b2_collide_edge_and_circle (given EFaceB) (two_sided origin
      (vec2 (float 0x1a00_0000) (float 0x1a00_0000))) unmoved
      (circle +1 (vec2 (float 0x1a40_0000) (float 0x9980_0000))) unmoved
      ≡ manifold_refused wall_too_short (given EFaceB)
  -- a squared length of 2^-140, whose reciprocal is infinite: the distance is NaN, and a point is reported a
  -- kilometre off
  pub reciprocal_overflows : b2_collide_edge_and_circle (given EFaceB)
      (two_sided origin (vec2 (float 0x1c80_0000) zero32)) unmoved
      (circle zero32 (vec2 (float 0x1c00_0000) (float 0x447a_0000))) unmoved
      ≡ manifold_accepted (after EFaceA 1 (vec2 (float 0x8000_0000) (float 0x1c80_0000)) origin (first (vec2
      (float 0x1c00_0000) (float 0x447a_0000)) (contact_id 0 0 1 0)) kept_second)
  -- a wall of one point has ends alone
  pub wall_of_one_point : b2_collide_edge_and_circle (given EFaceB) (two_sided (vec2 +1 ½) (vec2 +1 ½)) unmoved
      (circle ¾ (vec2 ½ ¼)) (moved ¼ -¼)
      ≡ manifold_accepted (after ECircles 1 origin (vec2 +1 ½) (first (vec2 ½ ¼) (contact_id 0 0 0 0)) kept_second)
  -- a ghost point that is NaN, of a one-sided wall
  pub ghost_point_refused : b2_collide_edge_and_circle (given EFaceB) (one_sided (vec2 nan zero32) origin
      (vec2 +1 zero32) (vec2 +2 zero32)) (placed zero32 zero32 1½ +1) (circle +1 origin) unmoved
      ≡ manifold_refused shape_out_of_range (given EFaceB)
  pub placement_refused : b2_collide_edge_and_circle (given EFaceB) (two_sided origin
      (vec2 (float 0x1a00_0000) (float 0x1a00_0000))) unmoved
      (circle +1 (vec2 (float 0x1a40_0000) (float 0x9980_0000))) (placed zero32 zero32 1½ +1)
      ≡ manifold_refused placement_out_of_range (given EFaceB)

pub edge_circle_cases : EdgeCircleCases
unfolding root_digits whole_root root_by_steps sqrt b2_sqrt b2_add b2_sub b2_neg b2_scale b2_dot b2_length_squared
    b2_length b2_distance_vec2_squared b2_normalize b2_mul_t_rot_by_vec2 b2_mul_transform_by_vec2
    b2_mul_t_transform_by_vec2 point_in_range radius_in_range rotation_in_range transform_in_range with_local_point
    with_count with_one_point circle_in_range farther right_of edge_in_range circle_at_end circle_at_wall over_before
    over_after edge_circle_answer b2_collide_edge_and_circle neg add sub mul div le lt eq of_bits
edge_circle_cases = record {
  behind = refl;
  first_end = refl;
  first_end_one_sided = refl;
  far_from_first_end = refl;
  over_the_wall_before = refl;
  second_end = refl;
  second_end_one_sided = refl;
  far_from_second_end = refl;
  over_the_wall_after = refl;
  in_front = refl;
  at_the_back = refl;
  far_from_the_middle = refl;
  turned = refl;
  wall_is_too_short = refl;
  reciprocal_overflows = refl;
  wall_of_one_point = refl;
  ghost_point_refused = refl;
  placement_refused = refl;
}
