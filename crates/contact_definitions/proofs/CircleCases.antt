-- Circle against circle and outline against circle, a case for each branch and refusal, computed by antt from the
-- definitions: the complete answers are those of Box2D 2.4.1 (Debian's library) and of the Rust, but for the normals
-- of request 07. Assumes nothing.
use mathlib.Core.Path.{◌≡◌, refl}
use mathlib.Core.List.{[], ◌∷◌}
use lib.Ieee.{neg, add, sub, mul, le, lt, eq, of_bits, div, nan}
use Rattle.rounding.specs.Literals.{zero32}
use Rattle.sqrt.specs.Sqrt.{root_digits, whole_root, root_by_steps, sqrt}
use Rattle.floats.specs.B2Common.{b2_polygon_radius}
use Rattle.floats.specs.B2Math.{b2_sub, b2_dot, b2_distance_vec2_squared, b2_mul_transform_by_vec2, b2_sqrt, b2_add}
use Rattle.floats.specs.B2Math.{b2_scale, b2_length_squared, b2_length, b2_normalize, b2_mul_t_rot_by_vec2}
use Rattle.floats.specs.B2Math.{b2_mul_t_transform_by_vec2, vec2}
use Rattle.floats.specs.Ranges.{point_in_range, radius_in_range, rotation_in_range, transform_in_range}
use Rattle.floats.specs.Ranges.{normal_in_range}
use Rattle.shape_definitions.specs.declared.b2_polygon_shape.B2polygonShape.{B2polygonShape}
use Rattle.shape_definitions.specs.Outline.{origin}
use Rattle.shape_definitions.specs.Refusal.{count_out_of_range, placement_out_of_range, shape_out_of_range}
use Rattle.shape_definitions.specs.Validate.{polygon_in_range}
use Rattle.contact_definitions.specs.declared.b2_collision.B2manifoldType.TheVariants.{ECircles, EFaceA}
use Rattle.contact_definitions.specs.declared.b2_collision.B2manifoldType.TheVariants.{EFaceB}
use Rattle.shape_definitions.specs.Circle.{circle_in_range}
use Rattle.contact_definitions.specs.B2CollideCircle.{farther, circles_manifold}
use Rattle.contact_definitions.specs.B2CollideCircle.{b2_collide_circles, circle_separation, circle_at_corner}
use Rattle.contact_definitions.specs.B2CollideCircle.{circle_at_face, circle_at_best, polygon_circle_manifold}
use Rattle.contact_definitions.specs.B2CollideCircle.{b2_collide_polygon_and_circle}
use Rattle.contact_definitions.specs.Manifold.{with_local_point, with_count, with_one_point, contact_id}
use Rattle.contact_definitions.specs.Manifold.{manifold_accepted, manifold_refused}
use Rattle.contact_definitions.specs.Searches.{some_below, first_greatest}
use Rattle.contact_definitions.proofs.Numbers.{+1, +2, +4, +9, -1, -15, -2, -20, -3½, -4, -53, -62, -¼, -½, -¾}
use Rattle.contact_definitions.proofs.Numbers.{1½, 1¾, 5½, ¼, ½, ¾}
use Rattle.floats.proofs.BitPatterns.{float}
use Rattle.contact_definitions.proofs.Given.{after, box, circle, counting_box, eight_tenths, first}
use Rattle.contact_definitions.proofs.Given.{given, kept_second, moved, no_point, placed, six_tenths, triangle}
use Rattle.contact_definitions.proofs.Given.{unmoved}

pub record CirclesCases : Type 0 where
  -- turned and moved: they touch
  pub touch_turned : b2_collide_circles (given EFaceB) (circle ¼ (vec2 ½ -¼)) (moved +1 -½) (circle ¾ (vec2 ½ -½))
      (placed ½ ¼ six_tenths eight_tenths)
      ≡ manifold_accepted (after ECircles 1 origin (vec2 ½ -¼) (first (vec2 ½ -½) (contact_id 0 0 0 0)) kept_second)
  -- and do not
  pub apart_turned : b2_collide_circles (given EFaceA) (circle zero32 (vec2 ½ ½)) (moved ¾ -¼)
      (circle ¼ (vec2 ¼ -¼)) (placed -¾ ½ (neg six_tenths) eight_tenths)
      ≡ manifold_accepted (no_point EFaceA)
  -- all within range is asked of shapes before placements: a radius below 0, a sine of 1.5
  pub shapes_before_placements : b2_collide_circles (given EFaceA) (circle +1 origin) (placed zero32 zero32 1½ +1)
      (circle -1 origin) unmoved
      ≡ manifold_refused shape_out_of_range (given EFaceA)
  -- a sine of 1.5 alone
  pub placement_refused : b2_collide_circles (given EFaceA) (circle +1 origin) unmoved (circle +1 origin)
      (placed zero32 zero32 1½ +1)
      ≡ manifold_refused placement_out_of_range (given EFaceA)
  -- a centre that is NaN
  pub nan_refused : b2_collide_circles (given EFaceA) (circle +1 (vec2 nan zero32)) unmoved (circle +1 origin)
      unmoved
      ≡ manifold_refused shape_out_of_range (given EFaceA)

pub circles_cases : CirclesCases
unfolding b2_sub b2_dot b2_distance_vec2_squared b2_mul_transform_by_vec2 point_in_range radius_in_range
    rotation_in_range transform_in_range with_local_point with_count with_one_point circle_in_range farther
    circles_manifold b2_collide_circles neg add sub mul le lt eq of_bits
circles_cases = record {
  touch_turned = refl;
  apart_turned = refl;
  shapes_before_placements = refl;
  placement_refused = refl;
  nan_refused = refl;
}

-- a triangle whose stored normals are of length 2, 1 and 1
abbrev long_normals : B2polygonShape
long_normals = triangle zero32 origin (origin ∷ (vec2 zero32 +1) ∷ (vec2 -1 ½) ∷ [])
    ((vec2 +2 zero32) ∷ (vec2 zero32 +1) ∷ (vec2 -1 zero32) ∷ [])

pub record PolygonCircleCases : Type 0 where
  -- the centre is inside: the face that it is least inside of
  pub inside : b2_collide_polygon_and_circle (given EFaceB) (box +1 ½) unmoved (circle ¼ (vec2 ½ ¼)) (moved ¼ ¼)
      ≡ manifold_accepted (after EFaceA 1 (vec2 zero32 +1) (vec2 zero32 ½) (first (vec2 ½ ¼) (contact_id 0 0 0 0))
      kept_second)
  -- out of a face, over its first corner, within the radius
  pub at_first_corner : b2_collide_polygon_and_circle (given EFaceB) (box ½ +1) unmoved (circle +2 (vec2 ¼ ½))
      (moved ½ +2)
      ≡ manifold_accepted (after EFaceA 1 (vec2 (float 0x3e28_5835) (float 0x3f7c_8450)) (vec2 ½ +1)
      (first (vec2 ¼ ½) (contact_id 0 0 0 0)) kept_second)
  -- over its second corner
  pub at_second_corner : b2_collide_polygon_and_circle (given EFaceB) (box +1 ½) unmoved (circle 1¾ (vec2 ½ ½))
      (moved +2 ¼)
      ≡ manifold_accepted (after EFaceA 1 (vec2 (float 0x3f7c_8450) (float 0x3e28_5835)) (vec2 +1 ½)
      (first (vec2 ½ ½) (contact_id 0 0 0 0)) kept_second)
  -- over the face
  pub at_face : b2_collide_polygon_and_circle (given EFaceB) (box +1 ½) unmoved (circle ¼ (vec2 ¼ ¼)) (moved ¼ ½)
      ≡ manifold_accepted (after EFaceA 1 (vec2 zero32 +1) (vec2 zero32 ½) (first (vec2 ¼ ¼) (contact_id 0 0 0 0))
      kept_second)
  -- out of a face by more than the radius
  pub out_of_a_face : b2_collide_polygon_and_circle (given EFaceB) (box +1 ½) unmoved (circle ¼ (vec2 ¼ ¼))
      (moved ¼ ¾)
      ≡ manifold_accepted (no_point EFaceB)
  -- too far from the first corner
  pub far_from_first_corner : b2_collide_polygon_and_circle (given EFaceB) (box ½ +1) unmoved (circle ½ (vec2 ½ ½))
      (moved ¼ +1)
      ≡ manifold_accepted (no_point EFaceB)
  -- too far from the second
  pub far_from_second_corner : b2_collide_polygon_and_circle (given EFaceB) (box ½ +1) unmoved (circle ½ (vec2 ½ ¼))
      (moved ½ +1)
      ≡ manifold_accepted (no_point EFaceB)
  -- over the face, too far from its middle by rounding alone
  pub far_from_the_middle : b2_collide_polygon_and_circle (given EFaceB) (triangle zero32
      (vec2 (float 0x3f2a_aaa8) (float 0xc00a_aaab)) ((vec2 5½ -2) ∷ (vec2 ½ -1) ∷ (vec2 -4 -3½) ∷ []) ((vec2
      (float 0x3e48_d2ab) (float 0x3f7b_0756)) ∷ (vec2 (float 0xbef8_a630) (float 0x3f5f_c8c5)) ∷ (vec2
      (float 0x3e1f_b4a7) (float 0xbf7c_de09)) ∷ [])) unmoved (circle (float 0x3f90_0000)
      (vec2 (float 0x4040_363e) (float 0xbeb4_ee94))) unmoved
      ≡ manifold_accepted (no_point EFaceB)
  -- on the second corner of face 1, and out of that face by rounding: nothing from the corner to the centre, so the
  -- normal of that face (request 07; the references hand back (0, 0))
  pub face_normal_instead : b2_collide_polygon_and_circle (given EFaceB) (triangle b2_polygon_radius (vec2 -15 -20)
      ((vec2 -53 +4) ∷ (vec2 +9 -62) ∷ (vec2 -1 -2) ∷ []) ((vec2 (float 0xbf3a_95ca) (float 0xbf2f_46e4)) ∷ (vec2
      (float 0x3f7c_844f) (float 0x3e28_5835)) ∷ (vec2 (float 0x3dea_c00c) (float 0x3f7e_500d)) ∷ [])) unmoved
      (circle ½ (vec2 -1 -2)) unmoved
      ≡ manifold_accepted (after EFaceA 1 (vec2 (float 0x3f7c_844f) (float 0x3e28_5835)) (vec2 -1 -2)
      (first (vec2 -1 -2) (contact_id 0 0 0 0)) kept_second)
  -- 3/4 of 2^-23 from the first corner of a face with a stored normal of length 2: that normal (the references hand
  -- back what is between corner and centre)
  pub short_at_first_corner : b2_collide_polygon_and_circle (given EFaceB) long_normals unmoved
      (circle ½ (vec2 (float 0x33c0_0000) zero32)) unmoved
      ≡ manifold_accepted (after EFaceA 1 (vec2 +2 zero32) origin
      (first (vec2 (float 0x33c0_0000) zero32) (contact_id 0 0 0 0)) kept_second)
  -- and 2^-23 from it: the normal is from the corner to the centre, as the references have it
  pub epsilon_from_first_corner : b2_collide_polygon_and_circle (given EFaceB) long_normals unmoved
      (circle ½ (vec2 (float 0x3400_0000) zero32)) unmoved
      ≡ manifold_accepted (after EFaceA 1 (vec2 +1 zero32) origin
      (first (vec2 (float 0x3400_0000) zero32) (contact_id 0 0 0 0)) kept_second)
  -- both turned and moved
  pub corner_turned : b2_collide_polygon_and_circle (given ECircles) (box ½ +1) (moved +1 +1)
      (circle +1 (vec2 -¼ -¼)) (placed ¼ -¼ six_tenths eight_tenths)
      ≡ manifold_accepted (after EFaceA 1 (vec2 (float 0xbee4_f92e) (float 0xbf64_f92e)) (vec2 -½ -1)
      (first (vec2 -¼ -¼) (contact_id 0 0 0 0)) kept_second)
  -- two corners, before a radius below 0 and a sine of 1.5
  pub count_first : b2_collide_polygon_and_circle (given EFaceA) (counting_box 2 -1 +1 +1)
      (placed zero32 zero32 1½ +1) (circle +1 origin) unmoved
      ≡ manifold_refused count_out_of_range (given EFaceA)
  -- nine corners
  pub nine_corners : b2_collide_polygon_and_circle (given EFaceA) (counting_box 9 +1 +1 +1) unmoved
      (circle +1 origin) unmoved
      ≡ manifold_refused count_out_of_range (given EFaceA)
  -- a radius above 2^20, before a sine of 1.5
  pub shape_second : b2_collide_polygon_and_circle (given EFaceA) (box +1 +1) (placed zero32 zero32 1½ +1)
      (circle (float 0x4980_0001) origin) unmoved
      ≡ manifold_refused shape_out_of_range (given EFaceA)
  -- a position beyond 2^20
  pub placement_last : b2_collide_polygon_and_circle (given EFaceA) (box +1 +1) unmoved (circle +1 origin)
      (moved (float 0xc980_0001) zero32)
      ≡ manifold_refused placement_out_of_range (given EFaceA)

pub polygon_circle_cases : PolygonCircleCases
unfolding root_digits whole_root root_by_steps sqrt b2_sqrt b2_add b2_sub b2_scale b2_dot b2_length_squared b2_length
    b2_distance_vec2_squared b2_normalize b2_mul_t_rot_by_vec2 b2_mul_transform_by_vec2 b2_mul_t_transform_by_vec2
    point_in_range radius_in_range rotation_in_range transform_in_range normal_in_range polygon_in_range some_below
    first_greatest with_local_point with_count with_one_point circle_in_range farther circle_separation
    circle_at_corner circle_at_face circle_at_best polygon_circle_manifold b2_collide_polygon_and_circle neg add sub
    mul div le lt eq of_bits
polygon_circle_cases = record {
  inside = refl;
  at_first_corner = refl;
  at_second_corner = refl;
  at_face = refl;
  out_of_a_face = refl;
  far_from_first_corner = refl;
  far_from_second_corner = refl;
  far_from_the_middle = refl;
  face_normal_instead = refl;
  short_at_first_corner = refl;
  epsilon_from_first_corner = refl;
  corner_turned = refl;
  count_first = refl;
  nine_corners = refl;
  shape_second = refl;
  placement_last = refl;
}
