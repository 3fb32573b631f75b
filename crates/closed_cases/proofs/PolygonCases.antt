-- Outline against outline, a case for each branch and refusal, and the axis search, computed by antt from the
-- definitions: the complete answers are those of Box2D 2.4.1 (Debian's library) and of the Rust. Assumes nothing.
use mathlib.Core.Path.{◌≡◌, refl}
use mathlib.Core.List.{[], ◌∷◌}
use lib.Ieee.{neg, add, sub, mul, div, le, lt, eq, of_bits}
use Rattle.rounding.specs.Literals.{zero32}
use Rattle.sqrt.specs.Sqrt.{root_digits, whole_root, root_by_steps, sqrt}
use Rattle.floats.specs.B2Common.{b2_polygon_radius}
use Rattle.floats.specs.B2Math.{b2_sqrt, b2_add, b2_sub, b2_neg, b2_scale, b2_dot, b2_cross_vec_by_scalar}
use Rattle.floats.specs.B2Math.{b2_length_squared, b2_length, b2_normalize, b2_mul_t_rot, b2_mul_rot_by_vec2}
use Rattle.floats.specs.B2Math.{b2_mul_t_rot_by_vec2, b2_mul_transform_by_vec2, b2_mul_t_transform_by_vec2}
use Rattle.floats.specs.B2Math.{b2_mul_t_transform, vec2}
use Rattle.floats.specs.Ranges.{point_in_range, radius_in_range, rotation_in_range, transform_in_range}
use Rattle.floats.specs.Ranges.{normal_in_range}
use Rattle.shape_definitions.specs.Outline.{origin}
use Rattle.shape_definitions.specs.Refusal.{count_out_of_range, placement_out_of_range, shape_out_of_range}
use Rattle.shape_definitions.specs.Validate.{polygon_in_range}
use Rattle.contact_definitions.specs.declared.axis.Axis.TheVariants.{Apart, FaceA, FaceB}
use Rattle.contact_definitions.specs.declared.b2_collision.B2manifoldType.TheVariants.{ECircles, EFaceA}
use Rattle.contact_definitions.specs.declared.b2_collision.B2manifoldType.TheVariants.{EFaceB}
use Rattle.contact_definitions.specs.B2CollidePolygon.{face_separation, b2_find_max_separation, axis_of}
use Rattle.contact_definitions.specs.B2CollidePolygon.{polygons_axis, incident_place, incident_end}
use Rattle.contact_definitions.specs.B2CollidePolygon.{b2_find_incident_edge, local_tangent, face_middle}
use Rattle.contact_definitions.specs.B2CollidePolygon.{face_along, outline_face, within_skins, outline_point}
use Rattle.contact_definitions.specs.B2CollidePolygon.{outline_manifold, polygons_manifold, b2_collide_polygons}
use Rattle.contact_definitions.specs.Clip.{clip_distance, crossing, clipped_by, clipped}
use Rattle.contact_definitions.specs.Manifold.{swapped_id, with_local_point, with_count, with_kind, contact_id}
use Rattle.contact_definitions.specs.Manifold.{manifold_accepted, manifold_refused}
use Rattle.contact_definitions.specs.ReferenceFace.{clipped_to_sides, only, points_from, with_points}
use Rattle.contact_definitions.specs.ReferenceFace.{manifold_of_ends}
use Rattle.contact_definitions.specs.Searches.{least, first_greatest, first_least}
use Rattle.contact_definitions.proofs.Numbers.{+1, +2, -1, -1½, -1¾, -2½, -¼, -½, -¾, 1¼, 1½, ¼, ½, ¾}
use Rattle.floats.proofs.BitPatterns.{float}
use Rattle.contact_definitions.proofs.Given.{after, box, counting_box, eight_tenths, first, given}
use Rattle.contact_definitions.proofs.Given.{kept_first, kept_second, moved, no_point, placed, second}
use Rattle.contact_definitions.proofs.Given.{six_tenths, thick_box, triangle, unmoved}

pub record PolygonsCases : Type 0 where
  -- apart by a face of A
  pub apart_by_a : b2_collide_polygons (given EFaceB) (box ½ +1) unmoved (box ½ +1) (moved 1¼ ¼)
      ≡ manifold_accepted (no_point EFaceB)
  -- apart by a face of B alone
  pub apart_by_b : b2_collide_polygons (given EFaceA) (box +1 ½) unmoved (box ½ +1)
      (placed +2 ¼ six_tenths eight_tenths)
      ≡ manifold_accepted (no_point EFaceA)
  -- face A
  pub two_on_a : b2_collide_polygons (given EFaceB) (box ½ +1) (moved -¾ ¼) (box +1 ½)
      (placed -¾ ¼ eight_tenths six_tenths)
      ≡ manifold_accepted (after EFaceA 2 (vec2 +1 (float 0x8000_0000)) (vec2 ½ zero32)
      (first (vec2 -1 ½) (contact_id 1 3 1 0)) (second (vec2 (float 0x3f66_6666) ½) (contact_id 2 2 0 1)))
  pub one_on_a : b2_collide_polygons (given ECircles) (box ½ +1) unmoved (box ½ +1)
      (placed +1 ¼ six_tenths eight_tenths)
      ≡ manifold_accepted (after EFaceA 1 (vec2 +1 (float 0x8000_0000)) (vec2 ½ zero32)
      (first (vec2 -½ +1) (contact_id 1 3 1 0)) kept_second)
  -- face B: indices and types change sides
  pub two_on_b : b2_collide_polygons (given EFaceA) (box +1 ½) (placed ½ ¾ eight_tenths six_tenths) (box +1 ½)
      (placed ¼ -½ six_tenths eight_tenths)
      ≡ manifold_accepted (after EFaceB 2 (vec2 zero32 +1) (vec2 zero32 ½)
      (first (vec2 (float 0xbf80_0001) -½) (contact_id 0 2 0 1)) (second (vec2 (float 0xbd95_554c)
      (float 0xbf00_0001)) (contact_id 0 2 1 0)))
  pub one_on_b : b2_collide_polygons (given ECircles) (triangle b2_polygon_radius (vec2 -¾ (float 0xbdaa_aaab))
      (origin ∷ (vec2 -¾ zero32) ∷ (vec2 -1½ -¼) ∷ []) ((vec2 zero32 +1) ∷ (vec2 (float 0xbea1_e89b)
      (float 0x3f72_dce8)) ∷ (vec2 (float 0x3e28_5835) (float 0xbf7c_8450)) ∷ [])) unmoved (box ½ ½) (moved -1¾ -½)
      ≡ manifold_accepted (after EFaceB 1 (vec2 +1 (float 0x8000_0000)) (vec2 ½ zero32)
      (first (vec2 -1½ -¼) (contact_id 2 1 0 1)) kept_second)
  -- radii of 0.25. The clip to the first side leaves less than two ends: only the kind is written
  pub kind_alone_first_side : b2_collide_polygons (given ECircles) (thick_box ¼ ½ ½) unmoved (thick_box ¼ ½ ½)
      (moved -1½ -1½)
      ≡ manifold_accepted (no_point EFaceA)
  -- and to the second side
  pub kind_alone_second_side : b2_collide_polygons (given ECircles) (thick_box ¼ ½ ½) unmoved (thick_box ¼ +1 ½)
      (moved +2 -1½)
      ≡ manifold_accepted (no_point EFaceA)
  -- no end is within the skins: kind, normal and point are written
  pub no_end_within_skins : b2_collide_polygons (given ECircles) (thick_box ¼ +1 ½) unmoved (thick_box ¼ +1 +2)
      (placed -2½ +1 (neg six_tenths) eight_tenths)
      ≡ manifold_accepted (after EFaceB 0 (vec2 +1 (float 0x8000_0000)) (vec2 +1 zero32) kept_first kept_second)
  -- 7 of either shape, then 2 of either, then 6 of either
  pub count_of_b_first : b2_collide_polygons (given EFaceB) (thick_box -1 +1 +1) (placed zero32 zero32 1½ +1)
      (counting_box 9 +1 +1 +1) unmoved
      ≡ manifold_refused count_out_of_range (given EFaceB)
  pub shape_of_b_second : b2_collide_polygons (given EFaceB) (box +1 +1) (placed zero32 zero32 1½ +1)
      (thick_box -1 +1 +1) unmoved
      ≡ manifold_refused shape_out_of_range (given EFaceB)
  pub placement_of_b_last : b2_collide_polygons (given EFaceB) (box +1 +1) unmoved (box +1 +1)
      (placed zero32 zero32 1½ +1)
      ≡ manifold_refused placement_out_of_range (given EFaceB)

pub polygons_cases : PolygonsCases
unfolding root_digits whole_root root_by_steps sqrt b2_sqrt b2_add b2_sub b2_neg b2_scale b2_dot b2_cross_vec_by_scalar
    b2_length_squared b2_length b2_normalize b2_mul_t_rot b2_mul_rot_by_vec2 b2_mul_t_rot_by_vec2
    b2_mul_transform_by_vec2 b2_mul_t_transform_by_vec2 b2_mul_t_transform point_in_range radius_in_range
    rotation_in_range transform_in_range normal_in_range polygon_in_range least first_greatest first_least swapped_id
    with_local_point with_count with_kind clip_distance crossing clipped_by clipped clipped_to_sides only points_from
    with_points manifold_of_ends face_separation b2_find_max_separation axis_of polygons_axis incident_place
    incident_end b2_find_incident_edge local_tangent face_middle face_along outline_face within_skins outline_point
    outline_manifold polygons_manifold b2_collide_polygons neg add sub mul div le lt eq of_bits
polygons_cases = record {
  apart_by_a = refl;
  apart_by_b = refl;
  two_on_a = refl;
  one_on_a = refl;
  two_on_b = refl;
  one_on_b = refl;
  kind_alone_first_side = refl;
  kind_alone_second_side = refl;
  no_end_within_skins = refl;
  count_of_b_first = refl;
  shape_of_b_second = refl;
  placement_of_b_last = refl;
}

pub record AxisCases : Type 0 where
  -- the pair of two-on-b: the face of A and that of B, and the edge of A that meets it
  pub separation_of_a : b2_find_max_separation (box +1 ½) (placed ½ ¾ eight_tenths six_tenths) (box +1 ½)
      (placed ¼ -½ six_tenths eight_tenths)
      ≡ record { place = 0; value = (float 0xbf35_c290) }
  pub separation_of_b : b2_find_max_separation (box +1 ½) (placed ¼ -½ six_tenths eight_tenths) (box +1 ½)
      (placed ½ ¾ eight_tenths six_tenths)
      ≡ record { place = 2; value = (float 0xbed1_eb86) }
  pub incident_edge : b2_find_incident_edge (box +1 ½) (placed ¼ -½ six_tenths eight_tenths) 2 (box +1 ½)
      (placed ½ ¾ eight_tenths six_tenths)
      ≡ (record { v = (vec2 (float 0x3e99_9999) (float 0xbeb3_3334)); id = (contact_id 2 0 1 0) }) ∷
      (record { v = (vec2 1½ 1¼); id = (contact_id 2 1 1 0) }) ∷ []
  -- the axis search answers face B there, face A for two-on-a, and apart by A and by B
  pub face_of_b : polygons_axis (float 0x3ca3_d70a) (box +1 ½) (placed ½ ¾ eight_tenths six_tenths) (box +1 ½)
      (placed ¼ -½ six_tenths eight_tenths)
      ≡ FaceB (float 0xbed1_eb86) zero32 +1 2
  pub face_of_a : polygons_axis (float 0x3ca3_d70a) (box ½ +1) (moved -¾ ¼) (box +1 ½)
      (placed -¾ ¼ eight_tenths six_tenths)
      ≡ FaceA -1½ +1 zero32 1
  pub apart_of_a : polygons_axis (float 0x3ca3_d70a) (box ½ +1) unmoved (box ½ +1) (moved 1¼ ¼) ≡ Apart ¼
  pub apart_of_b : polygons_axis (float 0x3ca3_d70a) (box +1 ½) unmoved (box ½ +1)
      (placed +2 ¼ six_tenths eight_tenths)
      ≡ Apart (float 0x3e19_999a)

pub axis_cases : AxisCases
unfolding b2_sub b2_dot b2_mul_t_rot b2_mul_rot_by_vec2 b2_mul_t_rot_by_vec2 b2_mul_transform_by_vec2
    b2_mul_t_transform least first_greatest first_least face_separation b2_find_max_separation axis_of polygons_axis
    incident_place incident_end b2_find_incident_edge neg add sub mul lt of_bits
axis_cases = record {
  separation_of_a = refl;
  separation_of_b = refl;
  incident_edge = refl;
  face_of_b = refl;
  face_of_a = refl;
  apart_of_a = refl;
  apart_of_b = refl;
}
