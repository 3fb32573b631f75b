-- Wall against outline, a case for each branch and refusal, the Gauss map and the axes, computed by antt from the
-- definitions: the complete answers are those of Box2D 2.4.1 (Debian's library) and of the Rust. Assumes nothing.
use mathlib.Core.Path.{◌≡◌, refl}
use lib.Ieee.{neg, add, sub, mul, div, le, lt, eq, of_bits, nan}
use Rattle.rounding.specs.Literals.{zero32}
use Rattle.sqrt.specs.Sqrt.{root_digits, whole_root, root_by_steps, sqrt}
use Rattle.floats.specs.B2Math.{b2_sqrt, b2_min, b2_add, b2_sub, b2_neg, b2_scale, b2_dot, b2_cross}
use Rattle.floats.specs.B2Math.{b2_length_squared, b2_length, b2_normalize, b2_mul_t_rot, b2_mul_rot_by_vec2}
use Rattle.floats.specs.B2Math.{b2_mul_t_rot_by_vec2, b2_mul_transform_by_vec2, b2_mul_t_transform_by_vec2}
use Rattle.floats.specs.B2Math.{b2_mul_t_transform, vec2}
use Rattle.floats.specs.Ranges.{point_in_range, radius_in_range, rotation_in_range, transform_in_range}
use Rattle.floats.specs.Ranges.{normal_in_range}
use Rattle.shape_definitions.specs.Outline.{origin}
use Rattle.shape_definitions.specs.Refusal.{count_out_of_range, placement_out_of_range, shape_out_of_range}
use Rattle.shape_definitions.specs.Validate.{polygon_in_range}
use Rattle.contact_definitions.specs.declared.axis.Axis.TheVariants.{FaceA, FaceB}
use Rattle.contact_definitions.specs.declared.b2_collision.B2manifoldType.TheVariants.{ECircles, EFaceA}
use Rattle.contact_definitions.specs.declared.b2_collision.B2manifoldType.TheVariants.{EFaceB}
use Rattle.shape_definitions.specs.Edge.{edge_in_range}
use Rattle.contact_definitions.specs.B2CollideEdge.{edge_polygon_manifold}
use Rattle.contact_definitions.specs.B2CollideEdge.{b2_collide_edge_and_polygon}
use Rattle.contact_definitions.specs.Clip.{clip_distance, crossing, clipped_by, clipped}
use Rattle.contact_definitions.specs.EdgeAxis.{placed_corner, placed_normal, right_of, side_axis}
use Rattle.contact_definitions.specs.EdgeAxis.{b2_compute_edge_separation, outline_axis}
use Rattle.contact_definitions.specs.EdgeAxis.{b2_compute_polygon_separation, clearly_above, primary_axis}
use Rattle.contact_definitions.specs.EdgeAxis.{region_before, region_after, gauss_region, smoothed}
use Rattle.contact_definitions.specs.EdgeAxis.{edge_polygon_axis}
use Rattle.contact_definitions.specs.EdgeReference.{face_between, within_radius, most_against, outline_end}
use Rattle.contact_definitions.specs.EdgeReference.{outline_edge, point_in_frame, wall_manifold, wall_edge}
use Rattle.contact_definitions.specs.EdgeReference.{point_as_it_is, placed_face, face_manifold}
use Rattle.contact_definitions.specs.Manifold.{swapped_id, with_local_point, with_count, with_kind, contact_id}
use Rattle.contact_definitions.specs.Manifold.{manifold_accepted, manifold_refused}
use Rattle.contact_definitions.specs.ReferenceFace.{clipped_to_sides, only, points_from, with_points}
use Rattle.contact_definitions.specs.ReferenceFace.{manifold_of_ends}
use Rattle.contact_definitions.specs.Searches.{least}
use Rattle.contact_definitions.proofs.Numbers.{+1, +2, +3, -1, -1¼, -1½, -1¾, -2, -2½, -2¾, -3, -¼, -½, -¾, 1¼}
use Rattle.contact_definitions.proofs.Numbers.{1½, ¼, ½, ¾}
use Rattle.floats.proofs.BitPatterns.{float}
use Rattle.contact_definitions.proofs.Given.{after, box, counting_box, eight_tenths, first, given}
use Rattle.contact_definitions.proofs.Given.{kept_second, moved, no_point, one_sided, placed, second}
use Rattle.contact_definitions.proofs.Given.{six_tenths, two_sided, unmoved}

pub record EdgePolygonCases : Type 0 where
  -- the centroid is behind a one-sided wall
  pub behind : b2_collide_edge_and_polygon (given EFaceB)
      (one_sided (vec2 ½ zero32) origin (vec2 zero32 -½) (vec2 ¾ ½)) unmoved (box ½ +1) (moved ½ -1¼)
      ≡ manifold_accepted (no_point EFaceB)
  -- apart by the wall, and by a face of the outline alone
  pub apart_by_the_wall : b2_collide_edge_and_polygon (given EFaceB) (two_sided (vec2 -½ zero32) origin) unmoved
      (box ½ +1) (moved -¼ 1¼)
      ≡ manifold_accepted (no_point EFaceB)
  pub apart_by_a_face : b2_collide_edge_and_polygon (given EFaceA) (two_sided (vec2 zero32 -½) origin) unmoved
      (box +1 ½) (moved ¼ 1½)
      ≡ manifold_accepted (no_point EFaceA)
  -- the wall is the reference; the outline's axis is the greater by less than 2 in 100
  pub two_on_the_wall : b2_collide_edge_and_polygon (given EFaceB) (two_sided (vec2 zero32 ½) (vec2 1¼ -½)) unmoved
      (box +1 +1) (placed 1¼ zero32 +1 zero32)
      ≡ manifold_accepted (after EFaceA 2 (vec2 (float 0x3f1f_ec04) (float 0x3f47_e705)) (vec2 zero32 ½)
      (first (vec2 -1 +1) (contact_id 0 3 1 0)) (second (vec2 -1 (float 0x3ecc_ccce)) (contact_id 1 3 0 1)))
  -- the outline's axis is the greater by less than 0.001
  pub one_on_the_wall : b2_collide_edge_and_polygon (given ECircles) (two_sided (vec2 -1¼ -1) (vec2 1½ zero32))
      unmoved (box ½ +2) (placed (float 0xbee0_0000) ¼ +1 zero32)
      ≡ manifold_accepted (after EFaceA 1 (vec2 (float 0xbeae_f8f3) (float 0x3f70_964e)) (vec2 -1¼ -1)
      (first (vec2 -½ -2) (contact_id 0 0 1 0)) kept_second)
  -- a clip leaves less than two ends: only the kind is written
  pub wall_clipped_first_side : b2_collide_edge_and_polygon (given ECircles)
      (two_sided (vec2 zero32 -¼) (vec2 ¼ zero32)) unmoved (box +1 ½) (moved -1 ¼)
      ≡ manifold_accepted (no_point EFaceA)
  pub wall_clipped_second_side : b2_collide_edge_and_polygon (given EFaceB) (two_sided (vec2 1½ zero32) origin)
      unmoved (box ½ +1) (moved -½ +1)
      ≡ manifold_accepted (no_point EFaceA)
  -- a face of the outline is the reference: the ids are swapped once more; two faces keep the wall off alike: the
  -- first
  pub two_on_a_face : b2_collide_edge_and_polygon (given EFaceA) (two_sided (vec2 +1 zero32) (vec2 -1½ ¾)) unmoved
      (box ½ ½) (placed +1 zero32 +1 zero32)
      ≡ manifold_accepted (after EFaceB 2 (vec2 +1 zero32) (vec2 ½ -½) (first (vec2 +1 zero32) (contact_id 1 0 1 0))
      (second (vec2 ½ (float 0x3e19_9998)) (contact_id 1 2 1 0)))
  pub one_on_a_face : b2_collide_edge_and_polygon (given ECircles) (two_sided origin (vec2 zero32 -½)) unmoved
      (box +1 ½) (moved ¼ ½)
      ≡ manifold_accepted (after EFaceB 1 (vec2 zero32 -1) (vec2 -1 -½) (first origin (contact_id 0 0 1 0))
      kept_second)
  pub face_clipped_first_side : b2_collide_edge_and_polygon (given ECircles)
      (two_sided (vec2 -¾ -¾) (vec2 -¼ zero32)) unmoved (box ½ 1½) (moved ¼ 1½)
      ≡ manifold_accepted (no_point EFaceB)
  pub face_clipped_second_side : b2_collide_edge_and_polygon (given EFaceA)
      (two_sided (vec2 zero32 +1) (vec2 ¼ zero32)) unmoved (box +1 ½) (moved 1¼ -½)
      ≡ manifold_accepted (no_point EFaceB)
  -- both turned and moved
  pub wall_turned : b2_collide_edge_and_polygon (given ECircles) (two_sided (vec2 ½ -¾) (vec2 1½ zero32))
      (placed -¼ ¼ +1 zero32) (box ½ +1) (placed -¼ 1¼ (neg six_tenths) eight_tenths)
      ≡ manifold_accepted (after EFaceA 2 (vec2 (neg six_tenths) eight_tenths) (vec2 ½ -¾)
      (first (vec2 ½ +1) (contact_id 0 2 1 0)) (second (vec2 (float 0xbe00_0002) +1) (contact_id 1 2 0 1)))
  pub face_turned : b2_collide_edge_and_polygon (given ECircles) (two_sided (vec2 ½ ½) origin) (moved -¼ -½)
      (box +1 ½) (placed ¼ -¼ six_tenths eight_tenths)
      ≡ manifold_accepted (after EFaceB 2 (vec2 zero32 +1) (vec2 +1 ½) (first origin (contact_id 2 1 1 0))
      (second (vec2 ½ ½) (contact_id 2 0 1 0)))

pub edge_polygon_cases : EdgePolygonCases
unfolding root_digits whole_root root_by_steps sqrt b2_sqrt b2_min b2_add b2_sub b2_neg b2_scale b2_dot b2_cross
    b2_length_squared b2_length b2_normalize b2_mul_t_rot b2_mul_rot_by_vec2 b2_mul_t_rot_by_vec2
    b2_mul_transform_by_vec2 b2_mul_t_transform_by_vec2 b2_mul_t_transform point_in_range radius_in_range
    rotation_in_range transform_in_range normal_in_range polygon_in_range least swapped_id with_local_point with_count
    with_kind clip_distance crossing clipped_by clipped clipped_to_sides only points_from with_points manifold_of_ends
    placed_corner placed_normal right_of side_axis b2_compute_edge_separation outline_axis
    b2_compute_polygon_separation clearly_above primary_axis region_before region_after gauss_region smoothed
    edge_polygon_axis face_between within_radius most_against outline_end outline_edge point_in_frame wall_manifold
    wall_edge point_as_it_is placed_face face_manifold edge_in_range edge_polygon_manifold b2_collide_edge_and_polygon
    neg add sub mul div le lt eq of_bits
edge_polygon_cases = record {
  behind = refl;
  apart_by_the_wall = refl;
  apart_by_a_face = refl;
  two_on_the_wall = refl;
  one_on_the_wall = refl;
  wall_clipped_first_side = refl;
  wall_clipped_second_side = refl;
  two_on_a_face = refl;
  one_on_a_face = refl;
  face_clipped_first_side = refl;
  face_clipped_second_side = refl;
  wall_turned = refl;
  face_turned = refl;
}

pub record GaussMapCases : Type 0 where
  -- skipped by the wall before, and by the wall after
  pub skip_before : b2_collide_edge_and_polygon (given EFaceB)
      (one_sided (vec2 -¾ -3) (vec2 +1 ¼) (vec2 -½ ½) (vec2 ¾ zero32)) unmoved (box +1 ½) (moved 1¼ ¼)
      ≡ manifold_accepted (no_point EFaceB)
  -- beyond the neighbour by a sine from 0.1 to 0.2
  pub skip_after : b2_collide_edge_and_polygon (given EFaceB) (one_sided (vec2 -2½ ½) (vec2 1¼ zero32) (vec2 ¼ -¾)
      (vec2 zero32 -3)) unmoved (box +1 ½) (moved -¾ -1¼)
      ≡ manifold_accepted (no_point EFaceB)
  -- snapped to the wall; both sides of the wall are alike: side 0, the centroid on the wall's line is not behind it
  pub snap_before : b2_collide_edge_and_polygon (given EFaceB)
      (one_sided (vec2 -½ ½) (vec2 1½ ¼) (vec2 -½ ¼) (vec2 ¾ -1)) unmoved (box ½ +1) (moved zero32 ¼)
      ≡ manifold_accepted (after EFaceA 2 (vec2 zero32 +1) (vec2 1½ ¼) (first (vec2 -½ -1) (contact_id 0 0 1 0))
      (second (vec2 ½ -1) (contact_id 0 1 1 0)))
  pub snap_after : b2_collide_edge_and_polygon (given EFaceB)
      (one_sided origin (vec2 -1 ¾) (vec2 ¾ ¼) (vec2 +1 -1¾)) unmoved (box ½ +1) (moved ¾ -½)
      ≡ manifold_accepted (after EFaceA 2 (vec2 (float 0xbe8c_a83f) (float 0xbf76_266e)) (vec2 -1 ¾)
      (first (vec2 -½ +1) (contact_id 0 3 1 0)) (second (vec2 (float 0x3d92_4920) +1) (contact_id 1 2 0 1)))
  -- admitted: the wall's axis, leaning to either end, and a face of the outline
  pub admit_before : b2_collide_edge_and_polygon (given EFaceB) (one_sided (vec2 +3 zero32) origin (vec2 zero32 -1½)
      (vec2 ¼ -¼)) unmoved (box +1 ½) (moved -1 -1½)
      ≡ manifold_accepted (after EFaceA 2 (vec2 -1 (float 0x8000_0000)) origin
      (first (vec2 +1 ½) (contact_id 0 2 1 0)) (second (vec2 +1 zero32) (contact_id 1 1 0 1)))
  pub admit_after : b2_collide_edge_and_polygon (given EFaceB)
      (one_sided (vec2 -¼ -½) (vec2 ¾ ½) (vec2 -1¼ -1) (vec2 1½ ½)) unmoved (box ½ +1) (moved ¼ ¼)
      ≡ manifold_accepted (after EFaceA 2 (vec2 (neg six_tenths) eight_tenths) (vec2 ¾ ½)
      (first (vec2 -½ -1) (contact_id 0 0 1 0)) (second (vec2 ½ -1) (contact_id 0 1 1 0)))
  pub admit_a_face : b2_collide_edge_and_polygon (given EFaceA)
      (one_sided (vec2 +1 -¼) (vec2 +1 ½) (vec2 -½ ¼) (vec2 ½ zero32)) unmoved (box +1 ½) (moved 1½ ¾)
      ≡ manifold_accepted (after EFaceB 2 (vec2 zero32 -1) (vec2 -1 -½) (first (vec2 +1 ½) (contact_id 0 0 1 0))
      (second (vec2 ½ (float 0x3ed5_5556)) (contact_id 0 0 1 0)))
  -- beyond the neighbour by a sine below 0.1
  pub admit_a_face_too : b2_collide_edge_and_polygon (given EFaceA) (one_sided (vec2 -2¾ -½) (vec2 1½ 1¼)
      (vec2 zero32 ¾) (vec2 -¼ -2¾)) unmoved (box +1 ½) (placed ¼ +1 +1 zero32)
      ≡ manifold_accepted (after EFaceB 1 (vec2 zero32 -1) (vec2 -1 -½) (first (vec2 zero32 ¾) (contact_id 0 1 1 0))
      kept_second)
  -- refusals in their order
  pub count_first : b2_collide_edge_and_polygon (given EFaceB) (one_sided (vec2 nan zero32) origin (vec2 +1 zero32)
      (vec2 +2 zero32)) (placed zero32 zero32 1½ +1) (counting_box 2 +1 +1 +1) unmoved
      ≡ manifold_refused count_out_of_range (given EFaceB)
  pub shape_second : b2_collide_edge_and_polygon (given EFaceB)
      (one_sided origin origin (vec2 +1 zero32) (vec2 +2 nan)) (placed zero32 zero32 1½ +1) (box +1 +1) unmoved
      ≡ manifold_refused shape_out_of_range (given EFaceB)
  pub placement_last : b2_collide_edge_and_polygon (given EFaceB) (two_sided origin (vec2 +1 zero32)) unmoved
      (box +1 +1) (placed zero32 zero32 1½ +1)
      ≡ manifold_refused placement_out_of_range (given EFaceB)
  -- the axes of admit-a-face: of the wall, and of the outline
  pub axis_of_the_wall : b2_compute_edge_separation (moved 1½ ¾) (box +1 ½) (vec2 +1 ½)
      (vec2 (float 0xbe28_5835) (float 0x3f7c_8450))
      ≡ FaceA (float 0xbefc_8450) (float 0xbe28_5835) (float 0x3f7c_8450) 0
  pub axis_of_the_outline : b2_compute_polygon_separation (moved 1½ ¾) (box +1 ½) (vec2 +1 ½) (vec2 -½ ¼)
      ≡ FaceB -¼ (float 0x8000_0000) +1 0

pub gauss_map_cases : GaussMapCases
unfolding root_digits whole_root root_by_steps sqrt b2_sqrt b2_min b2_add b2_sub b2_neg b2_scale b2_dot b2_cross
    b2_length_squared b2_length b2_normalize b2_mul_t_rot b2_mul_rot_by_vec2 b2_mul_t_rot_by_vec2
    b2_mul_transform_by_vec2 b2_mul_t_transform_by_vec2 b2_mul_t_transform point_in_range radius_in_range
    rotation_in_range transform_in_range normal_in_range polygon_in_range least swapped_id with_local_point with_count
    with_kind clip_distance crossing clipped_by clipped clipped_to_sides only points_from with_points manifold_of_ends
    placed_corner placed_normal right_of side_axis b2_compute_edge_separation outline_axis
    b2_compute_polygon_separation clearly_above primary_axis region_before region_after gauss_region smoothed
    edge_polygon_axis face_between within_radius most_against outline_end outline_edge point_in_frame wall_manifold
    wall_edge point_as_it_is placed_face face_manifold edge_in_range edge_polygon_manifold b2_collide_edge_and_polygon
    neg add sub mul div le lt eq of_bits
gauss_map_cases = record {
  skip_before = refl;
  skip_after = refl;
  snap_before = refl;
  snap_after = refl;
  admit_before = refl;
  admit_after = refl;
  admit_a_face = refl;
  admit_a_face_too = refl;
  count_first = refl;
  shape_second = refl;
  placement_last = refl;
  axis_of_the_wall = refl;
  axis_of_the_outline = refl;
}
