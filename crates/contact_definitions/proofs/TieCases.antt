-- Ties and limits: cases at which a rule with `<` for `≤`, another constant or another count would answer otherwise,
-- computed by antt; the complete answers are those of Box2D 2.4.1 (Debian's library) and of the Rust. Assumes nothing.
use mathlib.Core.Path.{◌≡◌, refl}
use mathlib.Core.List.{[], ◌∷◌}
use lib.Ieee.{neg, add, sub, mul, div, le, lt, eq, of_bits}
use Rattle.rounding.specs.Literals.{zero32}
use Rattle.sqrt.specs.Sqrt.{root_digits, whole_root, root_by_steps, sqrt}
use Rattle.floats.specs.B2Common.{b2_polygon_radius}
use Rattle.floats.specs.B2Math.{b2_sqrt, b2_add, b2_sub, b2_scale, b2_dot, b2_length_squared, b2_length}
use Rattle.floats.specs.B2Math.{b2_distance_vec2_squared, b2_normalize, b2_mul_t_rot_by_vec2}
use Rattle.floats.specs.B2Math.{b2_mul_transform_by_vec2, b2_mul_t_transform_by_vec2, b2_neg, b2_cross_vec_by_scalar}
use Rattle.floats.specs.B2Math.{b2_mul_t_rot, b2_mul_rot_by_vec2, b2_mul_t_transform, b2_min, b2_cross, vec2}
use Rattle.floats.specs.Ranges.{point_in_range, radius_in_range, rotation_in_range, transform_in_range}
use Rattle.floats.specs.Ranges.{normal_in_range}
use Rattle.shape_definitions.specs.declared.b2_polygon_shape.B2polygonShape.{B2polygonShape}
use Rattle.shape_definitions.specs.Outline.{origin}
use Rattle.shape_definitions.specs.Validate.{polygon_in_range}
use Rattle.contact_definitions.specs.declared.b2_collision.B2manifoldType.TheVariants.{ECircles, EFaceA}
use Rattle.contact_definitions.specs.declared.b2_collision.B2manifoldType.TheVariants.{EFaceB}
use Rattle.shape_definitions.specs.Circle.{circle_in_range}
use Rattle.contact_definitions.specs.B2CollideCircle.{farther, circle_separation}
use Rattle.contact_definitions.specs.B2CollideCircle.{circle_at_corner, circle_at_face, circle_at_best}
use Rattle.contact_definitions.specs.B2CollideCircle.{polygon_circle_manifold, b2_collide_polygon_and_circle}
use Rattle.shape_definitions.specs.Edge.{edge_in_range}
use Rattle.contact_definitions.specs.B2CollideEdge.{circle_at_end, circle_at_wall, over_before}
use Rattle.contact_definitions.specs.B2CollideEdge.{over_after, edge_circle_answer, b2_collide_edge_and_circle}
use Rattle.contact_definitions.specs.B2CollideEdge.{edge_polygon_manifold, b2_collide_edge_and_polygon}
use Rattle.contact_definitions.specs.B2CollidePolygon.{face_separation, b2_find_max_separation, axis_of}
use Rattle.contact_definitions.specs.B2CollidePolygon.{polygons_axis, incident_place, incident_end}
use Rattle.contact_definitions.specs.B2CollidePolygon.{b2_find_incident_edge, local_tangent, face_middle}
use Rattle.contact_definitions.specs.B2CollidePolygon.{face_along, outline_face, within_skins, outline_point}
use Rattle.contact_definitions.specs.B2CollidePolygon.{outline_manifold, polygons_manifold, b2_collide_polygons}
use Rattle.contact_definitions.specs.Clip.{clip_distance, crossing, clipped_by, clipped}
use Rattle.contact_definitions.specs.EdgeAxis.{placed_corner, placed_normal, right_of, side_axis}
use Rattle.contact_definitions.specs.EdgeAxis.{b2_compute_edge_separation, outline_axis}
use Rattle.contact_definitions.specs.EdgeAxis.{b2_compute_polygon_separation, clearly_above, primary_axis}
use Rattle.contact_definitions.specs.EdgeAxis.{region_before, region_after, gauss_region, smoothed}
use Rattle.contact_definitions.specs.EdgeAxis.{edge_polygon_axis}
use Rattle.contact_definitions.specs.EdgeReference.{face_between, within_radius, most_against, outline_end}
use Rattle.contact_definitions.specs.EdgeReference.{outline_edge, point_in_frame, wall_manifold, wall_edge}
use Rattle.contact_definitions.specs.EdgeReference.{point_as_it_is, placed_face, face_manifold}
use Rattle.contact_definitions.specs.Manifold.{with_local_point, with_count, with_one_point, swapped_id}
use Rattle.contact_definitions.specs.Manifold.{with_kind, contact_id, manifold_accepted}
use Rattle.contact_definitions.specs.ReferenceFace.{clipped_to_sides, only, points_from, with_points}
use Rattle.contact_definitions.specs.ReferenceFace.{manifold_of_ends}
use Rattle.contact_definitions.specs.Searches.{some_below, first_greatest, least, first_least}
use Rattle.contact_definitions.proofs.Numbers.{+1, +2, -1, -1¼, -1¾, -2, -2½, -2¾, -¼, -½, -¾, 1¼, 1½, 1¾, ¼}
use Rattle.contact_definitions.proofs.Numbers.{½, ¾}
use Rattle.floats.proofs.BitPatterns.{float}
use Rattle.contact_definitions.proofs.Given.{after, box, circle, eight_tenths, first, given}
use Rattle.contact_definitions.proofs.Given.{kept_second, moved, one_sided, placed, second, six_tenths}
use Rattle.contact_definitions.proofs.Given.{thick_box, triangle, two_sided, unmoved}

abbrev octagon : B2polygonShape
octagon = record {
  m_radius = b2_polygon_radius;
  m_centroid = (vec2 (float 0xb400_0000) zero32);
  m_vertices =
      (vec2 +1 -½)
      ∷ (vec2 +1 ½)
      ∷ (vec2 ½ +1)
      ∷ (vec2 -½ +1)
      ∷ (vec2 -1 ½)
      ∷ (vec2 -1 -½)
      ∷ (vec2 -½ -1)
      ∷ (vec2 ½ -1) ∷ [];
  m_normals =
      (vec2 +1 (float 0x8000_0000))
      ∷ (vec2 (float 0x3f35_04f3) (float 0x3f35_04f3))
      ∷ (vec2 zero32 +1)
      ∷ (vec2 (float 0xbf35_04f3) (float 0x3f35_04f3))
      ∷ (vec2 -1 (float 0x8000_0000))
      ∷ (vec2 (float 0xbf35_04f3) (float 0xbf35_04f3))
      ∷ (vec2 zero32 -1)
      ∷ (vec2 (float 0x3f35_04f3) (float 0xbf35_04f3)) ∷ [];
  m_count = 8;
}

pub record CircleTies : Type 0 where
  -- the centre is as far out of two faces: the first
  pub first_face_of_two : b2_collide_polygon_and_circle (given ECircles) (box ½ ½) unmoved (circle ¼ origin)
      (placed ¼ ¼ +1 zero32)
      ≡ manifold_accepted (after EFaceA 1 (vec2 +1 zero32) (vec2 ½ zero32) (first origin (contact_id 0 0 0 0))
      kept_second)
  -- on the line through the corner is at the corner
  pub at_the_corner_line : b2_collide_polygon_and_circle (given ECircles) (box ½ ½) unmoved
      (circle ¾ (vec2 zero32 ½)) (moved -¾ zero32)
      ≡ manifold_accepted (after EFaceA 1 (vec2 -1 zero32) (vec2 -½ ½) (first (vec2 zero32 ½) (contact_id 0 0 0 0))
      kept_second)
  -- out of a face by 2^-24 is inside
  pub hardly_outside : b2_collide_polygon_and_circle (given ECircles) (box ½ ½) unmoved
      (circle ½ (vec2 (float 0x3f00_0001) ½)) unmoved
      ≡ manifold_accepted (after EFaceA 1 (vec2 +1 zero32) (vec2 ½ zero32)
      (first (vec2 (float 0x3f00_0001) ½) (contact_id 0 0 0 0)) kept_second)
  -- eight corners are taken
  pub eight_corners : b2_collide_polygon_and_circle (given EFaceB) octagon unmoved (circle ½ (vec2 ¼ -¼))
      (moved +1 ¾)
      ≡ manifold_accepted (after EFaceA 1 (vec2 +1 zero32) (vec2 +1 ½) (first (vec2 ¼ -¼) (contact_id 0 0 0 0))
      kept_second)

pub circle_ties : CircleTies
unfolding root_digits whole_root root_by_steps sqrt b2_sqrt b2_add b2_sub b2_scale b2_dot b2_length_squared b2_length
    b2_distance_vec2_squared b2_normalize b2_mul_t_rot_by_vec2 b2_mul_transform_by_vec2 b2_mul_t_transform_by_vec2
    point_in_range radius_in_range rotation_in_range transform_in_range normal_in_range polygon_in_range some_below
    first_greatest with_local_point with_count with_one_point circle_in_range farther circle_separation
    circle_at_corner circle_at_face circle_at_best polygon_circle_manifold b2_collide_polygon_and_circle neg add sub
    mul div le lt eq of_bits
circle_ties = record {
  first_face_of_two = refl;
  at_the_corner_line = refl;
  hardly_outside = refl;
  eight_corners = refl;
}

pub record PolygonTies : Type 0 where
  -- three corners against four
  pub three_against_four_incident : b2_collide_polygons (given ECircles) (triangle b2_polygon_radius
      (vec2 (float 0x3f6a_aaaa) ¼) ((vec2 1½ -¼) ∷ (vec2 ¾ ½) ∷ (vec2 ½ ½) ∷ []) ((vec2 (float 0x3f35_04f4)
      (float 0x3f35_04f4)) ∷ (vec2 zero32 +1) ∷ (vec2 (neg six_tenths) (neg eight_tenths)) ∷ [])) unmoved (box ½ ½)
      unmoved
      ≡ manifold_accepted (after EFaceA 2 (vec2 (neg six_tenths) (neg eight_tenths)) (vec2 +1 (float 0x3e00_0000))
      (first (vec2 ½ ½) (contact_id 2 2 1 0)) (second (vec2 (float 0x3ef3_3333) ½) (contact_id 2 2 0 1)))
  -- B is ahead of A by less than the tolerance
  pub tolerance_holds : b2_collide_polygons (given ECircles) (box ½ ½) unmoved (box ½ ½)
      (placed ½ -1 (neg six_tenths) eight_tenths)
      ≡ manifold_accepted (after EFaceA 2 (vec2 zero32 -1) (vec2 zero32 -½) (first (vec2 (float 0xbf00_0001)
      (float 0x3f00_0001)) (contact_id 0 3 1 0)) (second (vec2 (float 0xbeb3_3336) (float 0x3f00_0001)) (contact_id
      1 2 0 1)))
  -- two edges are as much against the face: the first
  pub first_incident_edge : b2_collide_polygons (given ECircles) (box ½ ½) unmoved (triangle b2_polygon_radius
      (vec2 ½ (float 0x3daa_aab0)) ((vec2 1½ -½) ∷ (vec2 zero32 +1) ∷ (vec2 zero32 -¼) ∷ []) ((vec2
      (float 0x3f35_04f4) (float 0x3f35_04f4)) ∷ (vec2 -1 (float 0x8000_0000)) ∷ (vec2 (float 0xbe28_5835)
      (float 0xbf7c_8450)) ∷ [])) (moved -½ -¾)
      ≡ manifold_accepted (after EFaceB 1 (vec2 (float 0x3f35_04f4) (float 0x3f35_04f4)) (vec2 ¾ ¼)
      (first (vec2 -½ -½) (contact_id 0 0 0 1)) kept_second)
  pub three_against_four_normals : b2_collide_polygons (given ECircles) (triangle b2_polygon_radius (vec2 ¼ ½)
      ((vec2 ¾ ¼) ∷ (vec2 ¾ ¾) ∷ (vec2 -¾ ½) ∷ []) ((vec2 +1 (float 0x8000_0000)) ∷ (vec2 (float 0xbe28_5835)
      (float 0x3f7c_8450)) ∷ (vec2 (float 0xbe28_5835) (float 0xbf7c_8450)) ∷ [])) unmoved (box ½ +1) (moved 1¼ ½)
      ≡ manifold_accepted (after EFaceA 2 (vec2 +1 (float 0x8000_0000)) (vec2 ¾ ½)
      (first (vec2 -½ (float 0xbe8a_3d70)) (contact_id 0 3 0 1))
      (second (vec2 -½ (float 0x3e8a_3d70)) (contact_id 1 3 0 1)))
  -- apart by exactly the skins is not apart
  pub apart_by_the_skins : b2_collide_polygons (given ECircles) (thick_box ¼ +1 ½) unmoved (thick_box ¼ ½ +1)
      (moved +2 ¼)
      ≡ manifold_accepted (after EFaceA 2 (vec2 +1 (float 0x8000_0000)) (vec2 +1 zero32)
      (first (vec2 -½ -1) (contact_id 1 0 1 0)) (second (vec2 -½ ¾) (contact_id 2 3 0 1)))

pub polygon_ties : PolygonTies
unfolding root_digits whole_root root_by_steps sqrt b2_sqrt b2_add b2_sub b2_neg b2_scale b2_dot b2_cross_vec_by_scalar
    b2_length_squared b2_length b2_normalize b2_mul_t_rot b2_mul_rot_by_vec2 b2_mul_t_rot_by_vec2
    b2_mul_transform_by_vec2 b2_mul_t_transform_by_vec2 b2_mul_t_transform point_in_range radius_in_range
    rotation_in_range transform_in_range normal_in_range polygon_in_range least first_greatest first_least swapped_id
    with_local_point with_count with_kind clip_distance crossing clipped_by clipped clipped_to_sides only points_from
    with_points manifold_of_ends face_separation b2_find_max_separation axis_of polygons_axis incident_place
    incident_end b2_find_incident_edge local_tangent face_middle face_along outline_face within_skins outline_point
    outline_manifold polygons_manifold b2_collide_polygons neg add sub mul div le lt eq of_bits
polygon_ties = record {
  three_against_four_incident = refl;
  tolerance_holds = refl;
  first_incident_edge = refl;
  three_against_four_normals = refl;
  apart_by_the_skins = refl;
}

pub record EdgeTies : Type 0 where
  -- square to the wall before is not over it
  pub square_to_the_wall_before : b2_collide_edge_and_circle (given ECircles) (one_sided (vec2 zero32 -1¾)
      (vec2 zero32 1½) (vec2 zero32 -¼) (vec2 +2 zero32)) unmoved (circle +1 (vec2 -¼ -¼)) (moved zero32 1¾)
      ≡ manifold_accepted (after ECircles 1 origin (vec2 zero32 1½) (first (vec2 -¼ -¼) (contact_id 0 0 0 0))
      kept_second)
  -- walls in one line count as convex
  pub straight_is_convex : b2_collide_edge_and_polygon (given ECircles) (one_sided (vec2 ¼ zero32) origin
      (vec2 ½ zero32) (vec2 zero32 -2½)) unmoved (box +2 +1) (placed -¼ -¾ +1 zero32)
      ≡ manifold_accepted (after EFaceB 2 (vec2 zero32 -1) (vec2 -2 -1) (first (vec2 ½ zero32) (contact_id 0 1 1 0))
      (second origin (contact_id 0 0 1 0)))
  -- a normal square to the wall is held against the wall before
  pub square_to_the_wall : b2_collide_edge_and_polygon (given ECircles) (one_sided (vec2 1¾ -2¾) (vec2 ¾ -1¼)
      (vec2 zero32 1½) (vec2 -1 -¼)) unmoved (triangle b2_polygon_radius (vec2 (float 0xbdaa_aab0) -¼)
      ((vec2 ½ -½) ∷ (vec2 ½ ¼) ∷ (vec2 -1¼ -½) ∷ []) ((vec2 +1 (float 0x8000_0000)) ∷ (vec2 (float 0xbec9_afca)
      (float 0x3f6b_4d16)) ∷ (vec2 zero32 -1) ∷ [])) (moved ¼ 1¼)
      ≡ manifold_accepted (after EFaceA 2 (vec2 (float 0xbf76_fac2) (float 0xbe86_b753)) (vec2 ¾ -1¼)
      (first (vec2 ½ -½) (contact_id 0 0 1 0)) (second (vec2 ½ ¼) (contact_id 0 1 1 0)))
  -- an end at exactly the radius is kept
  pub end_at_the_radius : b2_collide_edge_and_polygon (given ECircles) (two_sided (vec2 -1 ½) (vec2 1½ ½)) unmoved
      (thick_box (float 0x3e75_c28f) ½ +1) (moved ¼ 1¾)
      ≡ manifold_accepted (after EFaceA 2 (vec2 (float 0x8000_0000) +1) (vec2 -1 ½)
      (first (vec2 -½ -1) (contact_id 0 0 1 0)) (second (vec2 ½ -1) (contact_id 0 1 1 0)))

pub edge_ties : EdgeTies
unfolding root_digits whole_root root_by_steps sqrt b2_sqrt b2_min b2_add b2_sub b2_neg b2_scale b2_dot b2_cross
    b2_length_squared b2_length b2_distance_vec2_squared b2_normalize b2_mul_t_rot b2_mul_rot_by_vec2
    b2_mul_t_rot_by_vec2 b2_mul_transform_by_vec2 b2_mul_t_transform_by_vec2 b2_mul_t_transform point_in_range
    radius_in_range rotation_in_range transform_in_range normal_in_range polygon_in_range least swapped_id
    with_local_point with_count with_kind with_one_point clip_distance crossing clipped_by clipped clipped_to_sides
    only points_from with_points manifold_of_ends circle_in_range farther placed_corner placed_normal right_of
    side_axis b2_compute_edge_separation outline_axis b2_compute_polygon_separation clearly_above primary_axis
    region_before region_after gauss_region smoothed edge_polygon_axis face_between within_radius most_against
    outline_end outline_edge point_in_frame wall_manifold wall_edge point_as_it_is placed_face face_manifold
    edge_in_range circle_at_end circle_at_wall over_before over_after edge_circle_answer b2_collide_edge_and_circle
    edge_polygon_manifold b2_collide_edge_and_polygon neg add sub mul div le lt eq of_bits
edge_ties = record {
  square_to_the_wall_before = refl;
  straight_is_convex = refl;
  square_to_the_wall = refl;
  end_at_the_radius = refl;
}
