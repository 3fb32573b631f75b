-- Refusals that the cases of each call do not reach, computed by antt. Assumes nothing.
use mathlib.Core.Path.{◌≡◌, refl}
use mathlib.Core.List.{[], ◌∷◌}
use lib.Ieee.{neg, add, sub, mul, div, le, lt, eq, of_bits, nan}
use Rattle.rounding.specs.Literals.{zero32}
use Rattle.sqrt.specs.Sqrt.{root_digits, whole_root, root_by_steps, sqrt}
use Rattle.floats.specs.B2Math.{b2_sqrt, b2_min, b2_add, b2_sub, b2_neg, b2_scale, b2_dot, b2_cross}
use Rattle.floats.specs.B2Math.{b2_cross_vec_by_scalar, b2_length_squared, b2_length, b2_distance_vec2_squared}
use Rattle.floats.specs.B2Math.{b2_normalize, b2_mul_t_rot, b2_mul_rot_by_vec2, b2_mul_t_rot_by_vec2}
use Rattle.floats.specs.B2Math.{b2_mul_transform_by_vec2, b2_mul_t_transform_by_vec2, b2_mul_t_transform, vec2}
use Rattle.floats.specs.Ranges.{point_in_range, radius_in_range, rotation_in_range, transform_in_range}
use Rattle.floats.specs.Ranges.{normal_in_range, local_normal_in_range, contact_number_in_range}
use Rattle.floats.specs.Ranges.{contact_point_in_range}
use Rattle.shape_definitions.specs.Outline.{origin}
use Rattle.shape_definitions.specs.Refusal.{contact_out_of_range, count_out_of_range, placement_out_of_range}
use Rattle.shape_definitions.specs.Refusal.{shape_out_of_range}
use Rattle.shape_definitions.specs.Validate.{polygon_in_range}
use Rattle.contact_definitions.specs.declared.b2_collision.B2manifoldType.TheVariants.{EFaceA, EFaceB}
use Rattle.shape_definitions.specs.Circle.{circle_in_range}
use Rattle.contact_definitions.specs.B2CollideCircle.{farther, circles_manifold}
use Rattle.contact_definitions.specs.B2CollideCircle.{b2_collide_circles, circle_separation, circle_at_corner}
use Rattle.contact_definitions.specs.B2CollideCircle.{circle_at_face, circle_at_best, polygon_circle_manifold}
use Rattle.contact_definitions.specs.B2CollideCircle.{b2_collide_polygon_and_circle}
use Rattle.shape_definitions.specs.Edge.{edge_in_range}
use Rattle.contact_definitions.specs.B2CollideEdge.{circle_at_end, circle_at_wall, over_before}
use Rattle.contact_definitions.specs.B2CollideEdge.{over_after, edge_circle_answer, b2_collide_edge_and_circle}
use Rattle.contact_definitions.specs.B2CollideEdge.{edge_polygon_manifold, b2_collide_edge_and_polygon}
use Rattle.contact_definitions.specs.B2CollidePolygon.{face_separation, b2_find_max_separation, axis_of}
use Rattle.contact_definitions.specs.B2CollidePolygon.{polygons_axis, incident_place, incident_end}
use Rattle.contact_definitions.specs.B2CollidePolygon.{b2_find_incident_edge, local_tangent, face_middle}
use Rattle.contact_definitions.specs.B2CollidePolygon.{face_along, outline_face, within_skins, outline_point}
use Rattle.contact_definitions.specs.B2CollidePolygon.{outline_manifold, polygons_manifold, b2_collide_polygons}
use Rattle.contact_definitions.specs.Clip.{clip_distance, crossing, clipped_by, clipped, clip_in_range}
use Rattle.contact_definitions.specs.Clip.{b2_clip_segment_to_line}
use Rattle.contact_definitions.specs.EdgeAxis.{placed_corner, placed_normal, right_of, side_axis}
use Rattle.contact_definitions.specs.EdgeAxis.{b2_compute_edge_separation, outline_axis}
use Rattle.contact_definitions.specs.EdgeAxis.{b2_compute_polygon_separation, clearly_above, primary_axis}
use Rattle.contact_definitions.specs.EdgeAxis.{region_before, region_after, gauss_region, smoothed}
use Rattle.contact_definitions.specs.EdgeAxis.{edge_polygon_axis}
use Rattle.contact_definitions.specs.EdgeReference.{face_between, within_radius, most_against, outline_end}
use Rattle.contact_definitions.specs.EdgeReference.{outline_edge, point_in_frame, wall_manifold, wall_edge}
use Rattle.contact_definitions.specs.EdgeReference.{point_as_it_is, placed_face, face_manifold}
use Rattle.contact_definitions.specs.Manifold.{swapped_id, counted_points, with_local_point, with_count}
use Rattle.contact_definitions.specs.Manifold.{with_kind, with_one_point, default_id, manifold_refused}
use Rattle.contact_definitions.specs.ReferenceFace.{clipped_to_sides, only, points_from, with_points}
use Rattle.contact_definitions.specs.ReferenceFace.{manifold_of_ends}
use Rattle.contact_definitions.specs.Searches.{some_below, least, first_greatest, first_least}
use Rattle.contact_definitions.specs.WorldManifold.{on_face, on_other, plane_separation, plane_middle}
use Rattle.contact_definitions.specs.WorldManifold.{carried_points, world_of_face, circles_normal}
use Rattle.contact_definitions.specs.WorldManifold.{world_of_circles, points_in_range, manifold_in_range}
use Rattle.contact_definitions.specs.WorldManifold.{b2_world_manifold_initialize, world_refused}
use Rattle.contact_definitions.proofs.Numbers.{+1, -1, 1½}
use Rattle.contact_definitions.proofs.Given.{after, box, circle, counting_box, given, given_world, kept_first}
use Rattle.contact_definitions.proofs.Given.{kept_second, placed, thick_box, thick_wall, two_sided, unmoved}

pub record RefusalCases : Type 0 where
  -- each number that a call tests, and no more than one out of range: a placement of A
  pub circles_placement_a : b2_collide_circles (given EFaceB) (circle +1 origin) (placed zero32 zero32 1½ +1)
      (circle +1 origin) unmoved
      ≡ manifold_refused placement_out_of_range (given EFaceB)
  -- a radius of A
  pub circles_radius_a : b2_collide_circles (given EFaceB) (circle -1 origin) unmoved (circle +1 origin) unmoved
      ≡ manifold_refused shape_out_of_range (given EFaceB)
  -- an outline against a circle
  pub outline_of_a_circle_pair : b2_collide_polygon_and_circle (given EFaceB) (thick_box -1 +1 +1) unmoved
      (circle +1 origin) unmoved
      ≡ manifold_refused shape_out_of_range (given EFaceB)
  -- outline pairs: count and radius of A
  pub outlines_count_a : b2_collide_polygons (given EFaceB) (counting_box 2 +1 +1 +1) unmoved (box +1 +1) unmoved
      ≡ manifold_refused count_out_of_range (given EFaceB)
  pub outlines_radius_a : b2_collide_polygons (given EFaceB) (thick_box -1 +1 +1) unmoved (box +1 +1) unmoved
      ≡ manifold_refused shape_out_of_range (given EFaceB)
  -- a wall against a circle, and against an outline
  pub circle_of_a_wall_pair : b2_collide_edge_and_circle (given EFaceB) (two_sided origin (vec2 +1 zero32)) unmoved
      (circle -1 origin) unmoved
      ≡ manifold_refused shape_out_of_range (given EFaceB)
  pub wall_radius : b2_collide_edge_and_circle (given EFaceB) (thick_wall -1 origin (vec2 +1 zero32)) unmoved
      (circle +1 origin) unmoved
      ≡ manifold_refused shape_out_of_range (given EFaceB)
  pub wall_begin_nan : b2_collide_edge_and_circle (given EFaceB) (two_sided (vec2 nan +1) origin) unmoved
      (circle +1 origin) unmoved
      ≡ manifold_refused shape_out_of_range (given EFaceB)
  pub wall_end_nan : b2_collide_edge_and_circle (given EFaceB) (two_sided origin (vec2 +1 nan)) unmoved
      (circle +1 origin) unmoved
      ≡ manifold_refused shape_out_of_range (given EFaceB)
  pub outline_of_a_wall_pair : b2_collide_edge_and_polygon (given EFaceB) (two_sided origin (vec2 +1 zero32))
      unmoved (thick_box -1 +1 +1) unmoved
      ≡ manifold_refused shape_out_of_range (given EFaceB)
  -- a clip's second end, and the radius of B for world points
  pub clip_second_end : b2_clip_segment_to_line [] ((record { v = vec2 +1 +1; id = default_id }) ∷
      (record { v = vec2 +1 nan; id = default_id }) ∷ []) (vec2 +1 zero32) zero32 7
      ≡ record { points = []; count = 0; refusal = contact_out_of_range }
  pub world_radius_b : b2_world_manifold_initialize given_world
      (after EFaceA 1 origin origin kept_first kept_second) unmoved +1 unmoved -1
      ≡ world_refused contact_out_of_range given_world

pub refusal_cases : RefusalCases
unfolding root_digits whole_root root_by_steps sqrt b2_sqrt b2_min b2_add b2_sub b2_neg b2_scale b2_dot b2_cross
    b2_cross_vec_by_scalar b2_length_squared b2_length b2_distance_vec2_squared b2_normalize b2_mul_t_rot
    b2_mul_rot_by_vec2 b2_mul_t_rot_by_vec2 b2_mul_transform_by_vec2 b2_mul_t_transform_by_vec2 b2_mul_t_transform
    point_in_range radius_in_range rotation_in_range transform_in_range normal_in_range local_normal_in_range
    contact_number_in_range contact_point_in_range polygon_in_range some_below least first_greatest first_least
    swapped_id counted_points with_local_point with_count with_kind with_one_point clip_distance crossing clipped_by
    clipped clip_in_range b2_clip_segment_to_line on_face on_other plane_separation plane_middle carried_points
    world_of_face circles_normal world_of_circles points_in_range manifold_in_range b2_world_manifold_initialize
    clipped_to_sides only points_from with_points manifold_of_ends circle_in_range farther circles_manifold
    b2_collide_circles circle_separation circle_at_corner circle_at_face circle_at_best polygon_circle_manifold
    b2_collide_polygon_and_circle face_separation b2_find_max_separation axis_of polygons_axis incident_place
    incident_end b2_find_incident_edge local_tangent face_middle face_along outline_face within_skins outline_point
    outline_manifold polygons_manifold b2_collide_polygons placed_corner placed_normal right_of side_axis
    b2_compute_edge_separation outline_axis b2_compute_polygon_separation clearly_above primary_axis region_before
    region_after gauss_region smoothed edge_polygon_axis face_between within_radius most_against outline_end
    outline_edge point_in_frame wall_manifold wall_edge point_as_it_is placed_face face_manifold edge_in_range
    circle_at_end circle_at_wall over_before over_after edge_circle_answer b2_collide_edge_and_circle
    edge_polygon_manifold b2_collide_edge_and_polygon neg add sub mul div le lt eq of_bits
refusal_cases = record {
  circles_placement_a = refl;
  circles_radius_a = refl;
  outline_of_a_circle_pair = refl;
  outlines_count_a = refl;
  outlines_radius_a = refl;
  circle_of_a_wall_pair = refl;
  wall_radius = refl;
  wall_begin_nan = refl;
  wall_end_nan = refl;
  outline_of_a_wall_pair = refl;
  clip_second_end = refl;
  world_radius_b = refl;
}
