-- The marked cases of document 01 about contacts, computed by antt from the definitions: complete answers, those of
-- Box2D 2.4.1 (Debian's library) and of the Rust, whatever manifold or output places the call was given; the boxes of
-- the tie are what the box call makes of any two outlines with the usual skin. Assumes nothing.
use mathlib.Core.Path.{◌≡◌, refl, sym, ap, subst}
use mathlib.Core.List.{List, [], ◌∷◌, ◌++◌}
use Prim.Native.Nat.{ℕ}
use lib.ListN.{length, drop}
use lib.Ieee.{Float, neg, add, sub, mul, div, le, lt, eq, of_bits}
use Rattle.rounding.specs.Literals.{zero32}
use Rattle.sqrt.specs.Sqrt.{root_digits, whole_root, root_by_steps, sqrt}
use Rattle.floats.specs.declared.b2_math.B2vec2.{B2vec2}
use Rattle.floats.specs.B2Common.{b2_polygon_radius}
use Rattle.floats.specs.B2Math.{b2_sqrt, b2_add, b2_sub, b2_neg, b2_scale, b2_dot, b2_cross_vec_by_scalar}
use Rattle.floats.specs.B2Math.{b2_length_squared, b2_length, b2_distance_vec2_squared, b2_normalize, b2_mul_t_rot}
use Rattle.floats.specs.B2Math.{b2_mul_rot_by_vec2, b2_mul_t_rot_by_vec2, b2_mul_transform_by_vec2}
use Rattle.floats.specs.B2Math.{b2_mul_t_transform_by_vec2, b2_mul_t_transform, vec2}
use Rattle.floats.specs.Ranges.{point_in_range, radius_in_range, rotation_in_range, transform_in_range}
use Rattle.floats.specs.Ranges.{coordinate_in_range, normal_in_range, contact_number_in_range, contact_point_in_range}
use Rattle.shape_definitions.specs.declared.b2_polygon_shape.B2polygonShape.{B2polygonShape}
use Rattle.shape_definitions.specs.Outline.{origin}
use Rattle.shape_definitions.specs.Boxes.{b2_polygon_shape_set_as_box}
use Rattle.shape_definitions.specs.Refusal.{accepted}
use Rattle.shape_definitions.specs.Validate.{polygon_in_range}
use Rattle.contact_definitions.specs.declared.b2_collision.B2clipVertex.{B2clipVertex}
use Rattle.contact_definitions.specs.declared.b2_collision.B2contactId.{B2contactId}
use Rattle.contact_definitions.specs.declared.b2_collision.B2manifold.{B2manifold}
use Rattle.contact_definitions.specs.declared.b2_collision.B2manifoldPoint.{B2manifoldPoint}
use Rattle.contact_definitions.specs.declared.b2_collision.B2manifoldType.{B2manifoldType}
use Rattle.contact_definitions.specs.declared.b2_collision.B2manifoldType.TheVariants.{ECircles, EFaceA}
use Rattle.contact_definitions.specs.Answers.{ClipAnswer}
use Rattle.contact_definitions.specs.Answers.{ManifoldAnswer}
use Rattle.shape_definitions.specs.Circle.{circle_in_range}
use Rattle.contact_definitions.specs.B2CollideCircle.{farther, circles_manifold}
use Rattle.contact_definitions.specs.B2CollideCircle.{b2_collide_circles}
use Rattle.contact_definitions.specs.B2CollidePolygon.{face_separation, b2_find_max_separation, axis_of}
use Rattle.contact_definitions.specs.B2CollidePolygon.{polygons_axis, incident_place, incident_end}
use Rattle.contact_definitions.specs.B2CollidePolygon.{b2_find_incident_edge, local_tangent, face_middle}
use Rattle.contact_definitions.specs.B2CollidePolygon.{face_along, outline_face, within_skins, outline_point}
use Rattle.contact_definitions.specs.B2CollidePolygon.{outline_manifold, polygons_manifold, b2_collide_polygons}
use Rattle.contact_definitions.specs.Clip.{clip_distance, crossing, clipped_by, clipped, clip_in_range}
use Rattle.contact_definitions.specs.Clip.{b2_clip_segment_to_line}
use Rattle.contact_definitions.specs.Manifold.{with_local_point, with_count, with_kind}
use Rattle.contact_definitions.specs.Manifold.{with_one_point, contact_id, manifold_point, manifold_accepted}
use Rattle.contact_definitions.specs.ReferenceFace.{clipped_to_sides, only, points_from, with_points}
use Rattle.contact_definitions.specs.ReferenceFace.{manifold_of_ends}
use Rattle.contact_definitions.specs.Searches.{least, first_greatest, first_least}
use Rattle.contact_definitions.proofs.Numbers.{+1, +2, +3, -1, 1½, 2½}
use Rattle.floats.proofs.BitPatterns.{float}
use Rattle.contact_definitions.proofs.Given.{circle, moved, unmoved}
use Rattle.contact_definitions.proofs.ClipCases.{end_at}

-- a point with a new local point and id; the impulses and the age are those of the old manifold's point at its place
abbrev point_in : B2manifold → ℕ → B2vec2 → B2contactId → B2manifoldPoint
point_in old place v id = record {
  local_point = v;
  normal_impulse = (manifold_point old place).normal_impulse;
  tangent_impulse = (manifold_point old place).tangent_impulse;
  id = id;
  age = (manifold_point old place).age;
}

-- points in the first places, and what lies past them as it was
abbrev touching : B2manifold → B2manifoldType → B2vec2 → B2vec2 → List B2manifoldPoint → ManifoldAnswer
touching old kind normal point new = manifold_accepted (record {
  points = new ++ drop (length new) old.points;
  local_normal = normal;
  local_point = point;
  manifold_type = kind;
  point_count = length new;
})

-- no point: only the count is written
abbrev missing : B2manifold → ManifoldAnswer
missing old = manifold_accepted (record {
  points = old.points;
  local_normal = old.local_normal;
  local_point = old.local_point;
  manifold_type = old.manifold_type;
  point_count = 0;
})

-- a clip along x, to a line at 0, and what it leaves in the output places
abbrev clip : List B2clipVertex → B2clipVertex → B2clipVertex → ClipAnswer
clip places end0 end1 = b2_clip_segment_to_line places (end0 ∷ end1 ∷ []) (vec2 +1 zero32) zero32 7

abbrev left : List B2clipVertex → List B2clipVertex → ClipAnswer
left places new = record {
  points = new ++ drop (length new) places;
  count = length new;
  refusal = accepted;
}

-- the box of half-widths 1 that the box call makes of an outline
abbrev unit_box : B2polygonShape → B2polygonShape
unit_box old = (b2_polygon_shape_set_as_box old +1 +1).shape

-- two such boxes, 1.5 apart on x: both boxes have a face that keeps the other off by as much, and it is face A
abbrev Tie : B2manifold → B2polygonShape → B2polygonShape → Type 0
Tie old a b =
    b2_collide_polygons old (unit_box a) unmoved (unit_box b) (moved 1½ zero32)
    ≡ touching old EFaceA (vec2 +1 (float 0x8000_0000)) (vec2 +1 zero32)
    (point_in old 0 (vec2 -1 +1) (contact_id 1 3 1 0) ∷ point_in old 1 (vec2 -1 -1) (contact_id 1 0 1 0) ∷ [])

pub record ContactCases (old : B2manifold) (places : List B2clipVertex) (a b : B2polygonShape) : Type 0 where
  -- circles of radius 1, centres 2 apart: one point; 2 + 2^-22 apart: none
  pub circles_touch : b2_collide_circles old (circle +1 origin) unmoved (circle +1 origin) (moved +2 zero32)
      ≡ touching old ECircles origin origin (point_in old 0 origin (contact_id 0 0 0 0) ∷ [])
  pub circles_miss : b2_collide_circles old (circle +1 origin) unmoved (circle +1 origin)
      (moved (float 0x4000_0001) zero32)
      ≡ missing old
  -- a clip at distances 0 and 1: one point; -1 and 1: two; 1e-30 and -1e-30: one, the product underflows
  pub clip_at_0_and_1 : clip places (end_at (vec2 zero32 +2) (contact_id 1 2 3 4))
      (end_at (vec2 +1 +3) (contact_id 5 6 7 8))
      ≡ left places (end_at (vec2 zero32 +2) (contact_id 1 2 3 4) ∷ [])
  pub clip_at_minus_1_and_1 : clip places (end_at (vec2 -1 +2) (contact_id 1 2 3 4))
      (end_at (vec2 +1 +3) (contact_id 5 6 7 8))
      ≡ left places (end_at (vec2 -1 +2) (contact_id 1 2 3 4) ∷ end_at (vec2 zero32 2½) (contact_id 7 2 0 1) ∷ [])
  pub clip_underflows : clip places (end_at (vec2 (float 0x0da2_4260) +2) (contact_id 1 2 3 4))
      (end_at (vec2 (float 0x8da2_4260) +3) (contact_id 5 6 7 8))
      ≡ left places (end_at (vec2 (float 0x8da2_4260) +3) (contact_id 5 6 7 8) ∷ [])
  -- two boxes of half-widths 1, 1.5 apart on x: tie, face A
  pub boxes_tie : a.m_radius ≡ b2_polygon_radius → b.m_radius ≡ b2_polygon_radius
      → Tie old a b

abbrev with_skin : Float → B2polygonShape → B2polygonShape
with_skin skin shape = record {
  m_radius = skin;
  m_centroid = shape.m_centroid;
  m_vertices = shape.m_vertices;
  m_normals = shape.m_normals;
  m_count = shape.m_count;
}

usual_skin : (shape : B2polygonShape) → shape.m_radius ≡ b2_polygon_radius
    → with_skin b2_polygon_radius shape ≡ shape
usual_skin shape is = ap (λ (skin : Float). with_skin skin shape) (sym is)

tie : (old : B2manifold) (a b : B2polygonShape)
    → Tie old (with_skin b2_polygon_radius a) (with_skin b2_polygon_radius b)
unfolding root_digits whole_root root_by_steps sqrt b2_sqrt b2_add b2_sub b2_neg b2_scale b2_dot b2_cross_vec_by_scalar
    b2_length_squared b2_length b2_normalize b2_mul_t_rot b2_mul_rot_by_vec2 b2_mul_t_rot_by_vec2
    b2_mul_transform_by_vec2 b2_mul_t_transform_by_vec2 b2_mul_t_transform coordinate_in_range point_in_range
    radius_in_range rotation_in_range transform_in_range normal_in_range polygon_in_range least first_greatest
    first_least with_local_point with_count with_kind clip_distance crossing clipped_by clipped clipped_to_sides only
    points_from with_points manifold_of_ends face_separation b2_find_max_separation axis_of polygons_axis
    incident_place incident_end b2_find_incident_edge local_tangent face_middle face_along outline_face within_skins
    outline_point outline_manifold polygons_manifold b2_collide_polygons b2_polygon_shape_set_as_box
    neg add sub mul div le lt eq of_bits
tie old a b = refl

pub contact_cases : (old : B2manifold) (places : List B2clipVertex) (a b : B2polygonShape) → ContactCases old places a b
unfolding b2_add b2_sub b2_scale b2_dot b2_length_squared b2_distance_vec2_squared b2_mul_rot_by_vec2
    b2_mul_transform_by_vec2 point_in_range radius_in_range rotation_in_range transform_in_range
    contact_number_in_range contact_point_in_range with_local_point with_count with_one_point clip_distance crossing
    clipped_by clipped clip_in_range b2_clip_segment_to_line circle_in_range farther circles_manifold
    b2_collide_circles neg add sub mul div le lt eq of_bits
contact_cases old places a b = record {
  circles_touch = refl;
  circles_miss = refl;
  clip_at_0_and_1 = refl;
  clip_at_minus_1_and_1 = refl;
  clip_underflows = refl;
  boxes_tie = λ a_skin b_skin. subst (λ (x : B2polygonShape). Tie old x b) (usual_skin a a_skin)
      (subst (λ (x : B2polygonShape). Tie old (with_skin b2_polygon_radius a) x) (usual_skin b b_skin) (tie old a b));
}
