-- World points, b2_world_manifold_initialize: the normal from A to B, and for each counted point the middle between
-- the two surfaces and their separation. Zero points leave the world record untouched. Refusals: 7 for a count above
-- 2, then zero points, then 9 for a number of the manifold or a radius, 6 for a placement. Definitions only.
use Rattle.std.specs.Prelude.{Bool, true, false, not, cond, ◌&&◌, List, [], ◌∷◌, map, ℕ, ltb, eqb, Float}
use Rattle.std.specs.Float.{binary32}
use Rattle.std.specs.Float.Ieee.{sub, lt}
use Rattle.algebra.specs.Buffer.{over}
use Rattle.floats.specs.declared.b2_math.B2vec2.{B2vec2}
use Rattle.floats.specs.declared.b2_math.B2Transform.{B2Transform}
use Rattle.rounding.specs.Literals.{zero32, half32, one32}
use Rattle.floats.specs.B2Math.{vec2, b2_add, b2_sub, b2_neg, b2_scale, b2_dot, b2_distance_vec2_squared, b2_normalize}
use Rattle.floats.specs.B2Math.{unit_or_same}
use Rattle.floats.specs.B2Math.{b2_mul_rot_by_vec2, b2_mul_transform_by_vec2}
use Rattle.floats.specs.Ranges.{radius_in_range, transform_in_range, local_normal_in_range, contact_point_in_range}
use Rattle.shape_definitions.specs.Refusal.{accepted, placement_out_of_range, count_out_of_range}
use Rattle.floats.specs.B2Common.{epsilon_squared}
use Rattle.shape_definitions.specs.Outline.{origin}
use Rattle.contact_definitions.specs.declared.b2_collision.B2manifoldPoint.{B2manifoldPoint}
use Rattle.contact_definitions.specs.declared.b2_collision.B2manifoldType.{B2manifoldType}
use Rattle.contact_definitions.specs.declared.b2_collision.B2manifoldType.TheVariants.{ECircles, EFaceA, EFaceB}
use Rattle.contact_definitions.specs.declared.b2_collision.B2manifold.{B2manifold}
use Rattle.contact_definitions.specs.declared.b2_collision.B2worldManifold.{B2worldManifold}
use Rattle.contact_definitions.specs.Answers.{WorldAnswer}
use Rattle.shape_definitions.specs.Refusal.{contact_out_of_range}
use Rattle.contact_definitions.specs.Manifold.{manifold_point, counted_points}

abbrev pub default_world_manifold : B2worldManifold
default_world_manifold = record { normal = origin; points = origin ∷ origin ∷ []; separations = zero32 ∷ zero32 ∷ [] }

abbrev pub middle : B2vec2 → B2vec2 → B2vec2
middle a b = b2_scale half32 (b2_add a b)

-- ---- a face: the points of its surface, and of the other one, nearest to a point p of the other shape
unfoldable pub on_face : B2vec2 → B2vec2 → Float → B2vec2 → B2vec2
on_face normal plane radius p = b2_add p (b2_scale (sub binary32 radius (b2_dot (b2_sub p plane) normal)) normal)

unfoldable pub on_other : B2vec2 → Float → B2vec2 → B2vec2
on_other normal radius p = b2_sub p (b2_scale radius normal)

-- the separation at p, of the normal and a point of the face's plane: 1 is the shape of the face, 2 the other
unfoldable pub plane_separation : B2vec2 → B2vec2 → Float → Float → B2vec2 → Float
plane_separation normal plane radius1 radius2 p =
    b2_dot (b2_sub (on_other normal radius2 p) (on_face normal plane radius1 p)) normal

-- the middle at p; shape A comes first
unfoldable pub plane_middle : Bool → B2vec2 → B2vec2 → Float → Float → B2vec2 → B2vec2
plane_middle is_b normal plane radius1 radius2 p =
    cond is_b (middle (on_other normal radius2 p) (on_face normal plane radius1 p))
    (middle (on_face normal plane radius1 p) (on_other normal radius2 p))

-- the counted points, carried by the placement of the other shape
unfoldable pub carried_points : B2manifold → B2Transform → List B2vec2
carried_points m xf2 = map (λ (p : B2manifoldPoint). b2_mul_transform_by_vec2 xf2 p.local_point) (counted_points m)

-- the face of B has its normal turned round, to point from A to B
unfoldable pub world_of_face : Bool → B2worldManifold → B2manifold → B2Transform → Float → B2Transform → Float
    → B2worldManifold
world_of_face is_b old m xf1 radius1 xf2 radius2 =
    let normal = b2_mul_rot_by_vec2 xf1.q m.local_normal in
    let plane = b2_mul_transform_by_vec2 xf1 m.local_point in
    record {
      normal = cond is_b (b2_neg normal) normal;
      points = over (map (plane_middle is_b normal plane radius1 radius2) (carried_points m xf2)) old.points;
      separations = over (map (plane_separation normal plane radius1 radius2) (carried_points m xf2))
          old.separations;
    }

-- ---- circles: only the first point is written. The normal is (1, 0) where their centres are hardly apart
unfoldable pub circles_normal : B2vec2 → B2vec2 → B2vec2
circles_normal a b =
    cond (lt epsilon_squared (b2_distance_vec2_squared a b)) (unit_or_same (b2_normalize (b2_sub b a)))
    (vec2 one32 zero32)

unfoldable pub world_of_circles : B2worldManifold → B2manifold → B2Transform → Float → B2Transform → Float
    → B2worldManifold
world_of_circles old m xfA radiusA xfB radiusB =
    let a = b2_mul_transform_by_vec2 xfA m.local_point in
    let b = b2_mul_transform_by_vec2 xfB (manifold_point m 0).local_point in
    let normal = circles_normal a b in
    let on_a = b2_add a (b2_scale radiusA normal) in
    let on_b = b2_sub b (b2_scale radiusB normal) in
    record {
      normal = normal;
      points = over (middle on_a on_b ∷ []) old.points;
      separations = over (b2_dot (b2_sub on_b on_a) normal ∷ []) old.separations;
    }

-- ---- by the kind
abbrev pub world_of_kind : B2manifoldType → B2worldManifold → B2manifold → B2Transform → Float → B2Transform
    → Float → B2worldManifold
world_of_kind ECircles old m xfA radiusA xfB radiusB = world_of_circles old m xfA radiusA xfB radiusB
world_of_kind EFaceA old m xfA radiusA xfB radiusB = world_of_face false old m xfA radiusA xfB radiusB
world_of_kind EFaceB old m xfA radiusA xfB radiusB = world_of_face true old m xfB radiusB xfA radiusA

-- ---- the call
unfoldable pub points_in_range : List B2manifoldPoint → Bool
points_in_range [] = true
points_in_range (p ∷ ps) = contact_point_in_range p.local_point && points_in_range ps

unfoldable pub manifold_in_range : B2manifold → Bool
manifold_in_range m =
    local_normal_in_range m.local_normal && contact_point_in_range m.local_point
    && points_in_range (counted_points m)

abbrev pub world_refused : ℕ → B2worldManifold → WorldAnswer
world_refused number old = record { world = old; refusal = number }

abbrev pub world_accepted : B2worldManifold → WorldAnswer
world_accepted world = record { world = world; refusal = accepted }

unfoldable pub b2_world_manifold_initialize : B2worldManifold → B2manifold → B2Transform → Float → B2Transform
    → Float → WorldAnswer
b2_world_manifold_initialize old m xfA radiusA xfB radiusB =
    cond (ltb 2 m.point_count) (world_refused count_out_of_range old)
    (cond (eqb m.point_count 0) (world_accepted old)
    (cond (not (manifold_in_range m && radius_in_range radiusA && radius_in_range radiusB))
    (world_refused contact_out_of_range old)
    (cond (not (transform_in_range xfA && transform_in_range xfB)) (world_refused placement_out_of_range old)
    (world_accepted (world_of_kind m.manifold_type old m xfA radiusA xfB radiusB)))))
