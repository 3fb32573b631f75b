-- Circle against circle and outline against circle, b2_collide_circles and b2_collide_polygon_and_circle. Refusals: 7
-- for an outline's count, 2 for a number of a shape, 6 for a placement. Definitions only.
use Rattle.std.specs.Prelude.{Bool, cond, ◌&&◌, ℕ, Float}
use Rattle.std.specs.Float.{binary32}
use Rattle.std.specs.Float.Ieee.{add, mul, le, lt}
use Rattle.floats.specs.declared.b2_math.B2vec2.{B2vec2}
use Rattle.floats.specs.declared.b2_math.B2Transform.{B2Transform}
use Rattle.rounding.specs.Literals.{zero32, half32}
use Rattle.floats.specs.B2Common.{b2_epsilon}
use Rattle.floats.specs.B2Math.{b2_add, b2_sub, b2_scale, b2_dot, b2_distance_vec2_squared, b2_normalize, unit_or}
use Rattle.floats.specs.B2Math.{b2_mul_transform_by_vec2, b2_mul_t_transform_by_vec2}
use Rattle.shape_definitions.specs.declared.b2_circle_shape.B2circleShape.{B2circleShape}
use Rattle.shape_definitions.specs.declared.b2_polygon_shape.B2polygonShape.{B2polygonShape}
use Rattle.shape_definitions.specs.Outline.{origin, point_at, place_after}
use Rattle.shape_definitions.specs.Circle.{circle_in_range}
use Rattle.shape_definitions.specs.Validate.{polygon_in_range}
use Rattle.contact_definitions.specs.declared.axis.Best.{Best}
use Rattle.contact_definitions.specs.declared.b2_collision.B2manifold.{B2manifold}
use Rattle.contact_definitions.specs.declared.b2_collision.B2manifoldType.TheVariants.{ECircles, EFaceA}
use Rattle.contact_definitions.specs.Answers.{ManifoldAnswer}
use Rattle.contact_definitions.specs.Searches.{some_below, first_greatest}
use Rattle.contact_definitions.specs.Manifold.{default_id, with_count, with_one_point, manifold_accepted}
use Rattle.contact_definitions.specs.Manifold.{miscounted}
use Rattle.contact_definitions.specs.Manifold.{unless_miscounted, where_in_range}

-- p and q are farther apart than the radius, by rounded squares: at exactly the radius they are not
unfoldable pub farther : Float → B2vec2 → B2vec2 → Bool
farther radius p q = lt (mul binary32 radius radius) (b2_distance_vec2_squared p q)

-- ---- circles: the centre of A, no normal, and the centre of B as the one point
unfoldable pub circles_manifold : B2manifold → B2circleShape → B2Transform → B2circleShape → B2Transform → B2manifold
circles_manifold old circleA xfA circleB xfB =
    cond (farther (add binary32 circleA.m_radius circleB.m_radius)
    (b2_mul_transform_by_vec2 xfB circleB.m_p) (b2_mul_transform_by_vec2 xfA circleA.m_p)) old
    (with_one_point old ECircles origin circleA.m_p circleB.m_p default_id)

unfoldable pub b2_collide_circles : B2manifold → B2circleShape → B2Transform → B2circleShape → B2Transform
    → ManifoldAnswer
b2_collide_circles old circleA xfA circleB xfB =
    where_in_range (circle_in_range circleA && circle_in_range circleB) xfA xfB old
    (manifold_accepted (circles_manifold (with_count old 0) circleA xfA circleB xfB))

-- ---- outline and circle, in the outline's frame: c is the circle's centre there
-- how far c is out of face i
unfoldable pub circle_separation : B2polygonShape → B2vec2 → ℕ → Float
circle_separation poly c i = b2_dot (point_at poly.m_normals i) (b2_sub c (point_at poly.m_vertices i))

-- the circle at corner v of the face with this normal: from the corner to c or, where that has no length of at least
-- 2^-23, the face's normal (request 07)
unfoldable pub circle_at_corner : B2manifold → B2vec2 → B2vec2 → B2vec2 → Float → B2vec2 → B2manifold
circle_at_corner old v normal c radius centre =
    cond (farther radius c v) old
    (with_one_point old EFaceA (unit_or normal (b2_normalize (b2_sub c v))) v centre default_id)

-- the circle at the face from v1 to v2, out of which c is by the separation
unfoldable pub circle_at_face : B2manifold → B2vec2 → B2vec2 → B2vec2 → Float → B2vec2 → Float → B2vec2 → B2manifold
circle_at_face old v1 v2 normal separation c radius centre =
    let middle = b2_scale half32 (b2_add v1 v2) in
    let at_middle = with_one_point old EFaceA normal middle centre default_id in
    cond (lt separation b2_epsilon) at_middle
    (cond (le (b2_dot (b2_sub c v1) (b2_sub v2 v1)) zero32) (circle_at_corner old v1 normal c radius centre)
    (cond (le (b2_dot (b2_sub c v2) (b2_sub v1 v2)) zero32) (circle_at_corner old v2 normal c radius centre)
    (cond (lt radius (b2_dot (b2_sub c middle) normal)) old at_middle)))

unfoldable pub circle_at_best : B2manifold → B2polygonShape → B2vec2 → Float → B2vec2 → Best → B2manifold
circle_at_best old poly c radius centre best =
    circle_at_face old (point_at poly.m_vertices best.place)
    (point_at poly.m_vertices (place_after poly.m_count best.place))
    (point_at poly.m_normals best.place) best.value c radius centre

-- none where c is out of some face by more than the radius; else at the face that it is farthest out of
unfoldable pub polygon_circle_manifold : B2manifold → B2polygonShape → B2vec2 → Float → B2vec2 → B2manifold
polygon_circle_manifold old poly c radius centre =
    cond (some_below (λ i. lt radius (circle_separation poly c i)) poly.m_count) old
    (circle_at_best old poly c radius centre (first_greatest (circle_separation poly c) poly.m_count))

unfoldable pub b2_collide_polygon_and_circle : B2manifold → B2polygonShape → B2Transform → B2circleShape
    → B2Transform → ManifoldAnswer
b2_collide_polygon_and_circle old polyA xfA circleB xfB =
    unless_miscounted (miscounted polyA.m_count) old
    (where_in_range (polygon_in_range polyA && circle_in_range circleB) xfA xfB old
    (manifold_accepted (polygon_circle_manifold (with_count old 0) polyA
    (b2_mul_t_transform_by_vec2 xfA (b2_mul_transform_by_vec2 xfB circleB.m_p))
    (add binary32 polyA.m_radius circleB.m_radius) circleB.m_p)))
