-- Wall against circle and wall against outline, b2_collide_edge_and_circle and b2_collide_edge_and_polygon. Refusals:
-- 7 for an outline's count, 2 for a number of a shape, 6 for a placement, 8 for a circle over the middle of a wall
-- whose squared length is not above 0. A two-sided wall's ghost points are not tested. Definitions only.
use Rattle.std.specs.Prelude.{Bool, cond, ◌&&◌, ℕ, Float}
use Rattle.std.specs.Float.{binary32}
use Rattle.std.specs.Float.Ieee.{add, div, le, lt}
use Rattle.floats.specs.declared.b2_math.B2vec2.{B2vec2}
use Rattle.floats.specs.declared.b2_math.B2Transform.{B2Transform}
use Rattle.rounding.specs.Literals.{zero32, one32}
use Rattle.floats.specs.B2Math.{b2_add, b2_sub, b2_neg, b2_scale, b2_dot, b2_normalize, unit_or_same}
use Rattle.floats.specs.B2Math.{b2_mul_transform_by_vec2, b2_mul_t_transform_by_vec2, b2_mul_t_transform}
use Rattle.shape_definitions.specs.declared.b2_circle_shape.B2circleShape.{B2circleShape}
use Rattle.shape_definitions.specs.declared.b2_polygon_shape.B2polygonShape.{B2polygonShape}
use Rattle.shape_definitions.specs.declared.b2_edge_shape.B2edgeShape.{B2edgeShape}
use Rattle.shape_definitions.specs.Outline.{origin}
use Rattle.shape_definitions.specs.Edge.{edge_in_range}
use Rattle.shape_definitions.specs.Validate.{polygon_in_range}
use Rattle.contact_definitions.specs.declared.b2_collision.B2manifold.{B2manifold}
use Rattle.contact_definitions.specs.declared.b2_collision.B2manifoldType.TheVariants.{ECircles, EFaceA}
use Rattle.contact_definitions.specs.Answers.{ManifoldAnswer}
use Rattle.shape_definitions.specs.Refusal.{wall_too_short}
use Rattle.contact_definitions.specs.Manifold.{vertex_feature, face_feature, contact_id}
use Rattle.contact_definitions.specs.Manifold.{with_count, with_one_point, manifold_refused, manifold_accepted}
use Rattle.contact_definitions.specs.Manifold.{miscounted, unless_miscounted, where_in_range}
use Rattle.shape_definitions.specs.Circle.{circle_in_range}
use Rattle.contact_definitions.specs.B2CollideCircle.{farther}
use Rattle.contact_definitions.specs.EdgeAxis.{right_of, edge_polygon_axis}
use Rattle.contact_definitions.specs.EdgeReference.{edge_manifold_on}

-- ---- wall and circle, in the wall's frame: q is the circle's centre there, centre in its own
-- the circle at an end of the wall: none where it is too far, or over the neighbour of a one-sided wall
unfoldable pub circle_at_end : B2manifold → B2vec2 → ℕ → Bool → B2vec2 → Float → B2vec2 → B2manifold
circle_at_end old end index over_neighbour q radius centre =
    cond (farther radius q end) old
    (cond over_neighbour old
    (with_one_point old ECircles origin end centre (contact_id index 0 vertex_feature vertex_feature)))

-- the circle over the middle: from a, with the weights u and v of a and b, and the normal n on the side of the circle
unfoldable pub circle_at_wall : B2manifold → B2vec2 → B2vec2 → Float → Float → Float → Float → B2vec2 → Float
    → B2vec2 → B2manifold
circle_at_wall old a b u v den offset q radius centre =
    let n = right_of (b2_sub b a) in
    cond (farther radius q (b2_scale (div binary32 one32 den) (b2_add (b2_scale u a) (b2_scale v b)))) old
    (with_one_point old EFaceA (unit_or_same (b2_normalize (cond (lt offset zero32) (b2_neg n) n))) a centre
    (contact_id 0 0 face_feature vertex_feature))

-- over the wall before vertex 1, over the wall after vertex 2
unfoldable pub over_before : B2edgeShape → B2vec2 → Bool
over_before edge q =
    edge.m_one_sided
    && lt zero32 (b2_dot (b2_sub edge.m_vertex1 edge.m_vertex0) (b2_sub edge.m_vertex1 q))

unfoldable pub over_after : B2edgeShape → B2vec2 → Bool
over_after edge q =
    edge.m_one_sided
    && lt zero32 (b2_dot (b2_sub edge.m_vertex3 edge.m_vertex2) (b2_sub q edge.m_vertex2))

-- none behind a one-sided wall; else by the regions: end 1, end 2, the middle
unfoldable pub edge_circle_answer : B2manifold → B2edgeShape → B2vec2 → Float → B2vec2 → ManifoldAnswer
edge_circle_answer old edge q radius centre =
    let none = with_count old 0 in
    let a = edge.m_vertex1 in
    let b = edge.m_vertex2 in
    let e = b2_sub b a in
    let offset = b2_dot (right_of e) (b2_sub q a) in
    let u = b2_dot e (b2_sub b q) in
    let v = b2_dot e (b2_sub q a) in
    let den = b2_dot e e in
    cond (edge.m_one_sided && lt offset zero32) (manifold_accepted none)
    (cond (le v zero32) (manifold_accepted (circle_at_end none a 0 (over_before edge q) q radius centre))
    (cond (le u zero32) (manifold_accepted (circle_at_end none b 1 (over_after edge q) q radius centre))
    (cond (lt zero32 den) (manifold_accepted (circle_at_wall none a b u v den offset q radius centre))
    (manifold_refused wall_too_short old))))

unfoldable pub b2_collide_edge_and_circle : B2manifold → B2edgeShape → B2Transform → B2circleShape → B2Transform
    → ManifoldAnswer
b2_collide_edge_and_circle old edgeA xfA circleB xfB =
    where_in_range (edge_in_range edgeA && circle_in_range circleB) xfA xfB old
    (edge_circle_answer old edgeA (b2_mul_t_transform_by_vec2 xfA (b2_mul_transform_by_vec2 xfB circleB.m_p))
    (add binary32 edgeA.m_radius circleB.m_radius) circleB.m_p)

-- ---- wall and outline: none where the outline's centroid is behind a one-sided wall
unfoldable pub edge_polygon_manifold : B2manifold → B2edgeShape → B2Transform → B2polygonShape → B2manifold
edge_polygon_manifold old edge xf poly =
    let edge1 = unit_or_same (b2_normalize (b2_sub edge.m_vertex2 edge.m_vertex1)) in
    let radius = add binary32 poly.m_radius edge.m_radius in
    let centroid = b2_mul_transform_by_vec2 xf poly.m_centroid in
    let offset1 = b2_dot (right_of edge1) (b2_sub centroid edge.m_vertex1) in
    cond (edge.m_one_sided && lt offset1 zero32) old
    (edge_manifold_on (edge_polygon_axis radius edge edge1 xf poly) old edge edge1 xf poly radius)

unfoldable pub b2_collide_edge_and_polygon : B2manifold → B2edgeShape → B2Transform → B2polygonShape → B2Transform
    → ManifoldAnswer
b2_collide_edge_and_polygon old edgeA xfA polyB xfB =
    unless_miscounted (miscounted polyB.m_count) old
    (where_in_range (edge_in_range edgeA && polygon_in_range polyB) xfA xfB old
    (manifold_accepted (edge_polygon_manifold (with_count old 0) edgeA (b2_mul_t_transform xfA xfB) polyB)))
