-- A call that is given a circle and does not refuse counts at most two points: by cases of its choices. Assumes
-- nothing.
use mathlib.Core.Bool.{Bool, cond, ◌&&◌}
use Prim.Native.Nat.{ℕ}
use lib.Ieee.{Float, binary32, add, div, le, lt}
use Rattle.rounding.specs.Literals.{zero32, one32}
use Rattle.floats.specs.declared.b2_math.B2vec2.{B2vec2}
use Rattle.floats.specs.declared.b2_math.B2Transform.{B2Transform}
use Rattle.floats.specs.B2Math.{b2_add, b2_sub, b2_neg, b2_scale, b2_dot, b2_normalize, unit_or_same}
use Rattle.floats.specs.B2Math.{b2_mul_transform_by_vec2, b2_mul_t_transform_by_vec2}
use Rattle.shape_definitions.specs.declared.b2_circle_shape.B2circleShape.{B2circleShape}
use Rattle.shape_definitions.specs.declared.b2_polygon_shape.B2polygonShape.{B2polygonShape}
use Rattle.shape_definitions.specs.declared.b2_edge_shape.B2edgeShape.{B2edgeShape}
use Rattle.shape_definitions.specs.Outline.{origin}
use Rattle.shape_definitions.specs.Validate.{polygon_in_range}
use Rattle.contact_definitions.specs.declared.b2_collision.B2manifoldType.TheVariants.{ECircles, EFaceA}
use Rattle.contact_definitions.specs.declared.b2_collision.B2manifold.{B2manifold}
use Rattle.contact_definitions.specs.Manifold.{vertex_feature, face_feature, contact_id, default_id}
use Rattle.contact_definitions.specs.Manifold.{with_count, with_one_point, manifold_refused}
use Rattle.contact_definitions.specs.Manifold.{manifold_accepted, miscounted, where_in_range}
use Rattle.shape_definitions.specs.Circle.{circle_in_range}
use Rattle.contact_definitions.specs.B2CollideCircle.{farther, circles_manifold}
use Rattle.contact_definitions.specs.B2CollideCircle.{b2_collide_circles}
use Rattle.contact_definitions.specs.B2CollideCircle.{polygon_circle_manifold}
use Rattle.contact_definitions.specs.B2CollideCircle.{b2_collide_polygon_and_circle}
use Rattle.contact_definitions.specs.EdgeAxis.{right_of}
use Rattle.shape_definitions.specs.Edge.{edge_in_range}
use Rattle.contact_definitions.specs.B2CollideEdge.{circle_at_end, circle_at_wall, over_before}
use Rattle.contact_definitions.specs.B2CollideEdge.{over_after, edge_circle_answer, b2_collide_edge_and_circle}
use Rattle.contact_definitions.proofs.Counts.{Few, Accepted, either, refused, counted}
use Rattle.contact_definitions.proofs.Counts.{in_range, none_few, one_few}
use Rattle.contact_definitions.proofs.OutlineCircle.{at_outline}

-- ---- circles
pub circles_few : (old : B2manifold) (circleA : B2circleShape) (xfA : B2Transform) (circleB : B2circleShape)
    (xfB : B2Transform) → Accepted Few (b2_collide_circles old circleA xfA circleB xfB)
unfolding b2_collide_circles circles_manifold
circles_few old circleA xfA circleB xfB =
    let none = with_count old 0 in
    let touching = with_one_point none ECircles origin circleA.m_p circleB.m_p default_id in
    let apart = farther (add binary32 circleA.m_radius circleB.m_radius)
    (b2_mul_transform_by_vec2 xfB circleB.m_p) (b2_mul_transform_by_vec2 xfA circleA.m_p) in
    in_range Few (circle_in_range circleA && circle_in_range circleB) xfA xfB old
    (manifold_accepted (cond apart none touching))
    (λ h. either Few apart none touching (none_few old)
    (one_few none ECircles origin circleA.m_p circleB.m_p default_id))

-- ---- outline and circle
pub polygon_circle_few : (old : B2manifold) (polyA : B2polygonShape) (xfA : B2Transform) (circleB : B2circleShape)
    (xfB : B2Transform) → Accepted Few (b2_collide_polygon_and_circle old polyA xfA circleB xfB)
unfolding b2_collide_polygon_and_circle
polygon_circle_few old polyA xfA circleB xfB =
    let none = with_count old 0 in
    let c = b2_mul_t_transform_by_vec2 xfA (b2_mul_transform_by_vec2 xfB circleB.m_p) in
    let radius = add binary32 polyA.m_radius circleB.m_radius in
    let answer = manifold_accepted (polygon_circle_manifold none polyA c radius circleB.m_p) in
    let shapes = polygon_in_range polyA && circle_in_range circleB in
    counted Few (miscounted polyA.m_count) old (where_in_range shapes xfA xfB old answer)
    (in_range Few shapes xfA xfB old answer
    (λ h. at_outline Few none c radius circleB.m_p (none_few old) polyA
    (one_few none EFaceA _ _ circleB.m_p default_id) (one_few none EFaceA _ _ circleB.m_p default_id)
    (one_few none EFaceA _ _ circleB.m_p default_id)))

-- ---- wall and circle
module _ (m : B2manifold) (m_few : Few m) (q : B2vec2) (radius : Float) (centre : B2vec2) where
  end_few : (end : B2vec2) (index : ℕ) (over_neighbour : Bool)
      → Few (circle_at_end m end index over_neighbour q radius centre)
  unfolding circle_at_end
  end_few end index over_neighbour =
      let id = contact_id index 0 vertex_feature vertex_feature in
      let touching = with_one_point m ECircles origin end centre id in
      either Few (farther radius q end) m (cond over_neighbour m touching) m_few
      (either Few over_neighbour m touching m_few (one_few m ECircles origin end centre id))

  wall_few : (a b : B2vec2) (u v den offset : Float)
      → Few (circle_at_wall m a b u v den offset q radius centre)
  unfolding circle_at_wall
  wall_few a b u v den offset =
      let n = right_of (b2_sub b a) in
      let normal = unit_or_same (b2_normalize (cond (lt offset zero32) (b2_neg n) n)) in
      let id = contact_id 0 0 face_feature vertex_feature in
      either Few (farther radius q (b2_scale (div binary32 one32 den) (b2_add (b2_scale u a) (b2_scale v b)))) m
      (with_one_point m EFaceA normal a centre id) m_few (one_few m EFaceA normal a centre id)

edge_circle_answer_few : (old : B2manifold) (edge : B2edgeShape) (q : B2vec2) (radius : Float) (centre : B2vec2)
    → Accepted Few (edge_circle_answer old edge q radius centre)
unfolding edge_circle_answer
edge_circle_answer_few old edge q radius centre =
    let none = with_count old 0 in
    let a = edge.m_vertex1 in
    let b = edge.m_vertex2 in
    let e = b2_sub b a in
    let offset = b2_dot (right_of e) (b2_sub q a) in
    let u = b2_dot e (b2_sub b q) in
    let v = b2_dot e (b2_sub q a) in
    let den = b2_dot e e in
    let at_1 = manifold_accepted (circle_at_end none a 0 (over_before edge q) q radius centre) in
    let at_2 = manifold_accepted (circle_at_end none b 1 (over_after edge q) q radius centre) in
    let at_wall = manifold_accepted (circle_at_wall none a b u v den offset q radius centre) in
    let middle = cond (lt zero32 den) at_wall (manifold_refused 8 old) in
    let none_h = none_few old in
    either (Accepted Few) (edge.m_one_sided && lt offset zero32) (manifold_accepted none)
    (cond (le v zero32) at_1 (cond (le u zero32) at_2 middle)) (λ h. none_h)
    (either (Accepted Few) (le v zero32) at_1 (cond (le u zero32) at_2 middle)
    (λ h. end_few none none_h q radius centre a 0 (over_before edge q))
    (either (Accepted Few) (le u zero32) at_2 middle
    (λ h. end_few none none_h q radius centre b 1 (over_after edge q))
    (either (Accepted Few) (lt zero32 den) at_wall (manifold_refused 8 old)
    (λ h. wall_few none none_h q radius centre a b u v den offset) (refused Few 7 old))))

pub edge_circle_few : (old : B2manifold) (edgeA : B2edgeShape) (xfA : B2Transform) (circleB : B2circleShape)
    (xfB : B2Transform) → Accepted Few (b2_collide_edge_and_circle old edgeA xfA circleB xfB)
unfolding b2_collide_edge_and_circle
edge_circle_few old edgeA xfA circleB xfB =
    let q = b2_mul_t_transform_by_vec2 xfA (b2_mul_transform_by_vec2 xfB circleB.m_p) in
    let radius = add binary32 edgeA.m_radius circleB.m_radius in
    in_range Few (edge_in_range edgeA && circle_in_range circleB) xfA xfB old
    (edge_circle_answer old edgeA q radius circleB.m_p)
    (edge_circle_answer_few old edgeA q radius circleB.m_p)
