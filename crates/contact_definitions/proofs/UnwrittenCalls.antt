-- The five contact calls leave the impulses and the age at both places as they were given, refused ones too: by cases
-- of their choices. Assumes nothing.
use Prim.Native.Nat.{ℕ}
use mathlib.Core.Path.{◌≡◌}
use mathlib.Core.Bool.{Bool, not, ◌&&◌, ◌||◌}
use lib.Ieee.{Float, binary32, add, div, le, lt}
use Rattle.rounding.specs.Literals.{zero32, one32}
use Rattle.floats.specs.declared.b2_math.B2vec2.{B2vec2}
use Rattle.floats.specs.declared.b2_math.B2Transform.{B2Transform}
use Rattle.floats.specs.B2Math.{vec2, b2_add, b2_sub, b2_neg, b2_scale, b2_dot, b2_normalize, b2_mul_transform_by_vec2}
use Rattle.floats.specs.B2Math.{b2_mul_t_transform, unit_or_same}
use Rattle.floats.specs.Ranges.{transform_in_range}
use Rattle.shape_definitions.specs.declared.b2_circle_shape.B2circleShape.{B2circleShape}
use Rattle.shape_definitions.specs.declared.b2_edge_shape.B2edgeShape.{B2edgeShape}
use Rattle.shape_definitions.specs.declared.b2_polygon_shape.B2polygonShape.{B2polygonShape}
use Rattle.shape_definitions.specs.Circle.{circle_in_range}
use Rattle.shape_definitions.specs.Edge.{edge_in_range}
use Rattle.shape_definitions.specs.Outline.{origin}
use Rattle.shape_definitions.specs.Validate.{polygon_in_range}
use Rattle.contact_definitions.specs.declared.axis.Axis.{Axis}
use Rattle.contact_definitions.specs.declared.axis.Axis.TheVariants.{Apart, FaceA, FaceB}
use Rattle.contact_definitions.specs.declared.b2_collision.B2clipVertex.{B2clipVertex}
use Rattle.contact_definitions.specs.declared.b2_collision.B2contactId.{B2contactId}
use Rattle.contact_definitions.specs.declared.b2_collision.B2manifold.{B2manifold}
use Rattle.contact_definitions.specs.declared.b2_collision.B2manifoldPoint.{B2manifoldPoint}
use Rattle.contact_definitions.specs.declared.b2_collision.B2manifoldType.TheVariants.{ECircles, EFaceA, EFaceB}
use Rattle.contact_definitions.specs.Answers.{ManifoldAnswer}
use Rattle.contact_definitions.specs.Manifold.{with_count, with_kind, default_id, swapped_id, miscounted}
use Rattle.contact_definitions.specs.Manifold.{unless_miscounted, where_in_range}
use Rattle.contact_definitions.specs.Unwritten.{unwritten, AsGiven}
use Rattle.contact_definitions.specs.B2CollideCircle.{farther, circles_manifold}
use Rattle.contact_definitions.specs.B2CollideCircle.{polygon_circle_manifold, b2_collide_circles}
use Rattle.contact_definitions.specs.B2CollideCircle.{b2_collide_polygon_and_circle}
use Rattle.contact_definitions.specs.B2CollidePolygon.{outline_face, b2_find_incident_edge, outline_point}
use Rattle.contact_definitions.specs.B2CollidePolygon.{outline_manifold, manifold_on, polygons_axis}
use Rattle.contact_definitions.specs.B2CollidePolygon.{polygons_manifold, b2_collide_polygons}
use Rattle.contact_definitions.specs.EdgeAxis.{right_of, edge_polygon_axis}
use Rattle.contact_definitions.specs.EdgeReference.{face_between, most_against, outline_edge, point_in_frame}
use Rattle.contact_definitions.specs.EdgeReference.{wall_manifold, wall_edge, point_as_it_is, placed_face}
use Rattle.contact_definitions.specs.EdgeReference.{face_manifold, edge_manifold_on}
use Rattle.contact_definitions.specs.B2CollideEdge.{circle_at_end, circle_at_wall, over_before, over_after}
use Rattle.contact_definitions.specs.B2CollideEdge.{edge_circle_answer, edge_polygon_manifold}
use Rattle.contact_definitions.specs.B2CollideEdge.{b2_collide_edge_and_circle, b2_collide_edge_and_polygon}
use Rattle.contact_definitions.proofs.Counts.{either, sides_few}
use Rattle.contact_definitions.proofs.OutlineCircle.{at_outline}
use Rattle.contact_definitions.proofs.Unwritten.{local_point_written, count_written, kind_written, one_written}
use Rattle.contact_definitions.proofs.Unwritten.{ends_written}

-- ---- the points of ends
outline_points : (named : B2contactId → B2contactId) (xf : B2Transform) (p : B2manifoldPoint) (end : B2clipVertex)
    → unwritten (outline_point named xf p end) ≡ unwritten p
unfolding outline_point
outline_points named xf p end = local_point_written p _ _

frame_points : (xf : B2Transform) (p : B2manifoldPoint) (end : B2clipVertex)
    → unwritten (point_in_frame xf p end) ≡ unwritten p
unfolding point_in_frame
frame_points xf p end = local_point_written p _ _

wall_points : (p : B2manifoldPoint) (end : B2clipVertex) → unwritten (point_as_it_is p end) ≡ unwritten p
unfolding point_as_it_is
wall_points p end = local_point_written p _ _

module _ (old : B2manifold) (given : AsGiven old old) where
  abbrev Kept : B2manifold → Type 0
  Kept m = AsGiven old m

  abbrev Keeps : ManifoldAnswer → Type 0
  Keeps answer = Kept answer.manifold

  abbrev none : B2manifold
  none = with_count old 0

  none_kept : Kept none
  none_kept = count_written old old 0 given

  -- ---- a circle against an outline, and against a wall
  module _ (c : B2vec2) (radius : Float) (centre : B2vec2) where
    on_outline : (poly : B2polygonShape) → Kept (polygon_circle_manifold none poly c radius centre)
    on_outline poly =
        at_outline Kept none c radius centre none_kept poly
        (one_written old none EFaceA _ _ centre default_id none_kept)
        (one_written old none EFaceA _ _ centre default_id none_kept)
        (one_written old none EFaceA _ _ centre default_id none_kept)

    at_end : (end : B2vec2) (index : ℕ) (over_neighbour : Bool)
        → Kept (circle_at_end none end index over_neighbour c radius centre)
    unfolding circle_at_end
    at_end end index over_neighbour =
        either Kept (farther radius c end) _ _ none_kept
        (either Kept over_neighbour _ _ none_kept (one_written old none ECircles origin end centre _ none_kept))

    at_wall : (a b : B2vec2) (u v den offset : Float) → Kept (circle_at_wall none a b u v den offset c radius centre)
    unfolding circle_at_wall
    at_wall a b u v den offset =
        either Kept (farther radius c (b2_scale (div binary32 one32 den) (b2_add (b2_scale u a) (b2_scale v b)))) _ _
        none_kept (one_written old none EFaceA _ a centre _ none_kept)

    edge_circle : (edge : B2edgeShape) → Keeps (edge_circle_answer old edge c radius centre)
    unfolding edge_circle_answer
    edge_circle edge =
        let a = edge.m_vertex1 in
        let b = edge.m_vertex2 in
        let e = b2_sub b a in
        either Keeps (edge.m_one_sided && lt (b2_dot (right_of e) (b2_sub c a)) zero32) _ _ none_kept
        (either Keeps (le (b2_dot e (b2_sub c a)) zero32) _ _ (at_end a 0 (over_before edge c))
        (either Keeps (le (b2_dot e (b2_sub b c)) zero32) _ _ (at_end b 1 (over_after edge c))
        (either Keeps (lt zero32 (b2_dot e e)) _ _ (at_wall a b _ _ _ _) given)))

  -- ---- a reference face
  outlines : (m : B2manifold) (named : B2contactId → B2contactId) (total : Float) (poly1 : B2polygonShape)
      (xf1 : B2Transform) (edge1 : ℕ) (poly2 : B2polygonShape) (xf2 : B2Transform)
      → Kept m → Kept (outline_manifold m named total poly1 xf1 edge1 poly2 xf2)
  unfolding outline_manifold
  outlines m named total poly1 xf1 edge1 poly2 xf2 h =
      ends_written old m _ _ _ _ _ h (outline_points named xf2)
      (sides_few (outline_face total poly1 xf1 edge1) (b2_find_incident_edge poly1 xf1 edge1 poly2 xf2))

  on_axis : (axis : Axis) (total : Float) (polyA : B2polygonShape) (xfA : B2Transform) (polyB : B2polygonShape)
      (xfB : B2Transform) → Kept (manifold_on axis none total polyA xfA polyB xfB)
  on_axis (Apart s) total polyA xfA polyB xfB = none_kept
  on_axis (FaceA s x y i) total polyA xfA polyB xfB =
      outlines (with_kind none EFaceA) (λ id. id) total polyA xfA i polyB xfB (kind_written old none EFaceA none_kept)
  on_axis (FaceB s x y i) total polyA xfA polyB xfB =
      outlines (with_kind none EFaceB) swapped_id total polyB xfB i polyA xfA (kind_written old none EFaceB none_kept)

  on_edge_axis : (axis : Axis) (edge : B2edgeShape) (edge1 : B2vec2) (xf : B2Transform) (poly : B2polygonShape)
      (radius : Float) → Kept (edge_manifold_on axis none edge edge1 xf poly radius)
  unfolding wall_manifold face_manifold
  on_edge_axis (Apart s) edge edge1 xf poly radius = none_kept
  on_edge_axis (FaceA s x y i) edge edge1 xf poly radius =
      let normal = vec2 x y in
      ends_written old (with_kind none EFaceA) _ _ _ _ _ (kind_written old none EFaceA none_kept) (frame_points xf)
      (sides_few (face_between 0 1 edge.m_vertex1 edge.m_vertex2 normal (b2_neg edge1) edge1)
      (outline_edge xf poly (most_against xf poly normal)))
  on_edge_axis (FaceB s x y i) edge edge1 xf poly radius =
      ends_written old (with_kind none EFaceB) _ _ _ _ _ (kind_written old none EFaceB none_kept) wall_points
      (sides_few (placed_face xf poly i) (wall_edge edge i))

  edge_polygon : (edge : B2edgeShape) (xf : B2Transform) (poly : B2polygonShape)
      → Kept (edge_polygon_manifold none edge xf poly)
  unfolding edge_polygon_manifold
  edge_polygon edge xf poly =
      let edge1 = unit_or_same (b2_normalize (b2_sub edge.m_vertex2 edge.m_vertex1)) in
      let radius = add binary32 poly.m_radius edge.m_radius in
      let centroid = b2_mul_transform_by_vec2 xf poly.m_centroid in
      let offset1 = b2_dot (right_of edge1) (b2_sub centroid edge.m_vertex1) in
      either Kept (edge.m_one_sided && lt offset1 zero32) _ _ none_kept
      (on_edge_axis (edge_polygon_axis radius edge edge1 xf poly) edge edge1 xf poly radius)

  -- ---- the calls, their refusals first
  unless_wrong : (wrong : Bool) (answer : ManifoldAnswer) → Keeps answer → Keeps (unless_miscounted wrong old answer)
  unless_wrong wrong answer h = either Keeps wrong _ _ given h

  module _ (xfA xfB : B2Transform) where
    where_ranged : (shapes : Bool) (answer : ManifoldAnswer) → Keeps answer
        → Keeps (where_in_range shapes xfA xfB old answer)
    where_ranged shapes answer h =
        either Keeps (not shapes) _ _ given
        (either Keeps (not (transform_in_range xfA && transform_in_range xfB)) _ _ given h)

    pub circles_keep : (circleA circleB : B2circleShape) → Keeps (b2_collide_circles old circleA xfA circleB xfB)
    unfolding b2_collide_circles circles_manifold
    circles_keep circleA circleB =
        where_ranged (circle_in_range circleA && circle_in_range circleB) _
        (either Kept (farther (add binary32 circleA.m_radius circleB.m_radius)
        (b2_mul_transform_by_vec2 xfB circleB.m_p) (b2_mul_transform_by_vec2 xfA circleA.m_p)) _ _ none_kept
        (one_written old none ECircles origin circleA.m_p circleB.m_p default_id none_kept))

    pub polygon_and_circle_keep : (polyA : B2polygonShape) (circleB : B2circleShape)
        → Keeps (b2_collide_polygon_and_circle old polyA xfA circleB xfB)
    unfolding b2_collide_polygon_and_circle
    polygon_and_circle_keep polyA circleB =
        unless_wrong (miscounted polyA.m_count) _
        (where_ranged (polygon_in_range polyA && circle_in_range circleB) _ (on_outline _ _ circleB.m_p polyA))

    pub edge_and_circle_keep : (edgeA : B2edgeShape) (circleB : B2circleShape)
        → Keeps (b2_collide_edge_and_circle old edgeA xfA circleB xfB)
    unfolding b2_collide_edge_and_circle
    edge_and_circle_keep edgeA circleB =
        where_ranged (edge_in_range edgeA && circle_in_range circleB) _ (edge_circle _ _ circleB.m_p edgeA)

    pub polygons_keep : (polyA polyB : B2polygonShape) → Keeps (b2_collide_polygons old polyA xfA polyB xfB)
    unfolding b2_collide_polygons polygons_manifold
    polygons_keep polyA polyB =
        let total = add binary32 polyA.m_radius polyB.m_radius in
        unless_wrong (miscounted polyA.m_count || miscounted polyB.m_count) _
        (where_ranged (polygon_in_range polyA && polygon_in_range polyB) _
        (on_axis (polygons_axis total polyA xfA polyB xfB) total polyA xfA polyB xfB))

    pub edge_and_polygon_keep : (edgeA : B2edgeShape) (polyB : B2polygonShape)
        → Keeps (b2_collide_edge_and_polygon old edgeA xfA polyB xfB)
    unfolding b2_collide_edge_and_polygon
    edge_and_polygon_keep edgeA polyB =
        unless_wrong (miscounted polyB.m_count) _
        (where_ranged (edge_in_range edgeA && polygon_in_range polyB) _
        (edge_polygon edgeA (b2_mul_t_transform xfA xfB) polyB))
