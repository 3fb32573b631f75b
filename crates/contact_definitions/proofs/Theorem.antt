-- The headline laws of contacts, for every old manifold. Of every input that a call does not refuse: at most two points
-- are counted; where an outline pair or a wall and an outline report a point, the kind is face A or face B. Of every
-- input: impulses and ages of the points stay; an outline against a circle is document 01's but for the normal at a
-- corner without a length; and a clip never leaves three ends. Bodies only cite. Assumes nothing.
use mathlib.Core.Path.{◌≡◌, refl}
use mathlib.Core.List.{List}
use Prim.Native.Nat.{ℕ, ◌≤◌}
use lib.ListN.{length}
use lib.Ieee.{Float}
use Rattle.floats.specs.declared.b2_math.B2vec2.{B2vec2}
use Rattle.floats.specs.declared.b2_math.B2Transform.{B2Transform}
use Rattle.shape_definitions.specs.declared.b2_circle_shape.B2circleShape.{B2circleShape}
use Rattle.shape_definitions.specs.declared.b2_polygon_shape.B2polygonShape.{B2polygonShape}
use Rattle.shape_definitions.specs.declared.b2_edge_shape.B2edgeShape.{B2edgeShape}
use Rattle.contact_definitions.specs.declared.b2_collision.B2manifold.{B2manifold}
use Rattle.contact_definitions.specs.declared.b2_collision.B2clipVertex.{B2clipVertex}
use Rattle.contact_definitions.specs.Clip.{b2_clip_segment_to_line}
use Rattle.contact_definitions.specs.B2CollideCircle.{b2_collide_circles}
use Rattle.contact_definitions.specs.B2CollideCircle.{b2_collide_polygon_and_circle}
use Rattle.contact_definitions.specs.B2CollidePolygon.{b2_collide_polygons}
use Rattle.contact_definitions.specs.B2CollideEdge.{b2_collide_edge_and_circle}
use Rattle.contact_definitions.specs.B2CollideEdge.{b2_collide_edge_and_polygon}
use Rattle.contact_definitions.proofs.Counts.{Few, OnFace, Accepted, either}
use Rattle.contact_definitions.proofs.Clipping.{never_three}
use native.Mathlib.Omega.{arith}
use mathlib.Core.Bool.{not}
use Rattle.algebra.specs.Buffer.{over}
use Rattle.shape_definitions.specs.Refusal.{accepted, contact_out_of_range}
use Rattle.contact_definitions.specs.Answers.{ClipAnswer}
use Rattle.contact_definitions.specs.Clip.{clipped, clip_in_range}
use Rattle.contact_definitions.proofs.CircleCounts.{circles_few, polygon_circle_few, edge_circle_few}
use Rattle.contact_definitions.proofs.FaceCounts.{polygons_on_face, edge_polygon_on_face}
use Rattle.contact_definitions.specs.Unwritten.{AsGiven, CallsLeave}
use Rattle.contact_definitions.specs.CircleNormals.{OnlyTheNormal}
use Rattle.contact_definitions.proofs.CircleNormals.{mended}
use Rattle.contact_definitions.proofs.UnwrittenCalls.{circles_keep, polygon_and_circle_keep, polygons_keep}
use Rattle.contact_definitions.proofs.UnwrittenCalls.{edge_and_circle_keep, edge_and_polygon_keep}

-- ---- at most two points are counted
module _ (old : B2manifold) (xfA xfB : B2Transform) where
  pub circles_count : (circleA circleB : B2circleShape) → Accepted Few (b2_collide_circles old circleA xfA circleB xfB)
  circles_count circleA circleB = circles_few old circleA xfA circleB xfB

  pub polygon_and_circle_count : (polyA : B2polygonShape) (circleB : B2circleShape)
      → Accepted Few (b2_collide_polygon_and_circle old polyA xfA circleB xfB)
  polygon_and_circle_count polyA circleB = polygon_circle_few old polyA xfA circleB xfB

  pub edge_and_circle_count : (edgeA : B2edgeShape) (circleB : B2circleShape)
      → Accepted Few (b2_collide_edge_and_circle old edgeA xfA circleB xfB)
  edge_and_circle_count edgeA circleB = edge_circle_few old edgeA xfA circleB xfB

  -- ---- and where there is one, the kind is face A or face B
  pub polygons_count_and_kind : (polyA polyB : B2polygonShape)
      → Accepted OnFace (b2_collide_polygons old polyA xfA polyB xfB)
  polygons_count_and_kind polyA polyB = polygons_on_face old polyA xfA polyB xfB

  pub edge_and_polygon_count_and_kind : (edgeA : B2edgeShape) (polyB : B2polygonShape)
      → Accepted OnFace (b2_collide_edge_and_polygon old edgeA xfA polyB xfB)
  edge_and_polygon_count_and_kind edgeA polyB = edge_polygon_on_face old edgeA xfA polyB xfB

-- ---- the impulses and the age of each point stay
pub calls_leave : (old : B2manifold) → length old.points ≡ 2 → (xfA xfB : B2Transform) → CallsLeave old xfA xfB
calls_leave old two xfA xfB =
    let given : AsGiven old old = record { two = two; kept = refl } in
    record {
      circles = circles_keep old given xfA xfB;
      polygon_and_circle = polygon_and_circle_keep old given xfA xfB;
      polygons = polygons_keep old given xfA xfB;
      edge_and_circle = edge_and_circle_keep old given xfA xfB;
      edge_and_polygon = edge_and_polygon_keep old given xfA xfB;
    }

-- ---- outline against circle, beside document 01
pub only_the_normal : (old : B2manifold) (poly : B2polygonShape) (c : B2vec2) (radius : Float) (centre : B2vec2)
    → OnlyTheNormal old poly c radius centre
only_the_normal old poly c radius centre = mended old c radius centre poly

-- ---- a clip never leaves three ends: a refused one counts none
pub clip_count : (old ends : List B2clipVertex) (normal : B2vec2) (offset : Float) (index : ℕ)
    → (b2_clip_segment_to_line old ends normal offset index).count ≤ 2
unfolding b2_clip_segment_to_line
clip_count old ends normal offset index =
    let left = clipped ends normal offset index in
    let refused_clip : ClipAnswer = record { points = old; count = 0; refusal = contact_out_of_range } in
    let accepted_clip : ClipAnswer = record { points = over left old; count = length left; refusal = accepted } in
    either (λ (a : ClipAnswer). a.count ≤ 2) (not (clip_in_range ends normal offset)) refused_clip accepted_clip
    (omega arith) (never_three ends normal offset index)
