-- Document 01, "Fields that the Rust does not write keep their old bits, impulses too", and document 02, request 06,
-- "The five contact functions set nothing in it", the age: what a call leaves of each point. Definitions only.
use Rattle.std.specs.Prelude.{◌≡◌, map, ℕ, length, Float}
use Rattle.floats.specs.declared.b2_math.B2Transform.{B2Transform}
use Rattle.shape_definitions.specs.declared.b2_circle_shape.B2circleShape.{B2circleShape}
use Rattle.shape_definitions.specs.declared.b2_edge_shape.B2edgeShape.{B2edgeShape}
use Rattle.shape_definitions.specs.declared.b2_polygon_shape.B2polygonShape.{B2polygonShape}
use Rattle.contact_definitions.specs.declared.b2_collision.B2manifoldPoint.{B2manifoldPoint}
use Rattle.contact_definitions.specs.declared.b2_collision.B2manifold.{B2manifold}
use Rattle.contact_definitions.specs.B2CollideCircle.{b2_collide_circles, b2_collide_polygon_and_circle}
use Rattle.contact_definitions.specs.B2CollidePolygon.{b2_collide_polygons}
use Rattle.contact_definitions.specs.B2CollideEdge.{b2_collide_edge_and_circle, b2_collide_edge_and_polygon}

-- the fields of a point that no contact call writes: the impulses and the age
abbrev pub unwritten : B2manifoldPoint → Float × Float × ℕ
unwritten p = (p.normal_impulse, p.tangent_impulse, p.age)

-- a manifold has them as the given one had, at both places, whatever it counts
pub record AsGiven (old m : B2manifold) : Type 0 where
  pub two : length m.points ≡ 2
  pub kept : map unwritten m.points ≡ map unwritten old.points

-- the five contact calls, refused ones too
pub record CallsLeave (old : B2manifold) (xfA xfB : B2Transform) : Type 0 where
  pub circles : (circleA circleB : B2circleShape)
      → AsGiven old (b2_collide_circles old circleA xfA circleB xfB).manifold
  pub polygon_and_circle : (polyA : B2polygonShape) (circleB : B2circleShape)
      → AsGiven old (b2_collide_polygon_and_circle old polyA xfA circleB xfB).manifold
  pub polygons : (polyA polyB : B2polygonShape)
      → AsGiven old (b2_collide_polygons old polyA xfA polyB xfB).manifold
  pub edge_and_circle : (edgeA : B2edgeShape) (circleB : B2circleShape)
      → AsGiven old (b2_collide_edge_and_circle old edgeA xfA circleB xfB).manifold
  pub edge_and_polygon : (edgeA : B2edgeShape) (polyB : B2polygonShape)
      → AsGiven old (b2_collide_edge_and_polygon old edgeA xfA polyB xfB).manifold
