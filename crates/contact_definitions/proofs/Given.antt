-- What the closed cases are given: numbers, placements, circles, boxes, walls, and a manifold and a world
-- record with another number in each field. Definitions only.
use mathlib.Core.Bool.{true, false}
use mathlib.Core.List.{List, [], ◌∷◌}
use Prim.Native.Nat.{ℕ}
use lib.Ieee.{Float, nan}
use Rattle.rounding.specs.Literals.{zero32, one32}
use Rattle.floats.specs.declared.b2_math.B2vec2.{B2vec2}
use Rattle.floats.specs.declared.b2_math.B2Transform.{B2Transform}
use Rattle.floats.specs.B2Common.{b2_polygon_radius}
use Rattle.floats.specs.B2Math.{vec2, rot}
use Rattle.floats.proofs.BitPatterns.{float}
use Rattle.shape_definitions.specs.declared.b2_circle_shape.B2circleShape.{B2circleShape}
use Rattle.shape_definitions.specs.declared.b2_polygon_shape.B2polygonShape.{B2polygonShape}
use Rattle.shape_definitions.specs.declared.b2_edge_shape.B2edgeShape.{B2edgeShape}
use Rattle.shape_definitions.specs.Outline.{origin}
use Rattle.shape_definitions.specs.Boxes.{box_corners, box_normals}
use Rattle.contact_definitions.specs.declared.b2_collision.B2contactId.{B2contactId}
use Rattle.contact_definitions.specs.declared.b2_collision.B2manifoldPoint.{B2manifoldPoint}
use Rattle.contact_definitions.specs.declared.b2_collision.B2manifoldType.{B2manifoldType}
use Rattle.contact_definitions.specs.declared.b2_collision.B2manifold.{B2manifold}
use Rattle.contact_definitions.specs.declared.b2_collision.B2worldManifold.{B2worldManifold}
use Rattle.contact_definitions.specs.Manifold.{contact_id}
use Rattle.contact_definitions.proofs.Numbers.{+1, +2, +3, +4, +5, +6, +7, +8, +9, +10, +11, +12}
use Rattle.contact_definitions.proofs.Numbers.{+17, +18, +19, +20}

-- ---- 0.6 and 0.8, rounded
abbrev pub six_tenths : Float
six_tenths = float 0x3f19_999a

abbrev pub eight_tenths : Float
eight_tenths = float 0x3f4c_cccd

-- ---- placements and shapes
abbrev pub placed : Float → Float → Float → Float → B2Transform
placed x y s c = record { p = vec2 x y; q = rot s c }

abbrev pub moved : Float → Float → B2Transform
moved x y = placed x y zero32 one32

abbrev pub unmoved : B2Transform
unmoved = moved zero32 zero32

abbrev pub circle : Float → B2vec2 → B2circleShape
circle radius centre = record { m_radius = radius; m_p = centre }

-- a box by its half-widths, by its radius too, and by the number of corners that it counts
abbrev pub counting_box : ℕ → Float → Float → Float → B2polygonShape
counting_box n radius hx hy = record {
  m_radius = radius;
  m_centroid = origin;
  m_vertices = box_corners hx hy;
  m_normals = box_normals;
  m_count = n;
}

abbrev pub thick_box : Float → Float → Float → B2polygonShape
thick_box radius hx hy = counting_box 4 radius hx hy

abbrev pub box : Float → Float → B2polygonShape
box hx hy = thick_box b2_polygon_radius hx hy

-- a triangle of the radius, with its corners and normals
abbrev pub triangle : Float → B2vec2 → List B2vec2 → List B2vec2 → B2polygonShape
triangle radius centroid corners normals = record {
  m_radius = radius;
  m_centroid = centroid;
  m_vertices = corners;
  m_normals = normals;
  m_count = 3;
}

-- a wall from v1 to v2; the ghost points of a two-sided one are NaN
abbrev pub one_sided : B2vec2 → B2vec2 → B2vec2 → B2vec2 → B2edgeShape
one_sided v0 v1 v2 v3 = record {
  m_radius = b2_polygon_radius;
  m_vertex0 = v0;
  m_vertex1 = v1;
  m_vertex2 = v2;
  m_vertex3 = v3;
  m_one_sided = true;
}

abbrev pub thick_wall : Float → B2vec2 → B2vec2 → B2edgeShape
thick_wall radius v1 v2 = record {
  m_radius = radius;
  m_vertex0 = vec2 nan nan;
  m_vertex1 = v1;
  m_vertex2 = v2;
  m_vertex3 = vec2 nan nan;
  m_one_sided = false;
}

abbrev pub two_sided : B2vec2 → B2vec2 → B2edgeShape
two_sided v1 v2 = thick_wall b2_polygon_radius v1 v2

-- ---- manifolds: a kind, a count, normal, point, and two points. The impulses are 3, 4 and 11, 12, the ages 5 and 13,
-- given and kept
abbrev pub first : B2vec2 → B2contactId → B2manifoldPoint
first v id = record {
  local_point = v;
  normal_impulse = +3;
  tangent_impulse = +4;
  id = id;
  age = 5;
}

abbrev pub second : B2vec2 → B2contactId → B2manifoldPoint
second v id = record {
  local_point = v;
  normal_impulse = +11;
  tangent_impulse = +12;
  id = id;
  age = 13;
}

abbrev pub after : B2manifoldType → ℕ → B2vec2 → B2vec2 → B2manifoldPoint → B2manifoldPoint → B2manifold
after kind count normal point p q = record {
  points = p ∷ q ∷ [];
  local_normal = normal;
  local_point = point;
  manifold_type = kind;
  point_count = count;
}

-- the local points (1, 2) and (9, 10)
abbrev pub kept_first : B2manifoldPoint
kept_first = first (vec2 +1 +2) (contact_id 5 6 7 8)

abbrev pub kept_second : B2manifoldPoint
kept_second = second (vec2 +9 +10) (contact_id 13 14 15 16)

-- given: two points, the normal (17, 18) and the point (19, 20); and the same without a point
abbrev pub given : B2manifoldType → B2manifold
given kind = after kind 2 (vec2 +17 +18) (vec2 +19 +20) kept_first kept_second

abbrev pub no_point : B2manifoldType → B2manifold
no_point kind = after kind 0 (vec2 +17 +18) (vec2 +19 +20) kept_first kept_second

-- ---- world records: a normal, two points and their separations; given: (1, 2), (3, 4), (5, 6), 7 and 8
abbrev pub world_after : B2vec2 → B2vec2 → B2vec2 → Float → Float → B2worldManifold
world_after normal p q s t = record { normal = normal; points = p ∷ q ∷ []; separations = s ∷ t ∷ [] }

abbrev pub given_world : B2worldManifold
given_world = world_after (vec2 +1 +2) (vec2 +3 +4) (vec2 +5 +6) +7 +8
