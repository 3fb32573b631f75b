-- Document 01, "The touch record": the state. Eight bodies, ids 00 to 07, and for each ordered pair of them what its
-- last accepted test left: the ids of its contact points, their ages (document 02, request 06), and its touches; of a
-- chain (request 03) so for each piece. Definitions only.
use Rattle.std.specs.Prelude.{ℕ, zero, suc, ◌+◌, ◌*◌, ◌-◌, ◌^◌, min, true, false, cond, List, eqb, get_or, set, replicate}
use Rattle.rounding.specs.Literals.{zero32, one32}
use Rattle.floats.specs.declared.b2_math.B2Transform.{B2Transform}
use Rattle.floats.specs.B2Common.{b2_polygon_radius}
use Rattle.floats.specs.B2Math.{rot}
use Rattle.shape_definitions.specs.declared.b2_circle_shape.B2circleShape.{B2circleShape}
use Rattle.shape_definitions.specs.declared.b2_edge_shape.B2edgeShape.{B2edgeShape}
use Rattle.shape_definitions.specs.declared.b2_polygon_shape.B2polygonShape.{B2polygonShape}
use Rattle.shape_definitions.specs.Outline.{origin, point_at}
use Rattle.contact_definitions.specs.Manifold.{default_id}
use Rattle.record_definitions.specs.declared.world.Body.{Body}
use Rattle.record_definitions.specs.declared.world.Chain.{Chain}
use Rattle.record_definitions.specs.declared.world.Kept.{Kept}
use Rattle.record_definitions.specs.declared.world.Pair.{Pair}
use Rattle.record_definitions.specs.declared.world.World.{World}

-- ---- bodies: the kind is that of the frame that defines the shape, 0 where there is none
abbrev pub no_body : ℕ
no_body = 0

abbrev pub circle_kind : ℕ
circle_kind = 1

abbrev pub outline_kind : ℕ
outline_kind = 2

abbrev pub wall_kind : ℕ
wall_kind = 3

abbrev pub chain_kind : ℕ
chain_kind = 7

-- a new shape is placed at the origin, unturned
abbrev pub at_origin : B2Transform
at_origin = record { p = origin; q = rot zero32 one32 }

abbrev pub blank_circle : B2circleShape
blank_circle = record { m_radius = zero32; m_p = origin }

-- outlines and walls have the skin B2_POLYGON_RADIUS
abbrev pub blank_outline : B2polygonShape
blank_outline = record {
  m_radius = b2_polygon_radius;
  m_centroid = origin;
  m_vertices = replicate 8 origin;
  m_normals = replicate 8 origin;
  m_count = 0;
}

abbrev pub blank_wall : B2edgeShape
blank_wall = record {
  m_radius = b2_polygon_radius;
  m_vertex0 = origin;
  m_vertex1 = origin;
  m_vertex2 = origin;
  m_vertex3 = origin;
  m_one_sided = false;
}

-- places for the point before, eight points and the point after
abbrev pub blank_chain : Chain
blank_chain = record { points = replicate 10 origin; count = 0 }

abbrev pub new_body : ℕ → B2circleShape → B2polygonShape → B2edgeShape → Chain → Body
new_body kind circle outline wall chain = record {
  kind = kind;
  xf = at_origin;
  circle = circle;
  outline = outline;
  wall = wall;
  chain = chain;
}

unfoldable pub blank_body : Body
blank_body = new_body no_body blank_circle blank_outline blank_wall blank_chain

unfoldable pub circle_body : B2circleShape → Body
circle_body circle = new_body circle_kind circle blank_outline blank_wall blank_chain

unfoldable pub outline_body : B2polygonShape → Body
outline_body outline = new_body outline_kind blank_circle outline blank_wall blank_chain

unfoldable pub wall_body : B2edgeShape → Body
wall_body wall = new_body wall_kind blank_circle blank_outline wall blank_chain

unfoldable pub chain_body : Chain → Body
chain_body chain = new_body chain_kind blank_circle blank_outline blank_wall chain

-- the body at another place
unfoldable pub placed : Body → B2Transform → Body
placed body xf = record {
  kind = body.kind;
  xf = xf;
  circle = body.circle;
  outline = body.outline;
  wall = body.wall;
  chain = body.chain;
}

-- ---- pieces: a chain has one less than points, at most seven, and any other body is its own only piece
abbrev pub most_pieces : ℕ
most_pieces = 7

abbrev pub pieces_of : Body → ℕ
pieces_of body = cond (eqb body.kind chain_kind) (min (body.chain.count - 1) most_pieces) 1

-- piece i of a chain: the one-sided wall from its point i to the next, its neighbours for ghost points. The point
-- before stands at place 0
unfoldable pub piece_wall : Chain → ℕ → B2edgeShape
piece_wall chain i = record {
  m_radius = b2_polygon_radius;
  m_vertex0 = point_at chain.points i;
  m_vertex1 = point_at chain.points (i + 1);
  m_vertex2 = point_at chain.points (i + 2);
  m_vertex3 = point_at chain.points (i + 3);
  m_one_sided = true;
}

unfoldable pub piece_of : Body → ℕ → Body
piece_of body i =
    cond (eqb body.kind chain_kind) (placed (wall_body (piece_wall body.chain i)) body.xf) body

-- ---- counts of 32 bits, those of touches, of ages and of steps: one more, held at the largest
abbrev pub largest_count : ℕ
largest_count = 2 ^ 32 - 1

abbrev pub one_more : ℕ → ℕ
one_more n = min (n + 1) largest_count

-- ---- before any input: no test yet is a contact without points, and no touches
abbrev pub fresh_kept : Kept
fresh_kept = record {
  ids = record { count = 0; first = default_id; second = default_id };
  ages = record { first = 0; second = 0 };
  touches = 0;
}

unfoldable pub fresh_pair : Pair
fresh_pair = record { pieces = replicate most_pieces fresh_kept }

unfoldable pub fresh_world : World
fresh_world = record { bodies = replicate 8 blank_body; pairs = replicate 64 fresh_pair }

-- ---- looking up
abbrev pub body_at : World → ℕ → Body
body_at w id = get_or w.bodies id blank_body

-- a pair is ordered: a b and b a are two
abbrev pub pair_place : ℕ → ℕ → ℕ
pair_place a b = 8 * a + b

abbrev pub pair_at : World → ℕ → ℕ → Pair
pair_at w a b = get_or w.pairs (pair_place a b) fresh_pair

-- what a pair keeps of a piece
abbrev pub kept_of : Pair → ℕ → Kept
kept_of pair i = get_or pair.pieces i fresh_kept

-- ---- forgetting the pairs of one body, in both orders, with each partner below n
unfoldable pub forget_below : ℕ → List Pair → ℕ → List Pair
forget_below id pairs zero = pairs
forget_below id pairs (suc n) =
    set (set (forget_below id pairs n) (pair_place id n) fresh_pair) (pair_place n id) fresh_pair

abbrev pub forget : ℕ → List Pair → List Pair
forget id pairs = forget_below id pairs 8
