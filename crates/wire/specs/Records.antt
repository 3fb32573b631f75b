-- What requests hold, at word i: floats are their bits, a point is x then y; an outline (POLY in docs/TEST_CALLS.md) is
-- radius, centroid, count, eight vertices and eight normals, 36 words; a wall (EDGE) is radius, flag and four vertices,
-- 10 words. Definitions only.
use Rattle.std.specs.Prelude.{ℕ, ◌+◌, ◌*◌, Bool, List, ltb, eqb, Float}
use Rattle.floats.specs.declared.b2_math.B2vec2.{B2vec2}
use Rattle.floats.specs.declared.b2_math.B2Rot.{B2Rot}
use Rattle.shape_definitions.specs.declared.b2_polygon_shape.B2polygonShape.{B2polygonShape}
use Rattle.shape_definitions.specs.declared.b2_edge_shape.B2edgeShape.{B2edgeShape}
use Rattle.lines.specs.Fields as Fields
use Rattle.wire.specs.Words.{word_at}

abbrev pub float_at : List ℕ → ℕ → Float
float_at request i = Fields.float_at request (4 * i)

abbrev pub vector_at : List ℕ → ℕ → B2vec2
vector_at request i = Fields.vector_at request (4 * i)

abbrev pub points_at : List ℕ → ℕ → ℕ → List B2vec2
points_at request i n = Fields.points_at request (4 * i) n

abbrev pub rotation_at : List ℕ → ℕ → B2Rot
rotation_at request i = Fields.rotation_at request (4 * i)

unfoldable pub polygon_at : List ℕ → ℕ → B2polygonShape
polygon_at request i = record {
  m_radius = float_at request i;
  m_centroid = vector_at request (i + 1);
  m_vertices = points_at request (i + 4) 8;
  m_normals = points_at request (i + 20) 8;
  m_count = word_at request (i + 3);
}

unfoldable pub edge_at : List ℕ → ℕ → B2edgeShape
edge_at request i = record {
  m_radius = float_at request i;
  m_vertex0 = vector_at request (i + 2);
  m_vertex1 = vector_at request (i + 4);
  m_vertex2 = vector_at request (i + 6);
  m_vertex3 = vector_at request (i + 8);
  m_one_sided = eqb (word_at request (i + 1)) 1;
}

-- the word of a wall's flag is one
abbrev pub edge_known : List ℕ → ℕ → Bool
edge_known request i = ltb (word_at request (i + 1)) 2
