-- Answers of the calls that make shapes, as words: floats by their bits, and records laid out as in requests.
-- Definitions only.
use Rattle.std.specs.Prelude.{ℕ, ◌%◌, Bool, cond, List, [], ◌∷◌, ◌++◌, Float}
use Rattle.std.specs.Float.{binary32}
use Rattle.std.specs.Float.Ieee.{to_bits}
use Rattle.floats.specs.declared.b2_math.B2vec2.{B2vec2}
use Rattle.shape_definitions.specs.declared.b2_polygon_shape.B2polygonShape.{B2polygonShape}
use Rattle.shape_definitions.specs.declared.b2_edge_shape.B2edgeShape.{B2edgeShape}

abbrev pub bits : Float → ℕ
bits x = to_bits binary32 x

abbrev pub flag : Bool → ℕ
flag b = cond b 1 0

-- the low word of a count: all of it, where it came from a word
abbrev pub low_word : ℕ → ℕ
low_word n = n % 4294967296

unfoldable pub points_words : List B2vec2 → List ℕ
points_words [] = []
points_words (p ∷ ps) = bits p.x ∷ bits p.y ∷ points_words ps

unfoldable pub polygon_words : B2polygonShape → List ℕ
polygon_words s =
    bits s.m_radius ∷ bits s.m_centroid.x ∷ bits s.m_centroid.y ∷ low_word s.m_count
    ∷ points_words s.m_vertices ++ points_words s.m_normals

unfoldable pub edge_words : B2edgeShape → List ℕ
edge_words s =
    bits s.m_radius ∷ flag s.m_one_sided
    ∷ points_words (s.m_vertex0 ∷ s.m_vertex1 ∷ s.m_vertex2 ∷ s.m_vertex3 ∷ [])
