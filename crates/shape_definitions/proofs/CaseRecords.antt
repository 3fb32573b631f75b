-- Whole answers, the vocabulary of the closed cases: what the call sets by its bits, and what it keeps as the given
-- shape's own. Definitions only.
use mathlib.Core.Bool.{Bool}
use mathlib.Core.List.{List, ◌++◌}
use Prim.Native.Nat.{ℕ}
use lib.ListN.{length, drop}
use Rattle.floats.specs.declared.b2_math.B2vec2.{B2vec2}
use Rattle.shape_definitions.specs.declared.b2_polygon_shape.B2polygonShape.{B2polygonShape}
use Rattle.shape_definitions.specs.declared.b2_polygon_shape.PolygonAnswer.{PolygonAnswer}
use Rattle.shape_definitions.specs.Answers.{ValidateAnswer}
use Rattle.shape_definitions.specs.declared.b2_edge_shape.B2edgeShape.{B2edgeShape}
use Rattle.shape_definitions.specs.Answers.{EdgeAnswer}

-- ---- outlines: turned down with a number, or accepted with a centroid, corners and their normals
abbrev pub turned_down : ℕ → B2polygonShape → PolygonAnswer
turned_down number old = record { refusal = number; shape = old }

abbrev pub made : B2polygonShape → B2vec2 → List B2vec2 → List B2vec2 → PolygonAnswer
made old centroid corners normals = record {
  refusal = 0;
  shape = record {
    m_radius = old.m_radius;
    m_centroid = centroid;
    m_vertices = corners ++ drop (length corners) old.m_vertices;
    m_normals = normals ++ drop (length corners) old.m_normals;
    m_count = length corners;
  };
}

abbrev pub tested : ℕ → Bool → ValidateAnswer
tested number convex = record { refusal = number; valid = convex }

-- ---- walls
abbrev pub wall_turned_down : ℕ → B2edgeShape → EdgeAnswer
wall_turned_down number old = record { refusal = number; shape = old }

abbrev pub wall_made : B2edgeShape → Bool → B2vec2 → B2vec2 → B2vec2 → B2vec2 → EdgeAnswer
wall_made old one_sided v0 v1 v2 v3 = record {
  refusal = 0;
  shape = record {
    m_radius = old.m_radius;
    m_vertex0 = v0;
    m_vertex1 = v1;
    m_vertex2 = v2;
    m_vertex3 = v3;
    m_one_sided = one_sided;
  };
}
