-- Walls, b2_set_one_sided and b2_set_two_sided: the radius is kept, and by the second the ghost points too. Refusal 2.
-- And which numbers of a given wall a call takes (document 01, "Ranges"). Definitions only.
use Rattle.std.specs.Prelude.{Bool, true, false, not, cond, ◌&&◌, ◌||◌}
use Rattle.floats.specs.declared.b2_math.B2vec2.{B2vec2}
use Rattle.floats.specs.Ranges.{point_in_range, radius_in_range}
use Rattle.shape_definitions.specs.declared.b2_edge_shape.B2edgeShape.{B2edgeShape}
use Rattle.shape_definitions.specs.Answers.{EdgeAnswer}
use Rattle.shape_definitions.specs.Refusal.{accepted, shape_out_of_range}

abbrev pub wall : B2edgeShape → Bool → B2vec2 → B2vec2 → B2vec2 → B2vec2 → EdgeAnswer
wall old one_sided v0 v1 v2 v3 = record {
  refusal = accepted;
  shape = record {
    m_radius = old.m_radius;
    m_vertex0 = v0;
    m_vertex1 = v1;
    m_vertex2 = v2;
    m_vertex3 = v3;
    m_one_sided = one_sided;
  };
}

abbrev pub wall_refused : B2edgeShape → EdgeAnswer
wall_refused old = record { refusal = shape_out_of_range; shape = old }

unfoldable pub b2_set_one_sided : B2edgeShape → B2vec2 → B2vec2 → B2vec2 → B2vec2 → EdgeAnswer
b2_set_one_sided old v0 v1 v2 v3 =
    cond (point_in_range v0 && point_in_range v1 && point_in_range v2 && point_in_range v3)
    (wall old true v0 v1 v2 v3) (wall_refused old)

unfoldable pub b2_set_two_sided : B2edgeShape → B2vec2 → B2vec2 → EdgeAnswer
b2_set_two_sided old v1 v2 =
    cond (point_in_range v1 && point_in_range v2)
    (wall old false old.m_vertex0 v1 v2 old.m_vertex3) (wall_refused old)

-- ghost points count only where the wall is one-sided
unfoldable pub edge_in_range : B2edgeShape → Bool
edge_in_range edge =
    radius_in_range edge.m_radius && point_in_range edge.m_vertex1 && point_in_range edge.m_vertex2
    && (not edge.m_one_sided || point_in_range edge.m_vertex0 && point_in_range edge.m_vertex3)
