-- Outlines given by their corners, normals and counts, as the axis search takes them; and what its answer says of the
-- face that it names. Definitions only.
use Rattle.std.specs.Prelude.{◌≡◌, List, ℕ, ◌<◌}
use Rattle.floats.specs.declared.b2_math.B2vec2.{B2vec2}
use Rattle.floats.specs.B2Math.{vec2}
use Rattle.rounding.specs.Literals.{zero32}
use Rattle.shape_definitions.specs.declared.b2_polygon_shape.B2polygonShape.{B2polygonShape}
use Rattle.shape_definitions.specs.Outline.{origin, point_at}
use Rattle.contact_definitions.specs.declared.axis.Axis.{Axis}
use Rattle.contact_definitions.specs.declared.axis.Axis.TheVariants.{Apart, FaceA, FaceB}

-- the outline of these corners and normals; its centroid and skin are not looked at
abbrev pub outlined : List B2vec2 → List B2vec2 → ℕ → B2polygonShape
outlined vs ns count = record {
  m_centroid = origin;
  m_vertices = vs;
  m_normals = ns;
  m_count = count;
  m_radius = zero32;
}

-- the face is one of its outline's, and the normal is its own
abbrev pub Placed : List B2vec2 → ℕ → List B2vec2 → ℕ → Axis → Type 0
Placed na ca nb cb (Apart s) = Unit {0}
Placed na ca nb cb (FaceA s x y i) = (i < ca) × (vec2 x y ≡ point_at na i)
Placed na ca nb cb (FaceB s x y i) = (i < cb) × (vec2 x y ≡ point_at nb i)
