-- What holds of an outline that is built from a list on the grid (demand 3, for its second sentence): 3 to 8 corners
-- on the grid, and at each place the normal of the edge from its corner to the next, with the bounds N0, N1 and N2:
-- each coordinate of a normal is at most 1 + 2^-21 in size, and within 2^-22 of the edge's direction turned by a
-- quarter; its squared length is 1 within 2^-19. Lengths are whole numbers of 2^-149 m, the value 1 is `metre`, and a
-- tick is 2^-25 of it. proofs/Theorem shows it. Definitions only.
use Rattle.std.specs.Prelude.{ℕ, ◌+◌, ◌*◌, ◌^◌, ◌≤◌, ◌<◌, T, length}
use Rattle.algebra.specs.Integer.{Z, whole, opp, ◌⊞◌, ◌⊟◌, ◌⊠◌, ◌⊛◌, ◌≐◌, Abs}
use Rattle.algebra.specs.Plane.{from_to}
use Rattle.rounding.specs.Value.{metre, F32, val}
use Rattle.sqrt.specs.Root.{RelativeSquare}
use Rattle.floats.specs.declared.b2_math.B2vec2.{B2vec2}
use Rattle.floats.specs.Ranges.{radius_in_range}
use Rattle.floats.specs.NearUnit.{normal_bound, direction_error, length_error}
use Rattle.shape_definitions.specs.declared.b2_polygon_shape.B2polygonShape.{B2polygonShape}
use Rattle.shape_definitions.specs.Outline.{point_at, place_after}
use Rattle.shape_definitions.specs.Validate.{polygon_in_range}
use Rattle.grid.specs.Grid.{GridPoint, value_point}

-- ---- the normal (a, b) of a direction (u, v) whose squared length is t and whose rounded length is l
pub record UnitNormal (u v a b : Z) (l t : ℕ) : Type 0 where
  pub positive : 0 < l
  pub square : u ⊠ u ⊞ v ⊠ v ≐ whole t
  -- l is √t within a relative 2^-24
  pub root : RelativeSquare t (l * l)
  -- no coordinate is longer than l, within as much
  pub u_most : Abs (2 ^ 24 ⊛ u) ((2 ^ 24 + 1) * l)
  pub v_most : Abs (2 ^ 24 ⊛ v) ((2 ^ 24 + 1) * l)
  -- N1: a is u / l and b is v / l
  pub a_near : Abs (l ⊛ a ⊟ metre ⊛ u) (direction_error l)
  pub b_near : Abs (l ⊛ b ⊟ metre ⊛ v) (direction_error l)
  -- N0
  pub a_most : Abs a normal_bound
  pub b_most : Abs b normal_bound
  -- N2: a² + b² is 1
  pub unit : Abs (a ⊠ a ⊞ b ⊠ b ⊟ whole (metre * metre)) (length_error * metre)

-- the vector w is the normal of the direction (u, v), for some lengths
pub record Normalised (w : B2vec2) (u v : Z) : Type 0 where
  pub x_own : F32 w.x
  pub y_own : F32 w.y
  pub length : ℕ
  pub squared : ℕ
  pub unit : UnitNormal u v (val w.x) (val w.y) length squared

-- w is the outward normal of the edge from p to q: its direction is (edge.y, -edge.x)
unfoldable pub EdgeNormal : B2vec2 → B2vec2 → B2vec2 → Type 0
EdgeNormal p q w = let e = from_to (value_point p) (value_point q) in Normalised w e.y (opp e.x)

-- ---- the outline
pub record GridOutline (shape : B2polygonShape) : Type 0 where
  pub three : 3 ≤ shape.m_count
  pub eight : shape.m_count ≤ 8
  -- there are as many vertices as it counts
  pub full : shape.m_count ≤ length shape.m_vertices
  pub corner : (i : ℕ) → i < shape.m_count → GridPoint (point_at shape.m_vertices i)
  pub normal : (i : ℕ) → i < shape.m_count
      → EdgeNormal (point_at shape.m_vertices i)
      (point_at shape.m_vertices (place_after shape.m_count i))
      (point_at shape.m_normals i)
  -- every number is in range where the radius is
  pub in_range : T (radius_in_range shape.m_radius) → T (polygon_in_range shape)
