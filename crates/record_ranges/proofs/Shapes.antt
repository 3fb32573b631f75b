-- Shapes and placements whose numbers are at most 2^20 m, an outline's normals at most 4 m. Assumes nothing.
use Prim.Native.Nat.{ℕ, ◌*◌, ◌^◌, ◌≤◌}
use native.Mathlib.Omega.{arith}
use Rattle.algebra.specs.Integer.{Z, whole, ◌⊛◌, ◌≐◌, Abs}
use Rattle.rounding.specs.Literals.{zero32, half32, one32}
use Rattle.rounding.specs.Value.{metre, val}
use Rattle.rounding.proofs.Literals.{zero_f32, half_f32, one_f32, one_mag, zero_val, half_val}
use Rattle.rounding.proofs.Value.{mag_abs}
use Rattle.floats.specs.declared.b2_math.B2Transform.{B2Transform}
use Rattle.shape_definitions.specs.declared.b2_circle_shape.B2circleShape.{B2circleShape}
use Rattle.shape_definitions.specs.declared.b2_edge_shape.B2edgeShape.{B2edgeShape}
use Rattle.shape_definitions.specs.declared.b2_polygon_shape.B2polygonShape.{B2polygonShape}
use Rattle.shape_definitions.specs.Outline.{origin, point_at}
use Rattle.record_ranges.proofs.Caps.{Cap}
use Rattle.record_ranges.proofs.Vectors.{Caps, Placed}

-- ---- literals
pub zero_cap : (k : ℕ) → Cap zero32 k
zero_cap k = record { own = zero_f32; size = mag_abs zero32 (2 ^ k * metre) (rw zero_val (nothing (2 ^ k * metre))) }
  where
    nothing : (n : ℕ) → Abs (whole 0) n
    nothing n = omega arith

pub half_cap : Cap half32 0
half_cap = record { own = half_f32; size = mag_abs half32 (2 ^ 0 * metre) (half (val half32) half_val) }
  where
    half : (a : Z) → 2 ⊛ a ≐ whole metre → Abs a (2 ^ 0 * metre)
    half a e = omega arith

pub one_cap : Cap one32 0
one_cap = record { own = one_f32; size = rw one_mag (same metre) }
  where
    same : (m : ℕ) → m ≤ 2 ^ 0 * m
    same m = omega arith

pub origin_caps : (k : ℕ) → Caps origin k
origin_caps k = record { x_cap = zero_cap k; y_cap = zero_cap k }

-- ---- shapes
pub record CircleCaps (circle : B2circleShape) : Type 0 where
  pub centre : Caps circle.m_p 20

pub record WallCaps (wall : B2edgeShape) : Type 0 where
  pub from : Caps wall.m_vertex1 20
  pub to : Caps wall.m_vertex2 20

pub record OutlineCaps (outline : B2polygonShape) : Type 0 where
  pub radius : Cap outline.m_radius 20
  pub corner : (i : ℕ) → Caps (point_at outline.m_vertices i) 20
  pub normal : (i : ℕ) → Caps (point_at outline.m_normals i) 2

abbrev pub AtPlace : B2Transform → Type 0
AtPlace xf = Placed xf 0 20
