-- A separation that f32 computes against the exact signed distance: the dot product of a face's rounded normal with the
-- vector from its first corner to a point, both at most 16 m off, is within 2^-16 m of the point's exact signed
-- distance from the face's line. Assumes nothing.
use Prim.Native.Nat.{ℕ, ◌+◌, ◌*◌, ◌^◌, ◌≤◌}
use native.Mathlib.Nat.{mul-le-mul_right}
use native.Mathlib.Omega.{arith}
use lib.Dec.{T, leb, leb→le}
use Rattle.algebra.specs.Integer.{Z, whole, ◌⊞◌, ◌⊟◌, ◌⊠◌, ◌⊛◌, opp, ◌≐◌, Abs}
use Rattle.algebra.specs.Plane.{Point, PointAbs, from_to, dot}
use Rattle.algebra.proofs.Magnitude.{abs_same, abs_sum_is, abs_scale, abs_unscale, abs_product}
use Rattle.rounding.specs.Value.{metre, tick}
use Rattle.rounding.proofs.Value.{metre_pos}
use Rattle.floats.specs.NearUnit.{direction_error}
use Rattle.grid_contacts.specs.Lengths.{exactly}
use Rattle.grid_contacts.specs.Faces.{Face, off_line, squared_length, DistanceAtMost, DistanceAtLeast}
use Rattle.grid_contacts.proofs.FaceNormal.{UnitOf, outward, FaceNormal}
use Rattle.grid_contacts.proofs.RootBridge.{root_ticks, root_reach, root_at_most, root_at_least}

-- ---- s is within e of the signed distance of c from the line of f
pub record DistanceWithin (f : Face) (c : Point) (s : Z) (e : ℕ) : Type 0 where
  pub at_most : DistanceAtMost f c (exactly (s ⊞ whole e))
  pub at_least : DistanceAtLeast f c (exactly (s ⊟ whole e))

-- where it is, times the f32 length of f, within k ticks
pub within_of_length : (f : Face) (c n : Point) (s : Z) (k : ℕ) (N : FaceNormal f n)
    → Abs (off_line f c) (root_reach N.length) → Abs (N.length ⊛ s ⊟ off_line f c) (k * (tick * N.length))
    → DistanceWithin f c s ((k + root_ticks) * tick)
within_of_length f c n s k N most near = record {
  at_most = root_at_most (off_line f c) s N.length (squared_length f) k N.unit.root N.unit.positive most
      near;
  at_least = root_at_least (off_line f c) s N.length (squared_length f) k N.unit.root N.unit.positive most
      near;
}

-- ---- a normal n of the direction u against a vector w of at most m metres
abbrev pub against_ticks : ℕ → ℕ
against_ticks m = 16 * m

module _ {u n : Point} {l t : ℕ} (U : UnitOf u n l t) (w : Point) (m : ℕ) (w_most : PointAbs w (m * metre)) where
  -- l times n·w is a metre times u·w, by N1
  pub normal_against : Abs (l ⊛ dot n w ⊟ metre ⊛ dot u w) (against_ticks m * (tick * l) * metre)
  normal_against =
      joined (n.x ⊠ w.x) (n.y ⊠ w.y) (u.x ⊠ w.x) (u.y ⊠ w.y)
      (product n.x u.x w.x U.a_near w_most.0)
      (product n.y u.y w.y U.b_near w_most.1)
    where
      product : (a v p : Z) → Abs (l ⊛ a ⊟ metre ⊛ v) (direction_error l) → Abs p (m * metre)
          → Abs (l ⊛ (a ⊠ p) ⊟ metre ⊛ (v ⊠ p)) (direction_error l * (m * metre))
      product a v p h g =
          abs_same ((l ⊛ a ⊟ metre ⊛ v) ⊠ p) (l ⊛ (a ⊠ p) ⊟ metre ⊛ (v ⊠ p)) (direction_error l * (m * metre))
          (identity l metre a v p) (abs_product (l ⊛ a ⊟ metre ⊛ v) p (direction_error l) (m * metre) h g)
        where
          identity : (l d : ℕ) (a v p : Z) → (l ⊛ a ⊟ d ⊛ v) ⊠ p ≐ l ⊛ (a ⊠ p) ⊟ d ⊛ (v ⊠ p)
          identity l d a v p = omega arith

      joined : (a b c d : Z) → Abs (l ⊛ a ⊟ metre ⊛ c) (direction_error l * (m * metre))
          → Abs (l ⊛ b ⊟ metre ⊛ d) (direction_error l * (m * metre))
          → Abs (l ⊛ (a ⊞ b) ⊟ metre ⊛ (c ⊞ d)) (against_ticks m * (tick * l) * metre)
      joined a b c d h k = omega arith

  -- u·w is at most 63 m l: each coordinate of u is at most l, within 2^-24
  pub direction_against : T (leb m 31) → Abs (dot u w) (root_reach l)
  direction_against low =
      joined u.x w.x u.y w.y (mul-le-mul_right (metre * l) (leb→le m 31 low))
      (abs_product (2 ^ 24 ⊛ u.x) w.x ((2 ^ 24 + 1) * l) (m * metre) U.u_most w_most.0)
      (abs_product (2 ^ 24 ⊛ u.y) w.y ((2 ^ 24 + 1) * l) (m * metre) U.v_most w_most.1)
    where
      joined : (a b c d : Z) → m * (metre * l) ≤ 31 * (metre * l)
          → Abs ((2 ^ 24 ⊛ a) ⊠ b) ((2 ^ 24 + 1) * l * (m * metre))
          → Abs ((2 ^ 24 ⊛ c) ⊠ d) ((2 ^ 24 + 1) * l * (m * metre)) → Abs (a ⊠ b ⊞ c ⊠ d) (root_reach l)
      joined a b c d r h k = omega arith

-- off-line is the product with the outward direction
off_line_is : (f : Face) (c : Point) → dot (outward f) (from_to f.begin c) ≐ off_line f c
off_line_is f c =
    go (f.end.y ⊟ f.begin.y) (c.x ⊟ f.begin.x) (f.end.x ⊟ f.begin.x) (c.y ⊟ f.begin.y)
  where
    go : (a b c d : Z) → a ⊠ b ⊞ opp c ⊠ d ≐ a ⊠ b ⊟ c ⊠ d
    go a b c d = omega arith

-- ---- the f32 dot product s of a normal and a gap between corners, which is at most 16 m in a coordinate
abbrev pub gap_metres : ℕ
gap_metres = 16

abbrev pub separation_metres : ℕ
separation_metres = 2 * (gap_metres + 1)

-- four roundings of at most 32 m
abbrev pub dot_ticks : ℕ
dot_ticks = 4 * 2 ^ 5

-- s against the exact distance: 2^-16 m
abbrev pub distance_error : ℕ
distance_error = (dot_ticks + against_ticks gap_metres + root_ticks) * tick

pub distance_near : (f : Face) (c n : Point) (s : Z) → FaceNormal f n
    → PointAbs (from_to f.begin c) (gap_metres * metre)
    → Abs (metre ⊛ s ⊟ dot n (from_to f.begin c)) (dot_ticks * tick * metre) → DistanceWithin f c s distance_error
distance_near f c n s N w_most near =
    let l = N.length in
    let w = from_to f.begin c in
    let d = dot (outward f) w in
    within_of_length f c n s (dot_ticks + against_ticks gap_metres) N
    (abs_same d (off_line f c) (root_reach l) (off_line_is f c) (direction_against N.unit w gap_metres w_most tt))
    (abs_same (l ⊛ s ⊟ d) (l ⊛ s ⊟ off_line f c) ((dot_ticks + against_ticks gap_metres) * (tick * l))
    (less l s d (off_line f c) (off_line_is f c))
    (abs_unscale metre ((dot_ticks + against_ticks gap_metres) * (tick * l)) (l ⊛ s ⊟ d) metre_pos
    (abs_sum_is (metre ⊛ (l ⊛ s ⊟ d)) (l ⊛ (metre ⊛ s ⊟ dot n w)) (l ⊛ dot n w ⊟ metre ⊛ d)
    (l * (dot_ticks * tick * metre)) (against_ticks gap_metres * (tick * l) * metre)
    (metre * ((dot_ticks + against_ticks gap_metres) * (tick * l))) (identity l metre s (dot n w) d)
    (abs_scale l (dot_ticks * tick * metre) (metre ⊛ s ⊟ dot n w) near) (normal_against N.unit w gap_metres w_most)
    (omega arith))))
  where
    less : (l : ℕ) (s d e : Z) → d ≐ e → l ⊛ s ⊟ d ≐ l ⊛ s ⊟ e
    less l s d e h = omega arith

    identity : (l d : ℕ) (s w e : Z) → d ⊛ (l ⊛ s ⊟ e) ≐ l ⊛ (d ⊛ s ⊟ w) ⊞ (l ⊛ w ⊟ d ⊛ e)
    identity l d s w e = omega arith
