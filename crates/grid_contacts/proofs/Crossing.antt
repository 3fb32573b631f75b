-- The point that a clip adds, v0 + i (v1 - v0) in f32 with i in [0, 1]: three roundings a coordinate, so that it is as
-- near a face as v0 and v1 are, and 3 / 2^20 m. Assumes nothing.
use mathlib.Core.Path.{◌≡◌, ap}
use Prim.Native.Nat.{ℕ, ◌+◌, ◌-◌, ◌*◌, ◌^◌, ◌≤◌}
use native.Mathlib.Nat.{mul-le-mul_right}
use native.Mathlib.Omega.{arith}
use lib.Ieee.{Float, binary32, add, sub, mul}
use Rattle.algebra.specs.Integer.{Z, whole, ◌⊞◌, ◌⊟◌, ◌⊠◌, ◌⊛◌, ◌≐◌, Abs}
use Rattle.algebra.proofs.Integer.{same_refl, same_trans}
use Rattle.algebra.proofs.Magnitude.{abs_widen, abs_same, abs_scale, abs_sum3_is}
use Rattle.algebra.proofs.Products.{product_same}
use Rattle.rounding.specs.Value.{metre, tick, F32, val}
use Rattle.rounding.proofs.Caps.{Capped}
use Rattle.rounding.proofs.Sized.{sum_sized, difference_sized, product_sized}
use Rattle.rounding.proofs.Quotient.{InUnit}
use Rattle.floats.specs.declared.b2_math.B2vec2.{B2vec2}
use Rattle.floats.specs.B2Math.{b2_add, b2_sub, b2_scale}
use Rattle.grid.specs.Grid.{value_point}
use Rattle.grid_contacts.specs.Faces.{Face}
use Rattle.grid_contacts.proofs.Segment.{NearSegment, FaceAbs, segment_size, near_between}

-- ---- sizes in metres: a carried corner, and an end that a clip leaves
abbrev pub corner_metres : ℕ
corner_metres = 8

abbrev pub end_metres : ℕ
end_metres = 9

-- one rounding of a number of at most 32 m; three of them
abbrev rounding_error : ℕ
rounding_error = 2 ^ 5 * tick

abbrev pub blend_error : ℕ
blend_error = 3 * rounding_error

-- ---- a coordinate: i is a / metre, a + b a metre
abbrev blend : Float → Float → Float → Float
blend i w0 w1 = add binary32 w0 (mul binary32 i (sub binary32 w1 w0))

record Blended (z : Float) (v : Z) : Type 0 where
  own : F32 z
  err : Abs (metre ⊛ val z ⊟ v) (blend_error * metre)

-- d is w1 - w0, m is a d / metre and w is w0 + m, each within a rounding
three_roundings : (a b : ℕ) (m d w w0 w1 : Z) → a + b ≡ metre → Abs (d ⊟ (w1 ⊟ w0)) rounding_error
    → Abs (metre ⊛ m ⊟ a ⊛ d) (rounding_error * metre) → Abs (w ⊟ (w0 ⊞ m)) rounding_error
    → Abs (metre ⊛ w ⊟ (b ⊛ w0 ⊞ a ⊛ w1)) (blend_error * metre)
three_roundings a b m d w w0 w1 sum d_near m_near w_near =
    let a_most : a ≤ metre = omega arith in
    abs_sum3_is (metre ⊛ w ⊟ (b ⊛ w0 ⊞ a ⊛ w1)) (metre ⊛ (w ⊟ (w0 ⊞ m))) (metre ⊛ m ⊟ a ⊛ d) (a ⊛ (d ⊟ (w1 ⊟ w0)))
    (metre * rounding_error) (rounding_error * metre) (metre * rounding_error) (blend_error * metre)
    (identity (ap (λ (n : ℕ). n * w0.0) sum) (ap (λ (n : ℕ). n * w0.1) sum))
    (abs_scale metre rounding_error (w ⊟ (w0 ⊞ m)) w_near) m_near
    (abs_widen (a ⊛ (d ⊟ (w1 ⊟ w0))) (a * rounding_error) (metre * rounding_error)
    (abs_scale a rounding_error (d ⊟ (w1 ⊟ w0)) d_near) (mul-le-mul_right rounding_error a_most)) (omega arith)
  where
    identity : (a + b) * w0.0 ≡ metre * w0.0 → (a + b) * w0.1 ≡ metre * w0.1
        → metre ⊛ w ⊟ (b ⊛ w0 ⊞ a ⊛ w1) ≐ metre ⊛ (w ⊟ (w0 ⊞ m)) ⊞ (metre ⊛ m ⊟ a ⊛ d) ⊞ a ⊛ (d ⊟ (w1 ⊟ w0))
    identity e0 e1 = omega arith

blend_near : {i w0 w1 : Float} (a b : ℕ) → a + b ≡ metre → Capped i 1 → val i ≐ whole a → Capped w0 end_metres
    → Capped w1 end_metres → Blended (blend i w0 w1) (b ⊛ val w0 ⊞ a ⊛ val w1)
blend_near {i} {w0} {w1} a b sum i_cap i_is w0_cap w1_cap =
    let d = difference_sized 5 end_metres end_metres tt tt w1_cap w0_cap in
    let m = product_sized 5 1 (end_metres + end_metres) tt tt i_cap d.capped in
    let w = sum_sized 5 end_metres (end_metres + end_metres) tt tt w0_cap m.capped in
    let D = val (sub binary32 w1 w0) in
    let M = val (mul binary32 i (sub binary32 w1 w0)) in
    record {
      own = w.capped.own;
      err = three_roundings a b M D (val (blend i w0 w1)) (val w0) (val w1) sum d.err
          (by_part M (val i) D i_is m.err) w.err;
    }
  where
    by_part : (m i d : Z) → i ≐ whole a → Abs (metre ⊛ m ⊟ i ⊠ d) (rounding_error * metre)
        → Abs (metre ⊛ m ⊟ a ⊛ d) (rounding_error * metre)
    by_part m i d e h =
        abs_same (metre ⊛ m ⊟ i ⊠ d) (metre ⊛ m ⊟ a ⊛ d) (rounding_error * metre)
        (less m (i ⊠ d) (a ⊛ d) (same_trans (i ⊠ d) (whole a ⊠ d) (a ⊛ d) (product_same i (whole a) d d e (same_refl d))
        (omega arith))) h
      where
        less : (m x y : Z) → x ≐ y → metre ⊛ m ⊟ x ≐ metre ⊛ m ⊟ y
        less m x y e = omega arith

-- ---- a vector of finite numbers near a face
pub record VecNear (e k : ℕ) (f : Face) (v : B2vec2) : Type 0 where
  pub x_own : F32 v.x
  pub y_own : F32 v.y
  pub near : NearSegment e k f (value_point v)

-- where the face's ends are carried corners and it is at most a metre off, it is at most 9 m in each coordinate
pub vec_capped : {e k : ℕ} {f : Face} {v : B2vec2} → FaceAbs f (corner_metres * metre) → e ≤ metre → VecNear e k f v
    → Capped v.x end_metres × Capped v.y end_metres
vec_capped {e} {k} {f} {v} f_most low h =
    let s = segment_size (corner_metres * metre) f_most h.near in (
      record { own = h.x_own; cap = nine (val v.x) s.0 },
      record { own = h.y_own; cap = nine (val v.y) s.1 },
    )
  where
    nine : (a : Z) → Abs a (corner_metres * metre + e) → Abs a (end_metres * metre)
    nine a h = omega (arith, low, h)

pub crossing_near : {e k : ℕ} {f : Face} {i : Float} {v0 v1 : B2vec2} → InUnit i → FaceAbs f (corner_metres * metre)
    → e ≤ metre → VecNear e k f v0 → VecNear e k f v1
    → VecNear (e + blend_error) (metre * k) f (b2_add v0 (b2_scale i (b2_sub v1 v0)))
unfolding b2_add b2_scale b2_sub
crossing_near {e} {k} {f} {i} {v0} {v1} unit f_most low near0 near1 =
    let a = (val i).0 - (val i).1 in
    let b = metre - a in
    let not_negative = unit.low in
    let at_most_one = unit.top in
    let i_is : val i ≐ whole a = omega arith in
    let sum : a + b ≡ metre = omega arith in
    let i_cap : Capped i 1 = record { own = unit.own; cap = (omega arith, omega arith) } in
    let size0 = vec_capped f_most low near0 in
    let size1 = vec_capped f_most low near1 in
    let x = blend_near a b sum i_cap i_is size0.0 size1.0 in
    let y = blend_near a b sum i_cap i_is size0.1 size1.1 in
    record {
      x_own = x.own;
      y_own = y.own;
      near = near_between (record { x = val (blend i v0.x v1.x); y = val (blend i v0.y v1.y) })
          blend_error a b sum near0.near near1.near x.err y.err;
    }
