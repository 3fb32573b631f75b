-- The roundings of a world point before its last dot product: its offset from the plane point, the distance that the
-- surface point of the reference face is moved along the normal, and the way across from that surface point to the
-- other one. Each error is a whole number of ticks. Assumes nothing.
use mathlib.Core.Path.{◌≡◌, ap}
use Prim.Native.Nat.{ℕ, ◌+◌, ◌*◌, ◌^◌}
use native.Mathlib.Omega.{arith}
use lib.Ieee.{Float, binary32, add, sub, mul}
use Rattle.algebra.specs.Integer.{Z, ◌⊞◌, ◌⊟◌, ◌⊠◌, ◌⊛◌, Abs}
use Rattle.algebra.specs.Plane.{Point, sum_of, from_to, dot}
use Rattle.algebra.proofs.Magnitude.{abs_scale, abs_product}
use Rattle.rounding.specs.Value.{metre, tick, F32, val}
use Rattle.rounding.proofs.Value.{metre_ticks}
use Rattle.rounding.proofs.Caps.{Capped}
use Rattle.rounding.proofs.Sized.{add_sized, sum_sized, difference_sized}
use Rattle.floats.specs.declared.b2_math.B2vec2.{B2vec2}
use Rattle.floats.specs.B2Math.{b2_add, b2_sub, b2_dot}
use Rattle.grid.specs.Grid.{value_point}
use Rattle.floats.specs.NearUnit.{normal_bound}
use Rattle.grid_contacts.proofs.NormalVec.{Coordinate, NormalVec, times_normal, dot_normal, dot_capped}
use Rattle.grid_contacts.proofs.Crossing.{corner_metres, end_metres}

-- ---- a coordinate of the carried point p = r + o, and of its offset p - q from the plane point
abbrev pub offset_metres : ℕ
offset_metres = end_metres + corner_metres

abbrev offset_ticks : ℕ
offset_ticks = 2 ^ 4 + 2 ^ 5

pub record Offset (r o q : Float) : Type 0 where
  pub point : Capped (add binary32 r o) end_metres
  pub offset : Capped (sub binary32 (add binary32 r o) q) offset_metres
  pub err : Abs (val (sub binary32 (add binary32 r o) q) ⊟ (val r ⊞ val o ⊟ val q)) (offset_ticks * tick)

pub offset_near : {r o q : Float} → F32 r → F32 o → Abs (val r ⊞ val o) (end_metres * metre) → Capped q corner_metres
    → Offset r o q
offset_near {r} {o} {q} r_own o_own sum_most q_cap =
    let p = add_sized 4 end_metres tt tt r_own o_own sum_most in
    let d = difference_sized 5 end_metres corner_metres tt tt p.capped q_cap in
    let P = add binary32 r o in
    record {
      point = p.capped;
      offset = d.capped;
      err = joined (val (sub binary32 P q)) (val P) (val r ⊞ val o) (val q) d.err p.err;
    }
  where
    joined : (d p c q : Z) → Abs (d ⊟ (p ⊟ q)) (2 ^ 5 * tick) → Abs (p ⊟ c) (2 ^ 4 * tick)
        → Abs (d ⊟ (c ⊟ q)) (offset_ticks * tick)
    joined d p c q h k = omega arith

-- ---- the distance moved: the radius less the dot product of the offset and the normal
abbrev pub move_metres : ℕ
move_metres = 1 + 2 * (offset_metres + 1)

-- a dot product, a rounding of at most 64 m, and the offsets' errors
abbrev pub move_ticks : ℕ
move_ticks = 4 * 2 ^ 5 + 2 ^ 6 + 2 * offset_ticks + 1

module _ {r o q n : B2vec2} {radius : Float} (x_offset : Offset r.x o.x q.x)
    (y_offset : Offset r.y o.y q.y) (vec : NormalVec n) (radius_cap : Capped radius 1) where
  abbrev d : B2vec2
  d = b2_sub (b2_add r o) q

  -- the exact offset
  abbrev c : Point
  c = from_to (value_point q) (sum_of (value_point r) (value_point o))

  pub record Moved (ρ : Float) : Type 0 where
    pub capped : Capped ρ move_metres
    pub err : Abs (metre ⊛ (val radius ⊟ val ρ) ⊟ dot (value_point n) c) (move_ticks * tick * metre)

  pub moved_near : Moved (sub binary32 radius (b2_dot d n))
  unfolding b2_sub b2_add
  moved_near =
      let s = dot_normal 5 offset_metres {n = n} {v = d} tt tt tt tt vec x_offset.offset y_offset.offset in
      let ρ = difference_sized 6 1 (2 * (offset_metres + 1)) tt tt radius_cap (dot_capped s) in
      record {
        capped = ρ.capped;
        err = joined (val d.x ⊠ val n.x) (val d.y ⊠ val n.y) (val n.x ⊠ c.x) (val n.y ⊠ c.y)
            (val (b2_dot d n)) (val (sub binary32 radius (b2_dot d n))) (val radius) s.err ρ.err
            (part (val n.x) (val d.x) c.x vec.at_x.most x_offset.err)
            (part (val n.y) (val d.y) c.y vec.at_y.most y_offset.err);
      }
    where
      part : (a d c : Z) → Abs a normal_bound → Abs (d ⊟ c) (offset_ticks * tick)
          → Abs (d ⊠ a ⊟ a ⊠ c) (normal_bound * (offset_ticks * tick))
      part a d c h k = turned_round (abs_product a (d ⊟ c) normal_bound (offset_ticks * tick) h k)
        where
          turned_round : Abs (a ⊠ (d ⊟ c)) (normal_bound * (offset_ticks * tick))
              → Abs (d ⊠ a ⊟ a ⊠ c) (normal_bound * (offset_ticks * tick))
          turned_round h = omega arith

      joined : (X Y X' Y' s ρ r : Z) → Abs (metre ⊛ s ⊟ (X ⊞ Y)) (4 * 2 ^ 5 * tick * metre)
          → Abs (ρ ⊟ (r ⊟ s)) (2 ^ 6 * tick) → Abs (X ⊟ X') (normal_bound * (offset_ticks * tick))
          → Abs (Y ⊟ Y') (normal_bound * (offset_ticks * tick))
          → Abs (metre ⊛ (r ⊟ ρ) ⊟ (X' ⊞ Y')) (move_ticks * tick * metre)
      joined X Y X' Y' s ρ r s_near ρ_near x_part y_part =
          let m = abs_scale metre (2 ^ 6 * tick) (ρ ⊟ (r ⊟ s)) ρ_near in
          let e : metre * tick ≡ 2 ^ 25 * tick * tick = ap (λ (n : ℕ). n * tick) metre_ticks in
          omega arith

-- ---- a coordinate of the way across: (p - r n) - (p + ρ n)
abbrev pub across : Float → Float → Float → Float → Float
across p ρ r n = sub binary32 (sub binary32 p (mul binary32 r n)) (add binary32 p (mul binary32 ρ n))

abbrev pub across_metres : ℕ
across_metres = end_metres + 2 + (end_metres + (move_metres + 1))

-- roundings of at most 2, 16, 64, 64 and 64 m
abbrev pub across_ticks : ℕ
across_ticks = 2 ^ 1 + 2 ^ 4 + 2 ^ 6 + 2 ^ 6 + 2 ^ 6

pub record Across (p ρ r n : Float) : Type 0 where
  pub capped : Capped (across p ρ r n) across_metres
  pub err : Abs (metre ⊛ val (across p ρ r n) ⊞ (val r ⊠ val n ⊞ val ρ ⊠ val n)) (across_ticks * tick * metre)

five_roundings : (w c2 c1 h u p ρ r : Z) → Abs (w ⊟ (c2 ⊟ c1)) (2 ^ 6 * tick) → Abs (c2 ⊟ (p ⊟ h)) (2 ^ 4 * tick)
    → Abs (c1 ⊟ (p ⊞ u)) (2 ^ 6 * tick) → Abs (metre ⊛ h ⊟ r) (2 ^ 1 * tick * metre)
    → Abs (metre ⊛ u ⊟ ρ) (2 ^ 6 * tick * metre) → Abs (metre ⊛ w ⊞ (r ⊞ ρ)) (across_ticks * tick * metre)
five_roundings w c2 c1 h u p ρ r w_near c2_near c1_near h_near u_near =
    let sums : Abs (w ⊞ (h ⊞ u)) ((2 ^ 4 + 2 ^ 6 + 2 ^ 6) * tick) = omega arith in
    joined (abs_scale metre ((2 ^ 4 + 2 ^ 6 + 2 ^ 6) * tick) (w ⊞ (h ⊞ u)) sums) h_near u_near
  where
    joined : Abs (metre ⊛ (w ⊞ (h ⊞ u))) (metre * ((2 ^ 4 + 2 ^ 6 + 2 ^ 6) * tick))
        → Abs (metre ⊛ h ⊟ r) (2 ^ 1 * tick * metre) → Abs (metre ⊛ u ⊟ ρ) (2 ^ 6 * tick * metre)
        → Abs (metre ⊛ w ⊞ (r ⊞ ρ)) (across_ticks * tick * metre)
    joined a b c = omega arith

pub across_near : {p ρ r n : Float} → Capped p end_metres → Capped ρ move_metres → Capped r 1 → Coordinate n
    → Across p ρ r n
across_near {p} {ρ} {r} {n} p_cap ρ_cap r_cap n_is =
    let u = times_normal 6 move_metres tt tt tt ρ_cap n_is in
    let c1 = sum_sized 6 end_metres (move_metres + 1) tt tt p_cap u.capped in
    let h = times_normal 1 1 tt tt tt r_cap n_is in
    let c2 = difference_sized 4 end_metres 2 tt tt p_cap h.capped in
    let w = difference_sized 6 (end_metres + 2) (end_metres + (move_metres + 1)) tt tt c2.capped c1.capped in
    record {
      capped = w.capped;
      err = five_roundings (val (across p ρ r n)) (val (sub binary32 p (mul binary32 r n)))
          (val (add binary32 p (mul binary32 ρ n))) (val (mul binary32 r n)) (val (mul binary32 ρ n)) (val p)
          (val ρ ⊠ val n) (val r ⊠ val n) w.err c2.err c1.err h.err u.err;
    }
