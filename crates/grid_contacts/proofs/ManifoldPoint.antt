-- One manifold point: a clipped end, taken into the frame of the other outline and carried back exactly, is within one
-- rounding of where it was. So its local point is finite, it lies within 1/4096 m of the incident edge, and its world
-- separation is near its exact signed distance from the reference face. Assumes nothing.
use mathlib.Core.Path.{◌≡◌, sym, ap, subst}
use Prim.Native.Nat.{ℕ, ◌+◌, ◌*◌, ◌^◌, ◌≤◌, ◌<◌}
use native.Mathlib.Nat.{mul-le-mul}
use native.Mathlib.Omega.{arith}
use lib.Ieee.{Float}
use Rattle.algebra.specs.Integer.{Z, whole, ◌⊞◌, ◌⊟◌, ◌⊠◌, ◌⊛◌, ◌≐◌, ◌≼◌, Abs}
use Rattle.algebra.specs.Plane.{Point, SameVector, PointAbs, sum_of, from_to, dot}
use Rattle.algebra.proofs.Integer.{same_trans}
use Rattle.algebra.proofs.Magnitude.{abs_product}
use Rattle.algebra.proofs.Plane.{vector_refl, vector_sym, vector_trans, point_abs_same, dot_same}
use Rattle.rounding.specs.Value.{metre, tick, val}
use Rattle.rounding.proofs.Value.{metre_ticks}
use Rattle.rounding.proofs.Caps.{Capped}
use Rattle.rounding.proofs.Sized.{Sized, difference_sized}
use Rattle.floats.specs.declared.b2_math.B2vec2.{B2vec2}
use Rattle.floats.specs.declared.b2_math.B2Transform.{B2Transform}
use Rattle.floats.specs.B2Common.{b2_polygon_radius}
use Rattle.floats.specs.B2Math.{b2_sub, b2_mul_rot_by_vec2, b2_mul_transform_by_vec2, b2_mul_t_transform_by_vec2}
use Rattle.floats.proofs.Vectors.{carry_is}
use Rattle.contact_definitions.specs.WorldManifold.{plane_separation}
use Rattle.grid.specs.Grid.{value_point}
use Rattle.grid.proofs.Exact.{ExactVec}
use Rattle.grid_contacts.specs.Placement.{GridPlacement, turned, carried}
use Rattle.grid_contacts.specs.Lengths.{point_tolerance}
use Rattle.grid_contacts.specs.Faces.{Face, off_line, way_from, NearFace}
use Rattle.grid_contacts.proofs.Turns.{reversed, turned_same, turned_abs, turn_undone}
use Rattle.grid_contacts.proofs.ExactTurns.{turn_exact, turn_back_exact}
use Rattle.grid_contacts.proofs.Placing.{point_capped}
use Rattle.grid_contacts.proofs.NormalVec.{NormalVec}
use Rattle.grid_contacts.proofs.FaceNormal.{outward, FaceNormal}
use Rattle.grid_contacts.proofs.Skins.{skins, skin_capped}
use Rattle.grid_contacts.proofs.Segment.{way, NearSegment, FaceAbs, segment_size, near_moved}
use Rattle.grid_contacts.proofs.Crossing.{corner_metres, end_metres, blend_error, VecNear, vec_capped}
use Rattle.grid_contacts.proofs.Middle.{PlacedMiddle, from_middle}
use Rattle.grid_contacts.proofs.WorldRoundings.{offset_metres, Offset, offset_near}
use Rattle.grid_contacts.proofs.WorldSeparation.{Separated, separation_near}

-- ---- errors: two clips, and the rounding of a difference of at most 16 m
abbrev pub clip_error : ℕ
clip_error = 0 + blend_error + blend_error

abbrev pub point_error : ℕ
point_error = clip_error + 2 ^ 4 * tick

-- the tolerance is a metre over so many parts
abbrev parts : ℕ
parts = point_tolerance.under

-- a point that near a face, in each coordinate, lies within 1/4096 m of a point of it
pub near_face : {k : ℕ} {f : Face} {c : Point} → NearSegment point_error k f c → NearFace point_tolerance c f
near_face {k} {f} {c} h = record {
  s = h.s;
  t = h.t;
  some = subst (λ (n : ℕ). 0 < n) (sym h.parts) h.some;
  near = go (h.s + h.t) (way_from f h.s h.t c)
      (subst (λ (n : ℕ). PointAbs (way n h.s h.t f c) (n * point_error)) (sym h.parts) h.near);
}
  where
    square : (a : Z) (n : ℕ) → Abs a n → a ⊠ a ≼ whole (n * n)
    square a n h = let m = (abs_product a a n n h h).0 in omega arith

    -- twice the parts of a metre, for √2
    fits : (n m : ℕ) → 2 * parts * n ≤ m → parts * parts * (n * n + n * n) ≤ m * m
    fits n m h = let q : 2 * parts * n * (2 * parts * n) ≤ m * m = mul-le-mul h h in omega arith

    room : (k : ℕ) → 2 * parts * (k * point_error) ≤ k * metre
    room k = let e : k * metre ≡ k * (2 ^ 25 * tick) = ap (λ (n : ℕ). k * n) metre_ticks in omega arith

    joined : (a b : Z) (k n : ℕ) → a ≼ whole n → b ≼ whole n → parts * parts * (n + n) ≤ k * metre * (k * metre)
        → (parts * parts) ⊛ (a ⊞ b) ≼ (k * k) ⊛ (whole metre ⊠ whole metre)
    joined a b k n h l r = omega arith

    go : (k : ℕ) (w : Point) → PointAbs w (k * point_error)
        → (parts * parts) ⊛ dot w w ≼ (k * k) ⊛ (whole metre ⊠ whole metre)
    go k w h =
        let n = k * point_error in
        joined (w.x ⊠ w.x) (w.y ⊠ w.y) k (n * n) (square w.x n h.0) (square w.y n h.1)
        (fits n (k * metre) (room k))

-- ---- the local point of a clipped end v near an edge e, in the frame of a placement
abbrev position_metres : ℕ
position_metres = 4

abbrev pub local_metres : ℕ
local_metres = end_metres + position_metres

module _ {t : B2Transform} (g : GridPlacement t) {k : ℕ} {e : Face} (e_most : FaceAbs e (corner_metres * metre))
    {v : B2vec2} (v_near : VecNear clip_error k e v) where
  abbrev local : B2vec2
  local = b2_mul_t_transform_by_vec2 t v

  -- carried back, exactly
  abbrev point : Point
  point = carried g (value_point local)

  abbrev d : B2vec2
  d = b2_sub v t.p

  v_capped : Capped v.x end_metres × Capped v.y end_metres
  v_capped = vec_capped e_most (omega (arith, metre_ticks)) v_near

  position_capped : Capped t.p.x position_metres × Capped t.p.y position_metres
  position_capped = point_capped position_metres tt g.position

  x_sized : Sized d.x (val v.x ⊟ val t.p.x) 4 local_metres
  unfolding b2_sub
  x_sized = difference_sized 4 end_metres position_metres tt tt v_capped.0 position_capped.0

  y_sized : Sized d.y (val v.y ⊟ val t.p.y) 4 local_metres
  unfolding b2_sub
  y_sized = difference_sized 4 end_metres position_metres tt tt v_capped.1 position_capped.1

  local_exact : ExactVec local (turned (reversed g.turn) (value_point d))
  unfolding b2_mul_t_transform_by_vec2
  local_exact = turn_back_exact g.turning x_sized.capped.own y_sized.capped.own

  pub local_capped : Capped local.x local_metres × Capped local.y local_metres
  local_capped =
      let back = turned (reversed g.turn) (value_point d) in
      let most = point_abs_same back (value_point local) (local_metres * metre)
      (vector_sym (value_point local) back local_exact.is)
      (turned_abs (reversed g.turn) (value_point d) (local_metres * metre)
      (x_sized.capped.cap, y_sized.capped.cap)) in (
        record { own = local_exact.x_own; cap = most.0 },
        record { own = local_exact.y_own; cap = most.1 },
      )

  -- turned again it is d
  turned_local : SameVector (turned g.turn (value_point local)) (value_point d)
  turned_local =
      let back = turned (reversed g.turn) (value_point d) in
      vector_trans (turned g.turn (value_point local)) (turned g.turn back) (value_point d)
      (turned_same g.turn (value_point local) back local_exact.is) (turn_undone g.turn (value_point d))

  -- ---- within a rounding of v, so near the edge
  pub point_near : NearSegment point_error k e point
  point_near =
      near_moved point (2 ^ 4 * tick) (
        close (turned g.turn (value_point local)).x (val d.x) (val v.x) (val t.p.x) turned_local.0
            x_sized.err,
        close (turned g.turn (value_point local)).y (val d.y) (val v.y) (val t.p.y) turned_local.1
            y_sized.err,
      )
      v_near.near
    where
      close : (r d v o : Z) → r ≐ d → Abs (d ⊟ (v ⊟ o)) (2 ^ 4 * tick) → Abs (r ⊞ o ⊟ v) (2 ^ 4 * tick)
      close r d v o e h = omega arith

  -- ---- its world separation from the reference face f, whose world normal is n and plane point q
  module _ (f : Face) {n q : B2vec2} (vec : NormalVec n) (N : FaceNormal f (value_point n))
      (middle : PlacedMiddle f q) where
    abbrev r : B2vec2
    r = b2_mul_rot_by_vec2 t.q local

    r_exact : ExactVec r (turned g.turn (value_point local))
    r_exact = turn_exact g.turning local_exact.x_own local_exact.y_own

    -- the carried point before its rounding
    abbrev sum : Point
    sum = sum_of (value_point r) (value_point t.p)

    sum_is : SameVector sum point
    sum_is = added (value_point r) (turned g.turn (value_point local)) (value_point t.p) r_exact.is
      where
        added : (a b o : Point) → SameVector a b → SameVector (sum_of a o) (sum_of b o)
        added a b o h = (omega arith, omega arith)

    sum_most : PointAbs sum (end_metres * metre)
    sum_most =
        let s = segment_size (corner_metres * metre) e_most point_near in
        (nine sum.x point.x sum_is.0 s.0, nine sum.y point.y sum_is.1 s.1)
      where
        nine : (a b : Z) → a ≐ b → Abs b (corner_metres * metre + point_error) → Abs a (end_metres * metre)
        nine a b e h = omega (arith, metre_ticks)

    x_offset : Offset r.x t.p.x q.x
    x_offset = offset_near r_exact.x_own g.position.0.own sum_most.0 middle.x_cap

    y_offset : Offset r.y t.p.y q.y
    y_offset = offset_near r_exact.y_own g.position.1.own sum_most.1 middle.y_cap

    pub point_separation : {r1 r2 : Float} → r1 ≡ b2_polygon_radius → r2 ≡ b2_polygon_radius
        → Separated f point (plane_separation n q r1 r2 (b2_mul_transform_by_vec2 t local))
    point_separation {r1} {r2} r1_is r2_is =
        let u = from_to (value_point q) sum in
        rw (carry_is t local, r1_is, r2_is) (separation_near f point x_offset y_offset vec N skin_capped skin_capped (
          apart sum.x (val q.x) sum_most.0 middle.x_cap.cap,
          apart sum.y (val q.y) sum_most.1
              middle.y_cap.cap,
        )
        (same_trans (dot (outward f) u) (dot (outward f) (from_to (value_point q) point)) (off_line f point)
        (dot_same (outward f) (outward f) u (from_to (value_point q) point) (vector_refl (outward f))
        (without sum point (value_point q) sum_is)) (from_middle f (value_point q) point middle.halfway))
        skins)
      where
        apart : (a b : Z) → Abs a (end_metres * metre) → Abs b (corner_metres * metre)
            → Abs (a ⊟ b) (offset_metres * metre)
        apart a b h k = omega arith

        without : (a b q : Point) → SameVector a b → SameVector (from_to q a) (from_to q b)
        without a b q h = (omega arith, omega arith)
