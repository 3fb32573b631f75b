-- The world separation of a point against its exact signed distance from the reference face's line: less both skins, it
-- is off by at most 3670 ticks, times the face's f32 length; and by at most 1/4096 m after the root. By the chain of
-- WorldRoundings, a² + b² = 1 within 2^-19 (N2), and the face's normal (N1). Assumes nothing.
use mathlib.Core.Path.{◌≡◌, ap}
use Prim.Native.Nat.{ℕ, ◌+◌, ◌*◌, ◌^◌, ◌≤◌}
use native.Mathlib.Nat.{mul-pos}
use native.Mathlib.Omega.{arith}
use lib.Dec.{lit≤}
use lib.Ieee.{Float, binary32, sub}
use Rattle.algebra.specs.Integer.{Z, whole, ◌⊞◌, ◌⊟◌, ◌⊠◌, ◌⊛◌, ◌≐◌, ◌≼◌, Abs}
use Rattle.algebra.specs.Plane.{Point, PointAbs, sum_of, from_to, dot}
use Rattle.algebra.proofs.Magnitude.{abs_same, abs_scale, abs_unscale, abs_product, abs_sum3_is}
use Rattle.rounding.specs.Value.{metre, tick, F32, val}
use Rattle.rounding.proofs.Value.{metre_pos, metre_ticks}
use Rattle.rounding.proofs.Caps.{Capped}
use Rattle.floats.specs.declared.b2_math.B2vec2.{B2vec2}
use Rattle.floats.specs.B2Math.{b2_add, b2_sub, b2_scale, b2_dot}
use Rattle.contact_definitions.specs.WorldManifold.{on_face, on_other, plane_separation}
use Rattle.grid.specs.Grid.{value_point}
use Rattle.floats.specs.NearUnit.{normal_bound, length_error}
use Rattle.grid_contacts.specs.Lengths.{exactly, both_skins}
use Rattle.grid_contacts.specs.Faces.{Face, off_line}
use Rattle.grid_contacts.specs.SecondSentence.{distance_most, distance_least, NearDistance}
use Rattle.grid_contacts.proofs.NormalVec.{NormalVec, dot_normal}
use Rattle.grid_contacts.proofs.FaceNormal.{outward, FaceNormal}
use Rattle.grid_contacts.proofs.RootBridge.{root_ticks, root_reach}
use Rattle.grid_contacts.proofs.FaceDistance.{DistanceWithin, within_of_length, against_ticks, normal_against}
use Rattle.grid_contacts.proofs.FaceDistance.{direction_against}
use Rattle.grid_contacts.proofs.Distances.{LengthLe, at_most_longer, at_least_shorter}
use Rattle.grid_contacts.proofs.Skins.{WithinSkins, BothSkins}
use Rattle.grid_contacts.proofs.WorldRoundings.{offset_metres, Offset, move_metres, move_ticks, moved_near}
use Rattle.grid_contacts.proofs.WorldRoundings.{across_metres, across_ticks, across_near}

-- ---- the last dot product: w is - (r + ρ), of the way across (wx, wy) and the normal (a, b)
-- the dot product, both ways across, N2 times the sum of radius and distance moved, and a tick
abbrev surface_ticks : ℕ
surface_ticks = 4 * 2 ^ 6 + 2 * across_ticks + 64 * (1 + move_metres) + 1

-- multiplied out; a sum of four terms; and the four of which w and g are made
spread : (d : ℕ) (g x y : Z) → g ⊠ (x ⊞ y ⊟ whole d) ≐ g ⊠ x ⊞ g ⊠ y ⊟ d ⊛ g
spread d g x y = omega arith

four_terms : (w p q r s : Z) (k l m n o : ℕ) → w ≐ p ⊞ q ⊞ r ⊟ s → Abs p k → Abs q l → Abs r m → Abs s n
    → k + l + m + n ≤ o → Abs w o
four_terms w p q r s k l m n o e hp hq hr hs h = omega arith

gathered : (d : ℕ) (W S R A B G : Z)
    → (d * d) ⊛ (W ⊞ G) ≐ d ⊛ (d ⊛ W ⊟ (S ⊞ R)) ⊞ (d ⊛ S ⊞ A) ⊞ (d ⊛ R ⊞ B) ⊟ (A ⊞ B ⊟ (d * d) ⊛ G)
gathered d W S R A B G = omega arith

surface_near : (a b r ρ wx wy w : Z) → Abs a normal_bound → Abs b normal_bound
    → Abs (a ⊠ a ⊞ b ⊠ b ⊟ whole (metre * metre)) (length_error * metre) → Abs r (1 * metre)
    → Abs ρ (move_metres * metre)
    → Abs (metre ⊛ wx ⊞ (r ⊠ a ⊞ ρ ⊠ a)) (across_ticks * tick * metre)
    → Abs (metre ⊛ wy ⊞ (r ⊠ b ⊞ ρ ⊠ b)) (across_ticks * tick * metre)
    → Abs (metre ⊛ w ⊟ (wx ⊠ a ⊞ wy ⊠ b)) (4 * 2 ^ 6 * tick * metre) → Abs (w ⊞ (r ⊞ ρ)) (surface_ticks * tick)
surface_near a b r ρ wx wy w a_most b_most unit r_most ρ_most x_near y_near w_near =
    let g = r ⊞ ρ in
    let n = across_ticks * tick * metre * normal_bound in
    let x = across_along wx a (summed a wx x_near) a_most in
    let y = across_along wy b (summed b wy y_near) b_most in
    let one = a ⊠ a ⊞ b ⊠ b ⊟ whole (metre * metre) in
    let m = abs_same (g ⊠ one) (g ⊠ (a ⊠ a) ⊞ g ⊠ (b ⊠ b) ⊟ (metre * metre) ⊛ g)
    ((1 + move_metres) * metre * (length_error * metre)) (spread (metre * metre) g (a ⊠ a) (b ⊠ b))
    (abs_product g one ((1 + move_metres) * metre) (length_error * metre) total unit) in
    abs_unscale (metre * metre) (surface_ticks * tick) (w ⊞ g) (mul-pos metre_pos metre_pos)
    (four_terms ((metre * metre) ⊛ (w ⊞ g)) (metre ⊛ (metre ⊛ w ⊟ (wx ⊠ a ⊞ wy ⊠ b))) (metre ⊛ (wx ⊠ a) ⊞ g ⊠ (a ⊠ a))
    (metre ⊛ (wy ⊠ b) ⊞ g ⊠ (b ⊠ b)) (g ⊠ (a ⊠ a) ⊞ g ⊠ (b ⊠ b) ⊟ (metre * metre) ⊛ g)
    (metre * (4 * 2 ^ 6 * tick * metre)) n n ((1 + move_metres) * metre * (length_error * metre))
    (metre * metre * (surface_ticks * tick)) (gathered metre w (wx ⊠ a) (wy ⊠ b) (g ⊠ (a ⊠ a)) (g ⊠ (b ⊠ b)) g)
    (abs_scale metre (4 * 2 ^ 6 * tick * metre) (metre ⊛ w ⊟ (wx ⊠ a ⊞ wy ⊠ b)) w_near) x y m room)
  where
    total : Abs (r ⊞ ρ) ((1 + move_metres) * metre)
    total = omega (arith, r_most, ρ_most)

    summed : (a w : Z) → Abs (metre ⊛ w ⊞ (r ⊠ a ⊞ ρ ⊠ a)) (across_ticks * tick * metre)
        → Abs (metre ⊛ w ⊞ (r ⊞ ρ) ⊠ a) (across_ticks * tick * metre)
    summed a w h = omega (arith, h)

    across_along : (w a : Z) → Abs (metre ⊛ w ⊞ (r ⊞ ρ) ⊠ a) (across_ticks * tick * metre) → Abs a normal_bound
        → Abs (metre ⊛ (w ⊠ a) ⊞ (r ⊞ ρ) ⊠ (a ⊠ a)) (across_ticks * tick * metre * normal_bound)
    across_along w a h k =
        abs_same ((metre ⊛ w ⊞ (r ⊞ ρ) ⊠ a) ⊠ a) (metre ⊛ (w ⊠ a) ⊞ (r ⊞ ρ) ⊠ (a ⊠ a))
        (across_ticks * tick * metre * normal_bound) (into w (r ⊞ ρ) a)
        (abs_product (metre ⊛ w ⊞ (r ⊞ ρ) ⊠ a) a (across_ticks * tick * metre) normal_bound h k)
      where
        into : (w g a : Z) → (metre ⊛ w ⊞ g ⊠ a) ⊠ a ≐ metre ⊛ (w ⊠ a) ⊞ g ⊠ (a ⊠ a)
        into w g a = omega arith

    room : metre * (4 * 2 ^ 6 * tick * metre) + across_ticks * tick * metre * normal_bound
        + across_ticks * tick * metre * normal_bound + (1 + move_metres) * metre * (length_error * metre)
        ≤ metre * metre * (surface_ticks * tick)
    room =
        let e : metre * (tick * metre) ≡ 2 ^ 25 * tick * (tick * metre) =
        ap (λ (n : ℕ). n * (tick * metre)) metre_ticks in
        omega arith

-- ---- against the exact line: l (w + r1 + r2) is the face's off-line number
abbrev line_ticks : ℕ
line_ticks = surface_ticks + move_ticks + against_ticks offset_metres

against_line : (l : ℕ) (w r1 r2 ρ s d : Z) → Abs (w ⊞ (r2 ⊞ ρ)) (surface_ticks * tick)
    → Abs (metre ⊛ (r1 ⊟ ρ) ⊟ s) (move_ticks * tick * metre)
    → Abs (l ⊛ s ⊟ metre ⊛ d) (against_ticks offset_metres * (tick * l) * metre)
    → Abs (l ⊛ (w ⊞ (r1 ⊞ r2)) ⊟ d) (line_ticks * (tick * l))
against_line l w r1 r2 ρ s d w_near ρ_near s_near =
    abs_unscale metre (line_ticks * (tick * l)) (l ⊛ (w ⊞ (r1 ⊞ r2)) ⊟ d) metre_pos
    (abs_sum3_is (metre ⊛ (l ⊛ (w ⊞ (r1 ⊞ r2)) ⊟ d)) ((l * metre) ⊛ (w ⊞ (r2 ⊞ ρ))) (l ⊛ (metre ⊛ (r1 ⊟ ρ) ⊟ s))
    (l ⊛ s ⊟ metre ⊛ d) (l * metre * (surface_ticks * tick)) (l * (move_ticks * tick * metre))
    (against_ticks offset_metres * (tick * l) * metre) (metre * (line_ticks * (tick * l)))
    (identity l metre w r1 r2 ρ s d) (abs_scale (l * metre) (surface_ticks * tick) (w ⊞ (r2 ⊞ ρ)) w_near)
    (abs_scale l (move_ticks * tick * metre) (metre ⊛ (r1 ⊟ ρ) ⊟ s) ρ_near) s_near (omega arith))
  where
    identity : (l d : ℕ) (W r1 r2 ρ S Δ : Z)
        → d ⊛ (l ⊛ (W ⊞ (r1 ⊞ r2)) ⊟ Δ) ≐ (l * d) ⊛ (W ⊞ (r2 ⊞ ρ)) ⊞ l ⊛ (d ⊛ (r1 ⊟ ρ) ⊟ S) ⊞ (l ⊛ S ⊟ d ⊛ Δ)
    identity l d W r1 r2 ρ S Δ = omega arith

-- ---- w and 0.02 m, for skins r of 0.02 m but for a tick
separation_error : ℕ
separation_error = (line_ticks + root_ticks) * tick

near_distance : (f : Face) (c : Point) (w r : Z) → DistanceWithin f c (w ⊞ r) separation_error → BothSkins r
    → NearDistance f c w
unfolding separation_error
near_distance f c w r near skins = record {
  at_most = at_most_longer f c (exactly (w ⊞ r ⊞ whole separation_error)) (distance_most w) (lit≤ tt)
      (raised w r skins.at_most) near.at_most;
  at_least = at_least_shorter f c (exactly (w ⊞ r ⊟ whole separation_error)) (distance_least w) (lit≤ tt)
      (lowered w r skins.at_least) near.at_least;
}
  where
    raised : (w r : Z) → WithinSkins r → LengthLe (exactly (w ⊞ r ⊞ whole separation_error)) (distance_most w)
    raised w r h = let m = metre_ticks in omega arith

    lowered : (w r : Z) → both_skins.over ≼ both_skins.under ⊛ r ⊞ whole tick
        → LengthLe (distance_least w) (exactly (w ⊞ r ⊟ whole separation_error))
    lowered w r h = let m = metre_ticks in omega arith

-- w is finite, and near the signed distance of c from f's line, less 0.02 m
pub record Separated (f : Face) (c : Point) (w : Float) : Type 0 where
  pub own : F32 w
  pub near : NearDistance f c (val w)

-- ---- the definition of the world points, from the carried point r + o on: n is the normal of f, q the plane point
module _ (f : Face) (c : Point) {r o q n : B2vec2} {r1 r2 : Float} (x_offset : Offset r.x o.x q.x)
    (y_offset : Offset r.y o.y q.y) (vec : NormalVec n) (N : FaceNormal f (value_point n))
    (r1_cap : Capped r1 1) (r2_cap : Capped r2 1) where
  -- the exact offset of the point from the plane point
  abbrev u : Point
  u = from_to (value_point q) (sum_of (value_point r) (value_point o))

  pub separation_near : PointAbs u (offset_metres * metre) → dot (outward f) u ≐ off_line f c
      → BothSkins (val r1 ⊞ val r2) → Separated f c (plane_separation n q r1 r2 (b2_add r o))
  unfolding plane_separation on_other on_face b2_sub b2_add b2_scale separation_error
  separation_near u_most u_is skins =
      let l = N.length in
      let p = b2_add r o in
      let m = moved_near x_offset y_offset vec r1_cap in
      let ρ = sub binary32 r1 (b2_dot (b2_sub p q) n) in
      let x = across_near x_offset.point m.capped r2_cap vec.at_x in
      let y = across_near y_offset.point m.capped r2_cap vec.at_y in
      let way = b2_sub (on_other n r2 p) (on_face n q r1 p) in
      let s = dot_normal 6 across_metres {n = n} {v = way} tt tt tt tt vec x.capped y.capped in
      let w = val (b2_dot way n) in
      let surface = surface_near (val n.x) (val n.y) (val r2) (val ρ) (val way.x) (val way.y) w
      vec.at_x.most vec.at_y.most N.unit.unit r2_cap.cap m.capped.cap x.err y.err s.err in
      let d = dot (outward f) u in
      let line = against_line l w (val r1) (val r2) (val ρ) (dot (value_point n) u) d surface m.err
      (normal_against N.unit u offset_metres u_most) in
      record {
        own = s.own;
        near = near_distance f c w (val r1 ⊞ val r2)
            (within_of_length f c (value_point n) (w ⊞ (val r1 ⊞ val r2)) line_ticks N
            (abs_same d (off_line f c) (root_reach l) u_is (direction_against N.unit u offset_metres u_most tt))
            (abs_same (l ⊛ (w ⊞ (val r1 ⊞ val r2)) ⊟ d) (l ⊛ (w ⊞ (val r1 ⊞ val r2)) ⊟ off_line f c)
            (line_ticks * (tick * l)) (moved (l ⊛ (w ⊞ (val r1 ⊞ val r2))) d (off_line f c) u_is) line))
            skins;
      }
    where
      moved : (s d e : Z) → d ≐ e → s ⊟ d ≐ s ⊟ e
      moved s d e h = omega arith
