-- Clipping keeps near a face: the fraction at which a segment crosses a line is in [0, 1], so each end that a clip
-- leaves is as near as the ends of the segment, but for the three roundings of a crossing. And the two side planes of a
-- reference face as lines to clip to. Assumes nothing.
use mathlib.Core.Path.{refl, sym, subst}
use mathlib.Core.Logic.{inl, inr}
use mathlib.Core.List.Memᴰ
use mathlib.Core.List.{List, [], ◌∷◌, Memᴰ}
use Prim.Native.Nat.{ℕ, ◌+◌, ◌*◌, ◌≤◌}
use native.Mathlib.Nat.{le-add_right}
use native.Mathlib.Omega.{arith}
use lib.Dec.{T}
use lib.Ieee.{Float, binary32, neg, add, sub, mul, div, lt}
use Rattle.algebra.specs.Integer.{whole, ◌≺◌}
use Rattle.rounding.specs.Value.{metre, F32, val}
use Rattle.rounding.specs.Literals.{zero32}
use Rattle.rounding.proofs.Value.{metre_pos}
use Rattle.rounding.proofs.Caps.{Capped, neg_cap}
use Rattle.rounding.proofs.Sized.{sum_sized, difference_sized, product_sized}
use Rattle.rounding.proofs.Bounds.{sub_below, sub_above}
use Rattle.rounding.proofs.Literals.{zero_f32, zero_val}
use Rattle.rounding.proofs.Comparison.{lt_val}
use Rattle.rounding.proofs.Sign.{Opposite, mul_negative}
use Rattle.rounding.proofs.Quotient.{InUnit, Between, div_in_unit}
use Rattle.floats.specs.declared.b2_math.B2vec2.{B2vec2}
use Rattle.floats.specs.B2Math.{b2_neg, b2_dot}
use Rattle.contact_definitions.specs.declared.b2_collision.B2clipVertex.{B2clipVertex}
use Rattle.contact_definitions.specs.Clip.{clip_distance, crossing, clipped}
use Rattle.contact_definitions.proofs.Ends.{Left, first_end, second_end, crossed, clip_leaves}
use Rattle.grid_contacts.specs.Faces.{Face}
use Rattle.grid_contacts.proofs.NormalVec.{NormalVec, opposite_vec, normal_dot, dot_capped}
use Rattle.grid_contacts.proofs.Segment.{FaceAbs, near_finer}
use Rattle.grid_contacts.proofs.Crossing.{corner_metres, end_metres, blend_error, VecNear, vec_capped}
use Rattle.grid_contacts.proofs.Crossing.{crossing_near}

-- ---- sizes in metres: the offset of a line, and an end's distance from it
abbrev plane_metres : ℕ
plane_metres = 19

abbrev line_metres : ℕ
line_metres = 39

-- ---- the fraction of a crossing, from distances of opposite sign
crossing_fraction : {a b : Float} → Capped a line_metres → Capped b line_metres → T (lt (mul binary32 a b) zero32)
    → InUnit (div binary32 a (sub binary32 a b))
crossing_fraction {a} {b} a_cap b_cap t =
    let m = (product_sized 11 line_metres line_metres tt tt a_cap b_cap).capped in
    let d = (difference_sized 7 line_metres line_metres tt tt a_cap b_cap).capped in
    let below : val (mul binary32 a b) ≺ whole 0 = rw zero_val at (lt_val m.own zero_f32 t) in
    div_in_unit a_cap.own d.own (go d.own (mul_negative a_cap.own b_cap.own below))
  where
    go : F32 (sub binary32 a b) → Opposite (val a) (val b) → Between (val a) (val (sub binary32 a b))
    go own (inl h) =
        let p = h.0 in
        let n = h.1 in
        let l = sub_above a_cap.own b_cap.own a_cap.own own (omega arith) in
        inl (omega arith, (l, omega arith))
    go own (inr h) =
        let p = h.0 in
        let n = h.1 in
        let l = sub_below a_cap.own b_cap.own a_cap.own own (omega arith) in
        inr (omega arith, (l, omega arith))

-- ---- a line to clip to
pub record ClipLine (normal : B2vec2) (offset : Float) : Type 0 where
  pub vec : NormalVec normal
  pub offset_cap : Capped offset plane_metres

distance_capped : {normal : B2vec2} {offset : Float} → ClipLine normal offset → (end : B2clipVertex)
    → Capped end.v.x end_metres → Capped end.v.y end_metres
    → Capped (clip_distance normal offset end) line_metres
unfolding clip_distance
distance_capped line end x_cap y_cap =
    (difference_sized 6 (2 * (end_metres + 1)) plane_metres tt tt
    (dot_capped (normal_dot 5 end_metres tt tt tt tt line.vec x_cap y_cap)) line.offset_cap).capped

-- ---- the ends that a clip leaves
abbrev pub EachNear : ℕ → ℕ → Face → List B2clipVertex → Type 0
EachNear e k f ends = (end : B2clipVertex) → Memᴰ end ends → VecNear e k f end.v

module _ {e k : ℕ} {f : Face} (f_most : FaceAbs f (corner_metres * metre)) (low : e ≤ metre) {normal : B2vec2}
    {offset : Float} (line : ClipLine normal offset) (index : ℕ) where
  -- an end of the segment, at the finer scale
  finer : (v : B2vec2) → VecNear e k f v → VecNear (e + blend_error) (metre * k) f v
  finer v h = record {
    x_own = h.x_own;
    y_own = h.y_own;
    near = near_finer (e + blend_error) metre (le-add_right e blend_error) metre_pos h.near;
  }

  -- the crossing
  added_near : (end0 end1 : B2clipVertex) → VecNear e k f end0.v → VecNear e k f end1.v
      → T (lt (mul binary32 (clip_distance normal offset end0) (clip_distance normal offset end1)) zero32)
      → VecNear (e + blend_error) (metre * k) f
      (crossing end0 end1 (clip_distance normal offset end0) (clip_distance normal offset end1) index).v
  unfolding crossing
  added_near end0 end1 near0 near1 t =
      let size0 = vec_capped f_most low near0 in
      let size1 = vec_capped f_most low near1 in
      crossing_near (crossing_fraction (distance_capped line end0 size0.0 size0.1)
      (distance_capped line end1 size1.0 size1.1) t) f_most low near0 near1

  pub clipped_near : (ends : List B2clipVertex) → EachNear e k f ends
      → EachNear (e + blend_error) (metre * k) f (clipped ends normal offset index)
  unfolding clipped
  clipped_near [] near x m = absurd (Memᴰ.not-nil m)
  clipped_near (end ∷ []) near x m = absurd (Memᴰ.not-nil m)
  clipped_near (end0 ∷ end1 ∷ ends) near x m = go (clip_leaves end0 end1 _ _ index x m)
    where
      near0 : VecNear e k f end0.v
      near0 = near end0 (Memᴰ.head refl)

      near1 : VecNear e k f end1.v
      near1 = near end1 (Memᴰ.tail (Memᴰ.head refl))

      Near : B2clipVertex → Type 0
      Near y = VecNear (e + blend_error) (metre * k) f y.v

      go : Left end0 end1 (clip_distance normal offset end0) (clip_distance normal offset end1) index x
          → Near x
      go (first_end is) = subst Near (sym is) (finer end0.v near0)
      go (second_end is) = subst Near (sym is) (finer end1.v near1)
      go (crossed t is) = subst Near (sym is) (added_near end0 end1 near0 near1 t)

-- ---- the side planes of a face: along the tangent through its end v, and against it through its begin, each moved out
-- by the skins
module _ {tangent v : B2vec2} {total : Float} (vec : NormalVec tangent) (x_cap : Capped v.x corner_metres)
    (y_cap : Capped v.y corner_metres) (total_cap : Capped total 1) where
  along : Capped (b2_dot tangent v) (2 * (corner_metres + 1))
  along = dot_capped (normal_dot 5 corner_metres tt tt tt tt vec x_cap y_cap)

  pub end_side : ClipLine tangent (add binary32 (b2_dot tangent v) total)
  end_side = record { vec = vec; offset_cap = (sum_sized 5 (2 * (corner_metres + 1)) 1 tt tt along total_cap).capped }

  pub begin_side : ClipLine (b2_neg tangent) (add binary32 (neg (b2_dot tangent v)) total)
  begin_side = record {
    vec = opposite_vec vec;
    offset_cap = (sum_sized 5 (2 * (corner_metres + 1)) 1 tt tt (neg_cap along) total_cap).capped;
  }
