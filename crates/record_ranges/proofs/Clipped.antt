-- Clipping ends of at most 2^k m by finite sides leaves ends of at most 2^(k + 2) m: a crossing lies between the two,
-- for its weight is in [0, 1]. Assumes nothing.
use Prim.Native.Nat.{ℕ, suc, ◌*◌, ◌^◌, ◌≤◌}
use mathlib.Core.Path.{◌≡◌, refl, sym, subst}
use mathlib.Core.Bool.{Bool, true, false, cond}
use mathlib.Core.List.{List, [], ◌∷◌}
use mathlib.Core.Logic.{inl, inr}
use native.Mathlib.Nat.{le_trans, zero-add}
use native.Mathlib.Omega.{arith}
use lib.Dec.{T, leb}
use lib.Ieee.{Float, binary32, sub, mul, div, le, lt}
use Rattle.algebra.specs.Integer.{Z, whole, ◌⊟◌, ◌≼◌, ◌≺◌, Abs}
use Rattle.rounding.specs.Literals.{zero32}
use Rattle.rounding.specs.Value.{metre, F32, mag, val}
use Rattle.rounding.proofs.Value.{mag_abs}
use Rattle.rounding.proofs.Literals.{zero_f32, zero_val}
use Rattle.rounding.proofs.Comparison.{lt_val}
use Rattle.rounding.proofs.Sign.{Opposite}
use Rattle.rounding.proofs.Quotient.{Between}
use Rattle.rounding.proofs.Theorem.{product_negative, quotient_in_unit, ordered_results}
use Rattle.floats.specs.declared.b2_math.B2vec2.{B2vec2}
use Rattle.floats.specs.B2Math.{b2_sub, b2_scale}
use Rattle.contact_definitions.specs.declared.b2_collision.B2clipVertex.{B2clipVertex}
use Rattle.contact_definitions.specs.declared.b2_collide_edge.B2referenceFace.{B2referenceFace}
use Rattle.contact_definitions.specs.ReferenceFace.{clipped_to_sides}
use Rattle.contact_definitions.specs.Clip.{clip_distance, crossing, clipped_by, clipped}
use Rattle.record_ranges.proofs.Caps.{Cap, cap_widen, cap_sub, cap_mul}
use Rattle.record_ranges.proofs.Vectors.{Caps, caps_widen, caps_add, caps_sub, caps_scale, cap_dot}

-- ---- the weight of a crossing
module _ {d0 d1 : Float} (d0_f32 : F32 d0) (d1_f32 : F32 d1) (span_f32 : F32 (sub binary32 d0 d1))
    (crosses : T (lt (mul binary32 d0 d1) zero32)) (product_f32 : F32 (mul binary32 d0 d1)) where
  opposite : Opposite (val d0) (val d1)
  opposite = product_negative d0_f32 d1_f32 (rw zero_val at (lt_val product_f32 zero_f32 crosses))

  between : Between (val d0) (val (sub binary32 d0 d1))
  between = go opposite
    where
      outward : (a b s : Z) → whole 0 ≺ a → a ≼ s → whole 0 ≺ s
      outward a b s g f = omega arith

      inward : (a b s : Z) → a ≺ whole 0 → s ≼ a → s ≺ whole 0
      inward a b s g f = omega arith

      not_below : (a : Z) → whole 0 ≺ a → whole 0 ≼ a
      not_below a g = omega arith

      not_above : (a : Z) → a ≺ whole 0 → a ≼ whole 0
      not_above a g = omega arith

      farther_up : (a b : Z) → b ≺ whole 0 → a ≼ a ⊟ b
      farther_up a b g = omega arith

      farther_down : (a b : Z) → whole 0 ≺ b → a ⊟ b ≼ a
      farther_down a b g = omega arith

      go : Opposite (val d0) (val d1) → Between (val d0) (val (sub binary32 d0 d1))
      go (inl h) =
          let up = (ordered_results d0_f32 d1_f32 d0_f32).difference_above span_f32
          (farther_up (val d0) (val d1) h.1) in
          inl (not_below (val d0) h.0, (up, outward (val d0) (val d1) (val (sub binary32 d0 d1)) h.0 up))
      go (inr h) =
          let down = (ordered_results d0_f32 d1_f32 d0_f32).difference_below span_f32
          (farther_down (val d0) (val d1) h.1) in
          inr (not_above (val d0) h.0, (down, inward (val d0) (val d1) (val (sub binary32 d0 d1)) h.0 down))

  weight : Cap (div binary32 d0 (sub binary32 d0 d1)) 0
  weight =
      let t = quotient_in_unit d0_f32 span_f32 between in
      record { own = t.own; size = unit (div binary32 d0 (sub binary32 d0 d1)) t.low t.top }
    where
      unit : (z : Float) → whole 0 ≼ val z → val z ≼ whole metre → mag z ≤ 2 ^ 0 * metre
      unit z g f = le_trans (mag_abs z metre (abs (val z) g f)) (omega arith)
        where
          abs : (a : Z) → whole 0 ≼ a → a ≼ whole metre → Abs a metre
          abs a u w = omega arith

-- ---- the crossing
shrunk : (s : Float) (v : B2vec2) (k : ℕ) → T (leb k 100) → Cap s 0 → Caps v k → Caps (b2_scale s v) k
shrunk s v k low g h =
    subst (λ (n : ℕ). Caps (b2_scale s v) n) (zero-add k)
    (caps_scale s v 0 k (subst (λ (n : ℕ). T (leb n 100)) (sym (zero-add k)) low) g h)

module _ (end0 end1 : B2clipVertex) (d0 d1 : Float) (index : ℕ) (k : ℕ) (fine : T (leb (suc (suc k)) 100))
    (next : T (leb (suc k) 100)) (wider : T (leb k (suc k)))
    (end0_caps : Caps end0.v k) (end1_caps : Caps end1.v k) (d0_cap : Cap d0 41) (d1_cap : Cap d1 41) where
  crossing_caps : T (lt (mul binary32 d0 d1) zero32) → Caps (crossing end0 end1 d0 d1 index).v (suc (suc k))
  unfolding crossing
  crossing_caps crosses =
      let t = weight d0_cap.own d1_cap.own (cap_sub 41 tt d0_cap d1_cap).own crosses
      (cap_mul 41 41 tt d0_cap d1_cap).own in
      let along = b2_sub end1.v end0.v in
      caps_add end0.v (b2_scale (div binary32 d0 (sub binary32 d0 d1)) along) (suc k) fine
      (caps_widen k (suc k) wider end0_caps)
      (shrunk (div binary32 d0 (sub binary32 d0 d1)) along (suc k) next t
      (caps_sub end1.v end0.v k next end1_caps end0_caps))

-- ---- ends in a row
unfoldable pub EndsCap : List B2clipVertex → ℕ → Type 0
EndsCap [] k = Unit {0}
EndsCap (end ∷ ends) k = Caps end.v k × EndsCap ends k

pub two_ends : (end0 end1 : B2clipVertex) (k : ℕ) → Caps end0.v k → Caps end1.v k
    → EndsCap (end0 ∷ end1 ∷ []) k
unfolding EndsCap
two_ends end0 end1 k h g = (h, (g, tt))

kept_caps : (test : Bool) (end : B2clipVertex) (rest : List B2clipVertex) (k : ℕ) → (test ≡ true → Caps end.v k)
    → EndsCap rest k → EndsCap (cond test (end ∷ rest) rest) k
unfolding EndsCap
kept_caps true end rest k h g = (h refl, g)
kept_caps false end rest k h g = g

-- a side whose numbers are finite: a normal of at most 2^5 m and an offset of at most 2^40 m
pub record Side (normal : B2vec2) (offset : Float) : Type 0 where
  pub normal_caps : Caps normal 5
  pub offset_cap : Cap offset 40

module _ (normal : B2vec2) (offset : Float) (index k : ℕ) (side : Side normal offset) (within : T (leb k 27))
    (fine : T (leb (suc (suc k)) 100)) (next : T (leb (suc k) 100)) (wider : T (leb k (suc k)))
    (widest : T (leb k (suc (suc k)))) where
  distance_cap : (end : B2clipVertex) → Caps end.v k → Cap (clip_distance normal offset end) 41
  unfolding clip_distance
  distance_cap end h =
      cap_sub 40 tt
      (cap_widen 33 40 tt (cap_dot normal end.v 5 27 tt tt side.normal_caps (caps_widen k 27 within h)))
      side.offset_cap

  clipped_caps : (ends : List B2clipVertex) → EndsCap ends k
      → EndsCap (clipped ends normal offset index) (suc (suc k))
  unfolding EndsCap clipped clipped_by
  clipped_caps [] h = tt
  clipped_caps (end ∷ []) h = tt
  clipped_caps (end0 ∷ end1 ∷ ends) h =
      let d0 = distance_cap end0 h.0 in
      let d1 = distance_cap end1 h.1.0 in
      let d0_is = clip_distance normal offset end0 in
      let d1_is = clip_distance normal offset end1 in
      kept_caps (le d0_is zero32) end0 _ (suc (suc k)) (λ kept. caps_widen k (suc (suc k)) widest h.0)
      (kept_caps (le d1_is zero32) end1 _ (suc (suc k)) (λ kept. caps_widen k (suc (suc k)) widest h.1.0)
      (kept_caps (lt (mul binary32 d0_is d1_is) zero32) (crossing end0 end1 d0_is d1_is index) [] (suc (suc k))
      (λ crosses. crossing_caps end0 end1 d0_is d1_is index k fine next wider h.0 h.1.0 d0 d1
      (subst T (sym crosses) tt)) tt))

-- both sides of a face
pub sides_caps : (face : B2referenceFace) (edge : List B2clipVertex)
    → Side face.side_normal1 face.side_offset1 → Side face.side_normal2 face.side_offset2
    → EndsCap edge 23 → EndsCap (clipped_to_sides face edge) 27
unfolding clipped_to_sides
sides_caps face edge side1 side2 h =
    clipped_caps face.side_normal2 face.side_offset2 face.i2 25 side2 tt tt tt tt tt _
    (clipped_caps face.side_normal1 face.side_offset1 face.i1 23 side1 tt tt tt tt tt edge h)
