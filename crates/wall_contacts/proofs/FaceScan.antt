-- The scan through the outline's faces, a face at a time: s, x and y are read from rows. Assumes nothing.
use mathlib.Core.Path.{◌≡◌, refl, sym, ◌∙◌, ap}
use mathlib.Core.List.{map}
use mathlib.Core.Bool.{Bool, true, false, cond}
use Prim.Native.Nat.{ℕ}
use lib.Ieee.{Float, neg, lt}
use Rattle.algebra.specs.Loops.{places}
use Rattle.rounding.specs.Literals.{zero32}
use Rattle.floats.specs.declared.b2_math.B2vec2.{B2vec2}
use Rattle.floats.specs.declared.b2_math.B2Transform.{B2Transform}
use Rattle.floats.specs.B2Common.{b2_max_float}
use Rattle.floats.specs.B2Math.{b2_neg}
use Rattle.shape_definitions.specs.declared.b2_polygon_shape.B2polygonShape.{B2polygonShape}
use Rattle.contact_definitions.specs.declared.axis.Axis.{Axis}
use Rattle.contact_definitions.specs.declared.axis.Axis.TheVariants.{FaceB}
use Rattle.contact_definitions.specs.Axis.{keeps_farther, farthest}
use Rattle.contact_definitions.specs.EdgeAxis.{placed_corner, placed_normal, outline_axis}
use Rattle.contact_definitions.specs.EdgeAxis.{b2_compute_polygon_separation}
use Rattle.contact_definitions.proofs.Searches.{scan_starts}
use Rattle.wall_contacts.specs.PlacedRows.{face_distance}
use Rattle.wall_contacts.proofs.Scans.{scanned_from}

module _ (xf : B2Transform) (poly : B2polygonShape) (v1 v2 : B2vec2) where
  -- what the scan keeps from face j on
  abbrev pub faces_from : Axis → ℕ → ℕ → Axis
  faces_from kept j n = scanned_from keeps_farther (outline_axis xf poly v1 v2) kept j n

  pub faces_begun : (count : ℕ) → poly.m_count ≡ count
      → faces_from (FaceB (neg b2_max_float) zero32 zero32 0) 0 count ≡ b2_compute_polygon_separation xf poly v1 v2
  unfolding b2_compute_polygon_separation
  faces_begun count count_is =
      scan_starts keeps_farther (outline_axis xf poly v1 v2) (FaceB (neg b2_max_float) zero32 zero32 0) count
      ∙ ap (λ (n : ℕ). farthest (FaceB (neg b2_max_float) zero32 zero32 0)
      (map (outline_axis xf poly v1 v2) (places 0 n)))
      (sym count_is)

  module _ (i : ℕ) (s separation kept_x kept_y : Float) (kept_place : ℕ)
      (s_is : s ≡ face_distance (placed_normal xf poly i) (placed_corner xf poly i) v1 v2) where
    abbrev kept_face : Axis
    kept_face = FaceB separation kept_x kept_y kept_place

    face_here : (x y : Float) → x ≡ (placed_normal xf poly i).x → y ≡ (placed_normal xf poly i).y
        → FaceB s (neg x) (neg y) i ≡ outline_axis xf poly v1 v2 i
    unfolding outline_axis face_distance b2_neg
    face_here x y x_is y_is = rw (s_is, x_is, y_is) refl

    -- face i is farther than the one kept
    pub face_taken : (x y : Float) → x ≡ (placed_normal xf poly i).x → y ≡ (placed_normal xf poly i).y
        → lt separation s ≡ true
        → FaceB s (neg x) (neg y) i
        ≡ cond (keeps_farther kept_face (outline_axis xf poly v1 v2 i)) (outline_axis xf poly v1 v2 i) kept_face
    face_taken x y x_is y_is farther =
        ap (λ (t : Bool). cond t (FaceB s (neg x) (neg y) i) kept_face) (sym farther)
        ∙ ap (λ (a : Axis). cond (keeps_farther kept_face a) a kept_face) (face_here x y x_is y_is)

    -- it is not
    pub face_left : lt separation s ≡ false
        → kept_face ≡ cond (keeps_farther kept_face (outline_axis xf poly v1 v2 i))
        (outline_axis xf poly v1 v2 i) kept_face
    face_left not_farther =
        ap (λ (t : Bool). cond t (FaceB s (neg (placed_normal xf poly i).x) (neg (placed_normal xf poly i).y) i)
        kept_face) (sym not_farther)
        ∙ ap (λ (a : Axis). cond (keeps_farther kept_face a) a kept_face) (face_here _ _ refl refl)
