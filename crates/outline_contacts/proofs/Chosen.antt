-- The axis, from the two faces that the code has found: apart by A's, apart by B's, on a face of B, on a face of A.
-- Assumes nothing.
use mathlib.Core.Path.{◌≡◌, refl, sym, ap, ◌∙◌}
use mathlib.Core.Bool.{true, false}
use mathlib.Core.List.{List, []}
use Prim.Native.Nat.{ℕ}
use lib.Ieee.{Float, binary32, add, lt}
use Rattle.floats.specs.declared.b2_math.B2vec2.{B2vec2}
use Rattle.floats.specs.declared.b2_math.B2Transform.{B2Transform}
use Rattle.floats.specs.B2Math.{b2_mul_t_transform}
use Rattle.shape_definitions.specs.Outline.{point_at}
use Rattle.contact_definitions.specs.declared.axis.Best.{Best}
use Rattle.contact_definitions.specs.declared.axis.Axis.{Axis}
use Rattle.contact_definitions.specs.declared.axis.Axis.TheVariants.{Apart}
use Rattle.contact_definitions.specs.Searches.{first_greatest}
use Rattle.contact_definitions.specs.Axis.{face_a, face_b}
use Rattle.contact_definitions.specs.B2CollidePolygon.{face_separation, b2_find_max_separation, tolerance, axis_of}
use Rattle.contact_definitions.specs.B2CollidePolygon.{polygons_axis}
use Rattle.outline_contacts.specs.declared.rows.FarthestFace.{FarthestFace}
use Rattle.outline_contacts.specs.FaceRows.{faced}
use Rattle.outline_contacts.specs.Outlines.{outlined}

-- ---- what one search finds: the face and its separation, and the normal there
abbrev best_of : FarthestFace → Best
best_of r = record { place = r.place; value = r.value }

pub record Found (v1s n1s : List B2vec2) (count1 : ℕ) (xf1 : B2Transform) (v2s n2s : List B2vec2) (count2 : ℕ)
    (xf2 : B2Transform) (r : FarthestFace) : Type 0 where
  pub best : best_of r ≡ b2_find_max_separation (outlined v1s n1s count1) xf1 (outlined v2s n2s count2) xf2
  pub normal_there : r.normal ≡ point_at n1s r.place

pub found : (v1s n1s : List B2vec2) (count1 : ℕ) (xf1 : B2Transform) (v2s n2s : List B2vec2) (count2 : ℕ)
    (xf2 xf : B2Transform) (r : FarthestFace) → xf ≡ b2_mul_t_transform xf2 xf1
    → r ≡ faced n1s (first_greatest (face_separation xf (outlined v1s n1s count1) (outlined v2s [] count2)) count1)
    → Found v1s n1s count1 xf1 v2s n2s count2 xf2 r
unfolding b2_find_max_separation face_separation
found v1s n1s count1 xf1 v2s n2s count2 xf2 xf r xf_is r_is = record {
  best = ap best_of r_is
      ∙ ap (λ (t : B2Transform). first_greatest (face_separation t (outlined v1s n1s count1) (outlined v2s n2s
      count2)) count1)
      xf_is;
  normal_there = ap (λ (f : FarthestFace). f.normal) r_is ∙ sym (ap (λ (f : FarthestFace). point_at n1s f.place)
      r_is);
}

-- ---- the choice
module _ (total : Float) (va na : List B2vec2) (ca : ℕ) (xa : B2Transform) (vb nb : List B2vec2) (cb : ℕ)
    (xb : B2Transform) (a : FarthestFace) (a_found : Found va na ca xa vb nb cb xb a) where
  abbrev axis : Axis
  axis = polygons_axis total (outlined va na ca) xa (outlined vb nb cb) xb

  pub apart_by_a : lt total a.value ≡ true → Apart a.value ≡ axis
  unfolding polygons_axis axis_of
  apart_by_a above = rw (← a_found.best, above) refl

  module _ (b : FarthestFace) (b_found : Found vb nb cb xb va na ca xa b) (not_above : lt total a.value ≡ false)
    where
      pub apart_by_b : lt total b.value ≡ true → Apart b.value ≡ axis
      unfolding polygons_axis axis_of
      apart_by_b above = rw (← a_found.best, ← b_found.best, not_above, above) refl

      module _ (nor_above : lt total b.value ≡ false) where
        pub on_face_b : lt (add binary32 a.value tolerance) b.value ≡ true
            → face_b b.value b.normal b.place ≡ axis
        unfolding polygons_axis axis_of
        on_face_b above =
            rw (← a_found.best, ← b_found.best, not_above, nor_above, above, b_found.normal_there) refl

        pub on_face_a : lt (add binary32 a.value tolerance) b.value ≡ false
            → face_a a.value a.normal a.place ≡ axis
        unfolding polygons_axis axis_of
        on_face_a not_over =
            rw (← a_found.best, ← b_found.best, not_above, nor_above, not_over, a_found.normal_there) refl
