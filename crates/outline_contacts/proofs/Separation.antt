-- The greatest of the least distances in the rows is the greatest separation. Assumes nothing.
use mathlib.Core.Path.{◌≡◌, ap, ap₂, ◌∙◌}
use mathlib.Core.List.{List, []}
use Prim.Native.Nat.{ℕ, ◌<◌, ◌≤◌}
use native.Mathlib.Omega.{arith}
use lib.Ieee.{Float}
use Rattle.floats.specs.declared.b2_math.B2vec2.{B2vec2}
use Rattle.floats.specs.declared.b2_math.B2Transform.{B2Transform}
use Rattle.floats.specs.B2Common.{b2_max_float}
use Rattle.floats.specs.B2Math.{b2_sub, b2_dot}
use Rattle.shape_definitions.specs.Outline.{point_at}
use Rattle.contact_definitions.specs.Searches.{least, first_greatest}
use Rattle.contact_definitions.specs.B2CollidePolygon.{face_separation}
use Rattle.contact_definitions.proofs.Searches.{first_greatest_same}
use Rattle.outline_contacts.specs.declared.rows.FarthestFace.{FarthestFace}
use Rattle.outline_contacts.specs.FaceRows.{at, FaceRows, distance_at, least_from, LeastRow, faced}
use Rattle.outline_contacts.specs.Outlines.{outlined}

module _ (xf : B2Transform) (v1s n1s v2s : List B2vec2) (count1 count2 n : ℕ) (nxs nys xs ys old row : List Float)
    (rows : FaceRows xf v1s n1s n nxs nys xs ys) (enough : count1 ≤ n)
    (starts : (i : ℕ) → i < n → at old i ≡ b2_max_float)
    (lowest : LeastRow nxs nys xs ys v2s count2 n old row) where
  separation_is : (i : ℕ) → i < count1
      → at row i ≡ face_separation xf (outlined v1s n1s count1) (outlined v2s [] count2) i
  unfolding least_from least face_separation
  separation_is i below =
      lowest.least_at i (omega arith)
      ∙ ap (λ (m : Float). least_from m (λ k. distance_at nxs nys xs ys (point_at v2s k) i) count2)
      (starts i (omega arith))
      ∙ ap₂ (λ (m v : B2vec2). least (λ k. b2_dot m (b2_sub (point_at v2s k) v)) count2) (rows.normals i (omega arith))
      (rows.corners i (omega arith))

  pub greatest_separation : (r : FarthestFace) → r ≡ faced n1s (first_greatest (at row) count1)
      → r ≡ faced n1s (first_greatest (face_separation xf (outlined v1s n1s count1) (outlined v2s [] count2)) count1)
  greatest_separation r r_is = r_is ∙ ap (faced n1s) (first_greatest_same _ _ count1 separation_is)
