-- Rows, a place at a time: what stands at the places below i after a store at i, and what stands past it. Assumes
-- nothing.
use mathlib.Core.Path.{◌≡◌, refl, sym, ap, ◌∙◌}
use mathlib.Core.Logic.{inl, inr}
use mathlib.Core.List.{List}
use Prim.Native.Nat.{ℕ, ◌+◌, ◌<◌, ◌≤◌}
use native.Mathlib.Omega.{arith}
use lib.ListN.{length, get_or, set, length-set}
use lib.Seq.{get_or-set_same, get_or-set_other}
use lib.Ieee.{Float, nan, binary32, add, sub, mul}
use Rattle.algebra.proofs.Booleans.{less_or_not}
use Rattle.algebra.proofs.Lists.{getD_within}
use Rattle.floats.specs.declared.b2_math.B2vec2.{B2vec2}
use Rattle.floats.specs.B2Math.{b2_sub, b2_dot}
use Rattle.shape_definitions.specs.Outline.{origin}
use Rattle.contact_definitions.specs.declared.axis.Best.{Best}
use Rattle.outline_contacts.specs.declared.rows.FarthestFace.{FarthestFace}
use Rattle.outline_contacts.specs.FaceRows.{Eight, at, distance_at, faced}

pub eight_set : (row : List Float) (i : ℕ) (x : Float) → Eight row → Eight (set row i x)
eight_set row i x eight = length-set row i x ∙ eight

-- ---- one row
module _ (row : List Float) (i : ℕ) (x : Float) where
  pub row_next : (f : ℕ → Float) → i < length row → ((k : ℕ) → k < i → at row k ≡ f k) → x ≡ f i
      → (k : ℕ) → k < i + 1 → at (set row i x) k ≡ f k
  row_next f within so_far x_is k below = elim (less_or_not k i) [
    | inl earlier ↦ get_or-set_other row i k x nan (λ e. omega arith) ∙ so_far k earlier
    | inr here ↦ let same : k ≡ i = omega arith in
        ap (at (set row i x)) same ∙ get_or-set_same row i x nan within ∙ x_is ∙ ap f (sym same)
  ]

  pub rest_next : (old : List Float) → ((k : ℕ) → i ≤ k → at row k ≡ at old k)
      → (k : ℕ) → i + 1 ≤ k → at (set row i x) k ≡ at old k
  rest_next old so_far k past = get_or-set_other row i k x nan (λ e. omega arith) ∙ so_far k (omega arith)

-- ---- a distance, as the code works it out
pub distance_is : (nxs nys xs ys : List Float) (v : B2vec2) (i : ℕ)
    → add binary32 (mul binary32 (at nxs i) (sub binary32 v.x (at xs i)))
    (mul binary32 (at nys i) (sub binary32 v.y (at ys i))) ≡ distance_at nxs nys xs ys v i
unfolding b2_dot b2_sub
distance_is nxs nys xs ys v i = refl

-- ---- the normal at the best place
pub faced_is : (ns : List B2vec2) (place : ℕ) (value : Float) (d : B2vec2) (best : Best) → place < length ns
    → record { place = place; value = value } ≡ best
    → ◌≡◌ {A = FarthestFace} (record { place = place; value = value; normal = get_or ns place d }) (faced ns best)
faced_is ns place value d best within best_is =
    ap (λ (n : B2vec2). record { place = place; value = value; normal = n }) (getD_within ns place d origin within)
    ∙ ap (faced ns) best_is
