-- The scan for the normal most against another, a place at a time. Assumes nothing.
use mathlib.Core.Path.{◌≡◌, sym, ◌∙◌, ap, ap₂}
use mathlib.Core.Bool.{Bool, true, false, cond}
use Prim.Native.Nat.{ℕ, ◌+◌, ◌-◌, ◌<◌}
use lib.Ieee.{Float, lt}
use Rattle.algebra.specs.Loops.{places, scan}
use Rattle.algebra.proofs.Loops.{scan_next}
use Rattle.floats.specs.declared.b2_math.B2vec2.{B2vec2}
use Rattle.floats.specs.declared.b2_math.B2Transform.{B2Transform}
use Rattle.floats.specs.B2Math.{b2_dot}
use Rattle.shape_definitions.specs.declared.b2_polygon_shape.B2polygonShape.{B2polygonShape}
use Rattle.contact_definitions.specs.EdgeAxis.{placed_normal}
use Rattle.contact_definitions.specs.EdgeReference.{most_against}

module _ (xf : B2Transform) (poly : B2polygonShape) (normal : B2vec2) where
  abbrev pub dot_at : ℕ → Float
  dot_at i = b2_dot normal (placed_normal xf poly i)

  abbrev pub more_against : ℕ → ℕ → Bool
  more_against best i = lt (dot_at i) (dot_at best)

  -- what the scan keeps from place i on
  abbrev pub against_from : ℕ → ℕ → ℕ → ℕ
  against_from index i count = scan more_against index (places i (count - i))

  pub against_begun : (count : ℕ) → poly.m_count ≡ count → against_from 0 1 count ≡ most_against xf poly normal
  unfolding most_against
  against_begun count count_is = ap (λ (n : ℕ). scan more_against 0 (places 1 (n - 1))) (sym count_is)

  module _ (index i count answer : ℕ) (value best : Float) (within : i < count) (value_is : value ≡ dot_at i)
      (best_is : best ≡ dot_at index) (so_far : against_from index i count ≡ answer) where
    next_kept : (t : Bool) → lt value best ≡ t → against_from (cond t i index) (i + 1) count ≡ answer
    next_kept t test =
        ap (λ (u : Bool). against_from (cond u i index) (i + 1) count) (sym test ∙ ap₂ lt value_is best_is)
        ∙ scan_next more_against index i count answer within so_far

    pub against_taken : lt value best ≡ true → against_from i (i + 1) count ≡ answer
    against_taken = next_kept true

    pub against_left : lt value best ≡ false → against_from index (i + 1) count ≡ answer
    against_left = next_kept false
