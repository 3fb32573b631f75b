-- The four quarters of a heading, from the entry and its mirror as they are read off the table. Assumes nothing.
use mathlib.Core.Path.{◌≡◌, refl, sym, ap, ap₂, ◌∙◌}
use mathlib.Core.List.{List}
use Prim.Native.Nat.{ℕ, ◌-◌, ◌/◌, ◌%◌}
use native.Mathlib.Omega.{arith}
use lib.Ieee.{Float, nan}
use lib.ListN.{get_or}
use borrow.Author.Tests.{ne_eqb}
use Rattle.floats.specs.B2Math.{rot}
use Rattle.headings.specs.Headings.{quarter_wave, quarter_waves, opposite, in_quarter, heading}
use Rattle.headings.proofs.Table.{table_entry}

-- from the fourth quarter on
last_quarter : (quarter : ℕ) (t m : Float) → (quarter ≡ 0 → ⊥) → (quarter ≡ 1 → ⊥) → (quarter ≡ 2 → ⊥)
    → rot (opposite m) t ≡ in_quarter quarter t m
last_quarter quarter t m no_0 no_1 no_2 = simp (ne_eqb _ _ no_0, ne_eqb _ _ no_1, ne_eqb _ _ no_2)

module _ (row : List Float) (row_is : row ≡ quarter_waves) (number : ℕ) where
  abbrev pub t : Float
  t = get_or row (number % 1024) nan

  abbrev pub mirror : Float
  mirror = get_or row (1024 - number % 1024) nan

  -- in the quarter that the number has
  in_its_quarter : (quarter : ℕ) → number / 1024 ≡ quarter → in_quarter quarter t mirror ≡ heading number
  unfolding heading
  in_its_quarter quarter is =
      ap₂ (in_quarter quarter) (table_entry row (number % 1024) nan row_is (omega arith))
      (table_entry row (1024 - number % 1024) nan row_is (omega arith))
      ∙ ap (λ (k : ℕ). in_quarter k (quarter_wave (number % 1024)) (quarter_wave (1024 - number % 1024))) (sym is)

  pub first_is : number / 1024 ≡ 0 → rot t mirror ≡ heading number
  first_is is = in_its_quarter 0 is

  pub second_is : (o : Float) → o ≡ opposite t → number / 1024 ≡ 1 → rot mirror o ≡ heading number
  second_is o o_is is = ap (rot mirror) o_is ∙ in_its_quarter 1 is

  pub third_is : (o p : Float) → o ≡ opposite t → p ≡ opposite mirror → number / 1024 ≡ 2 → rot o p ≡ heading number
  third_is o p o_is p_is is = ap₂ rot o_is p_is ∙ in_its_quarter 2 is

  pub fourth_is : (o : Float) → o ≡ opposite mirror → (number / 1024 ≡ 0 → ⊥) → (number / 1024 ≡ 1 → ⊥)
      → (number / 1024 ≡ 2 → ⊥) → rot o t ≡ heading number
  fourth_is o o_is no_0 no_1 no_2 =
      ap (λ (x : Float). rot x t) o_is
      ∙ last_quarter (number / 1024) t mirror no_0 no_1 no_2 ∙ in_its_quarter (number / 1024) refl
