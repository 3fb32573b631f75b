-- Request 08's sentences about the answer to two measured bodies. Definitions only.
use Rattle.std.specs.Prelude.{◌≡◌, ℕ}
use Rattle.measured_definitions.specs.Verdicts.{Kind, Verdict, Right, RightOf, outcome}

pub record MeasuredLaws (k : Kind) (answer : k.Measured → k.Measured → Verdict k.Whole) (a b : k.Measured)
    : Type 1 where
  -- it is right of every two bodies inside the ranges
  pub right : Right k a b (answer a b)
  -- no other is, whichever denominators are asked for beside 1: whole numbers, all fractions, tenths have one verdict
  pub only : (Denominator : ℕ → Type 0) → Denominator 1 → (v : Verdict k.Whole) → RightOf k Denominator a b v
      → outcome v ≡ outcome (answer a b)
  -- swapping the two bodies gives the same verdict
  pub swap : outcome (answer b a) ≡ outcome (answer a b)
