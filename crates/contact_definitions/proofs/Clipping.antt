-- What a clip leaves, by the tests of the two distances: both ends; the end that is left, and the crossing or not; or
-- nothing. So it never leaves three, whatever the numbers. Assumes nothing.
use mathlib.Core.Path.{◌≡◌, refl, ap}
use mathlib.Core.Bool.{Bool, true, false}
use mathlib.Core.List.{List, [], ◌∷◌}
use Prim.Native.Nat.{ℕ, ◌≤◌}
use native.Mathlib.Omega.{arith}
use lib.ListN.{length}
use lib.Ieee.{Float, binary32, mul, le, lt}
use Rattle.floats.specs.declared.b2_math.B2vec2.{B2vec2}
use Rattle.rounding.specs.Literals.{zero32}
use Rattle.rounding.proofs.ProductSign.{product_of_both, product_of_neither}
use Rattle.contact_definitions.specs.declared.b2_collision.B2clipVertex.{B2clipVertex}
use Rattle.contact_definitions.specs.Clip.{crossing, kept_if, clipped_by, clipped}

-- ---- by the three tests
abbrev kept_by : B2clipVertex → B2clipVertex → B2clipVertex → Bool → Bool → Bool → List B2clipVertex
kept_by a b x first second crosses = kept_if first a (kept_if second b (kept_if crosses x []))

module _ (a b : B2clipVertex) (distance0 distance1 : Float) (index : ℕ) where
  abbrev x : B2clipVertex
  x = crossing a b distance0 distance1 index

  clipped_is : (first second crosses : Bool) → le distance0 zero32 ≡ first → le distance1 zero32 ≡ second
      → lt (mul binary32 distance0 distance1) zero32 ≡ crosses
      → clipped_by a b distance0 distance1 index ≡ kept_by a b x first second crosses
  unfolding clipped_by
  clipped_is first second crosses first_is second_is crosses_is = rw (first_is, second_is, crosses_is)

  pub both_left : le distance0 zero32 ≡ true → le distance1 zero32 ≡ true
      → clipped_by a b distance0 distance1 index ≡ a ∷ b ∷ []
  both_left first second = clipped_is true true false first second (product_of_both distance0 distance1 first second)

  pub first_and_crossing : le distance0 zero32 ≡ true → le distance1 zero32 ≡ false
      → lt (mul binary32 distance0 distance1) zero32 ≡ true
      → clipped_by a b distance0 distance1 index ≡ a ∷ crossing a b distance0 distance1 index ∷ []
  first_and_crossing = clipped_is true false true

  pub first_left : le distance0 zero32 ≡ true → le distance1 zero32 ≡ false
      → lt (mul binary32 distance0 distance1) zero32 ≡ false → clipped_by a b distance0 distance1 index ≡ a ∷ []
  first_left = clipped_is true false false

  pub second_and_crossing : le distance0 zero32 ≡ false → le distance1 zero32 ≡ true
      → lt (mul binary32 distance0 distance1) zero32 ≡ true
      → clipped_by a b distance0 distance1 index ≡ b ∷ crossing a b distance0 distance1 index ∷ []
  second_and_crossing = clipped_is false true true

  pub second_left : le distance0 zero32 ≡ false → le distance1 zero32 ≡ true
      → lt (mul binary32 distance0 distance1) zero32 ≡ false → clipped_by a b distance0 distance1 index ≡ b ∷ []
  second_left = clipped_is false true false

  pub none_left : le distance0 zero32 ≡ false → le distance1 zero32 ≡ false
      → clipped_by a b distance0 distance1 index ≡ []
  none_left first second =
      clipped_is false false false first second (product_of_neither distance0 distance1 first second)

  -- ---- never three
  few : (first second : Bool) → le distance0 zero32 ≡ first → le distance1 zero32 ≡ second
      → length (clipped_by a b distance0 distance1 index) ≤ 2
  few true true first second = omega (arith, ap length (both_left first second))
  few true false first second =
      by_crossing (lt (mul binary32 distance0 distance1) zero32) (clipped_is true false _ first second refl)
    where
      by_crossing : (t : Bool) → clipped_by a b distance0 distance1 index ≡ kept_by a b x true false t
          → length (clipped_by a b distance0 distance1 index) ≤ 2
      by_crossing true e = omega (arith, ap length e)
      by_crossing false e = omega (arith, ap length e)
  few false true first second =
      by_crossing (lt (mul binary32 distance0 distance1) zero32) (clipped_is false true _ first second refl)
    where
      by_crossing : (t : Bool) → clipped_by a b distance0 distance1 index ≡ kept_by a b x false true t
          → length (clipped_by a b distance0 distance1 index) ≤ 2
      by_crossing true e = omega (arith, ap length e)
      by_crossing false e = omega (arith, ap length e)
  few false false first second = omega (arith, ap length (none_left first second))

pub never_three : (ends : List B2clipVertex) (normal : B2vec2) (offset : Float) (index : ℕ)
    → length (clipped ends normal offset index) ≤ 2
unfolding clipped
never_three [] normal offset index = omega arith
never_three (end ∷ []) normal offset index = omega arith
never_three (end0 ∷ end1 ∷ ends) normal offset index = few end0 end1 _ _ index _ _ refl refl
