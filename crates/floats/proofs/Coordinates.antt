-- Points as coordinates: a point read from a row of coordinates, and one stored there. Assumes nothing.
use mathlib.Core.Path.{◌≡◌, refl, sym, ◌∙◌, ap, ap₂}
use mathlib.Core.List.{List, [], ◌∷◌}
use Prim.Native.Nat.{ℕ, zero, suc, ◌+◌, ◌*◌, ◌≤◌, ◌<◌}
use native.Mathlib.Omega.{arith}
use lib.ListN.{length, get_or, set}
use lib.Ieee.{Float}
use Rattle.floats.specs.declared.b2_math.B2vec2.{B2vec2}
use Rattle.floats.specs.B2Math.{vec2}
use Rattle.floats.specs.Coordinates.{points_in}

-- where the coordinates of place i begin
abbrev first : ℕ → ℕ
first zero = zero
first (suc i) = suc (suc (first i))

first_is : (i : ℕ) → first i ≡ 2 * i
first_is zero = refl
first_is (suc i) = omega (arith, first_is i)

read_at : (xs : List Float) (i : ℕ) (d : Float) (e : B2vec2) → suc (first i) < length xs
    → vec2 (get_or xs (first i) d) (get_or xs (suc (first i)) d) ≡ get_or (points_in xs) i e
unfolding points_in
read_at [] i d e within = absurd (omega arith)
read_at (x ∷ []) i d e within = absurd (omega arith)
read_at (x ∷ y ∷ xs) zero d e within = refl
read_at (x ∷ y ∷ xs) (suc i) d e within = read_at xs i d e (omega arith)

stored_at : (xs : List Float) (i : ℕ) (x y : Float) → suc (first i) < length xs
    → points_in (set (set xs (first i) x) (suc (first i)) y) ≡ set (points_in xs) i (vec2 x y)
unfolding points_in
stored_at [] i x y within = absurd (omega arith)
stored_at (a ∷ []) i x y within = absurd (omega arith)
stored_at (a ∷ b ∷ xs) zero x y within = refl
stored_at (a ∷ b ∷ xs) (suc i) x y within = ap (◌∷◌ (vec2 a b)) (stored_at xs i x y (omega arith))

points_number : (xs : List Float) → 2 * length (points_in xs) ≤ length xs
unfolding points_in
points_number [] = omega arith
points_number (x ∷ []) = omega arith
points_number (x ∷ y ∷ xs) = omega (arith, points_number xs)

module _ (xs : List Float) (i : ℕ) (within : i < length (points_in xs)) where
  second_is : suc (first i) ≡ 2 * i + 1
  second_is = omega (arith, first_is i)

  second_within : suc (first i) < length xs
  second_within = omega (arith, first_is i, points_number xs)

  pub point_read : (d : Float) (e : B2vec2) → vec2 (get_or xs (2 * i) d) (get_or xs (2 * i + 1) d) ≡ get_or (points_in xs) i e
  point_read d e =
      ap₂ (λ (k l : ℕ). vec2 (get_or xs k d) (get_or xs l d)) (sym (first_is i)) (sym second_is)
      ∙ read_at xs i d e second_within

  pub point_stored : (x y : Float) → points_in (set (set xs (2 * i) x) (2 * i + 1) y) ≡ set (points_in xs) i (vec2 x y)
  point_stored x y =
      ap₂ (λ (k l : ℕ). points_in (set (set xs k x) l y)) (sym (first_is i)) (sym second_is)
      ∙ stored_at xs i x y second_within
