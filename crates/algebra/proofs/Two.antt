-- Rows of two places: what stands over them, from what the code reads there. Assumes nothing.
use mathlib.Core.Path.{◌≡◌, refl}
use mathlib.Core.List.{List, [], ◌∷◌}
use native.Mathlib.Omega.{arith}
use lib.ListN.{length, get_or}
use Rattle.algebra.specs.Buffer.{over}

module _ {A : Type 0} where
  pub data Two : List A → Type 0 where
    two : (a b : A) → Two (a ∷ b ∷ [])

  pub two_of : (l : List A) → length l ≡ 2 → Two l
  two_of [] h = absurd (omega arith)
  two_of (a ∷ []) h = absurd (omega arith)
  two_of (a ∷ b ∷ []) h = two a b
  two_of (a ∷ b ∷ c ∷ l) h = absurd (omega arith)

  -- both places as they are
  pub both_places : (l : List A) (d : A) → length l ≡ 2 → get_or l 0 d ∷ get_or l 1 d ∷ [] ≡ l
  both_places l d h = go (two_of l h)
    where
      go : {m : List A} → Two m → get_or m 0 d ∷ get_or m 1 d ∷ [] ≡ m
      go (two a b) = refl

  -- a place below 2, whatever is said to stand past the end
  pub first_place : (l : List A) (c d : A) → length l ≡ 2 → get_or l 0 c ≡ get_or l 0 d
  first_place l c d h = go (two_of l h)
    where
      go : {m : List A} → Two m → get_or m 0 c ≡ get_or m 0 d
      go (two a b) = refl

  pub second_place : (l : List A) (c d : A) → length l ≡ 2 → get_or l 1 c ≡ get_or l 1 d
  second_place l c d h = go (two_of l h)
    where
      go : {m : List A} → Two m → get_or m 1 c ≡ get_or m 1 d
      go (two a b) = refl

  -- one over the first place, two over both
  pub one_over : (l : List A) (a d : A) → length l ≡ 2 → a ∷ get_or l 1 d ∷ [] ≡ over (a ∷ []) l
  one_over l a d h = go (two_of l h)
    where
      go : {m : List A} → Two m → a ∷ get_or m 1 d ∷ [] ≡ over (a ∷ []) m
      go (two b c) = refl

  pub two_over : (l : List A) (a b : A) → length l ≡ 2 → a ∷ b ∷ [] ≡ over (a ∷ b ∷ []) l
  two_over l a b h = go (two_of l h)
    where
      go : {m : List A} → Two m → a ∷ b ∷ [] ≡ over (a ∷ b ∷ []) m
      go (two c d) = refl
