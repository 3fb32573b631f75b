-- The convexity test over the corners' coordinates, a place, a corner and a face at a time. The definition leaves the
-- ends of a face out; they are not right of it, so a test of every corner answers the same. Assumes nothing.
use mathlib.Core.Path.{◌≡◌, refl, sym, ◌∙◌, ap}
use mathlib.Core.Bool.{Bool, true, false, not, ◌&&◌, ◌||◌, and-false}
use mathlib.Core.List.{List, [], ◌∷◌, map, zip_with}
use mathlib.Core.Logic.{inl, inr}
use Prim.Native.Nat.{ℕ, zero, suc, ◌+◌, ◌<◌, min}
use native.Mathlib.Nat.{min-eq_left, min-eq_right}
use native.Mathlib.Numerals.{add-one}
use native.Mathlib.Omega.{arith}
use lib.Dec.{ltb, eqb}
use lib.ListN.{length, get_or}
use lib.Ieee.{Float, lt}
use borrow.Author.Tests.{eqb-true, lt-ltb, le-ltb, not-false, not-true}
use Rattle.algebra.proofs.Booleans.{less_or_not}
use Rattle.floats.specs.declared.b2_math.B2vec2.{B2vec2}
use Rattle.rounding.specs.Literals.{zero32}
use Rattle.floats.specs.B2Math.{vec2, b2_sub, b2_cross}
use Rattle.shape_definitions.specs.Outline.{point_at, place_after}
use Rattle.shape_definitions.specs.Validate.{not_right_of, corners_not_right, faces_convex}
use Rattle.floats.proofs.Ends.{first_end_not_right, second_end_not_right}

-- ---- coordinates
joined_coordinates : (vs : List B2vec2) → zip_with vec2 (map (λ v. v.x) vs) (map (λ v. v.y) vs) ≡ vs
unfolding zip_with
joined_coordinates [] = refl
joined_coordinates (v ∷ vs) = ap (◌∷◌ v) (joined_coordinates vs)

pub joined_at : (xs ys : List Float) (j : ℕ) (d : Float) → j < length xs → j < length ys
    → vec2 (get_or xs j d) (get_or ys j d) ≡ point_at (zip_with vec2 xs ys) j
unfolding zip_with
joined_at [] ys j d in_xs in_ys = absurd (omega arith)
joined_at (x ∷ xs) [] j d in_xs in_ys = absurd (omega arith)
joined_at (x ∷ xs) (y ∷ ys) zero d in_xs in_ys = refl
joined_at (x ∷ xs) (y ∷ ys) (suc j) d in_xs in_ys = joined_at xs ys j d (omega arith) (omega arith)

-- ---- corners
ends_left : (first second right : Bool) → (first ≡ true → right ≡ false) → (second ≡ true → right ≡ false)
    → (first || second || not right) ≡ not right
ends_left true second right h k = ap not (sym (h refl))
ends_left false true right h k = ap not (sym (k refl))
ends_left false false right h k = refl

grown : (ok here : Bool) → (not ok || (here && true)) ≡ not (ok && not here)
grown true true = refl
grown true false = refl
grown false true = refl
grown false false = refl

kept : (right here : Bool) → (right || (here && false)) ≡ right
kept true here = refl
kept false true = refl
kept false false = refl

module _ (vs : List B2vec2) (count i : ℕ) where
  abbrev pub right_at : ℕ → Bool
  right_at j =
      lt (b2_cross (b2_sub (point_at vs (place_after count i)) (point_at vs i))
      (b2_sub (point_at vs j) (point_at vs i))) zero32

  not_right_at : (j : ℕ) → not_right_of vs count i j ≡ not (right_at j)
  not_right_at j =
      ends_left (eqb j i) (eqb j (place_after count i)) (right_at j)
      (λ e. ap right_at (eqb-true j i e) ∙ first_end_not_right _ (point_at vs i))
      (λ e. ap right_at (eqb-true j (place_after count i) e) ∙ second_end_not_right _)

  pub corners_next : (j : ℕ) (right here : Bool) → right ≡ not (corners_not_right vs count i (min j count))
      → here ≡ right_at j
      → (right || (here && ltb j count)) ≡ not (corners_not_right vs count i (min (j + 1) count))
  unfolding corners_not_right
  corners_next j right here so_far here_is = elim (less_or_not j count) [
    | inl below ↦ rw (
      lt-ltb j count below,
      min-eq_left {n = j + 1} {m = count} (omega arith),
      add-one j,
      so_far,
      min-eq_left {n = j} {m = count} (omega arith),
      not_right_at j,
      here_is,
    ) (grown (corners_not_right vs count i j) (right_at j))
    | inr past ↦ rw (
      le-ltb j count past,
      min-eq_right {n = count} {m = j + 1} (omega arith),
      so_far,
      min-eq_right {n = count} {m = j} (omega arith),
    ) (kept (not (corners_not_right vs count i count)) here)
  ]

-- from the corners that the code reads
pub right_is : (vs : List B2vec2) (count i j next : ℕ) (p q v e : B2vec2) (here : Bool) → p ≡ point_at vs i
    → next ≡ place_after count i → q ≡ point_at vs next → e ≡ b2_sub q p → v ≡ point_at vs j
    → here ≡ lt (b2_cross e (b2_sub v p)) zero32 → here ≡ right_at vs count i j
right_is vs count i j next p q v e here p_is next_is q_is e_is v_is here_is =
    rw (here_is, e_is, q_is, p_is, v_is, next_is) refl

-- ---- faces
pub joined_faces : (vs : List B2vec2) (xs ys : List Float) (count : ℕ) → xs ≡ map (λ v. v.x) vs
    → ys ≡ map (λ v. v.y) vs
    → faces_convex (zip_with vec2 xs ys) count count ≡ faces_convex vs count count
joined_faces vs xs ys count xs_is ys_is = rw (xs_is, ys_is, joined_coordinates vs) refl

pub faces_next : (vs : List B2vec2) (count i : ℕ) (right : Bool) → right ≡ not (corners_not_right vs count i count)
    → right ≡ false
    → faces_convex vs count i ≡ true → faces_convex vs count (i + 1) ≡ true
unfolding faces_convex
faces_next vs count i right right_is fails so_far = rw (add-one, so_far) (not-false _ (sym right_is ∙ fails))

fails_from : (vs : List B2vec2) (count i n : ℕ) → i < n → corners_not_right vs count i count ≡ false
    → faces_convex vs count n ≡ false
unfolding faces_convex
fails_from vs count i zero below fails = absurd (omega arith)
fails_from vs count i (suc n) below fails = elim (less_or_not i n) [
  | inl earlier ↦ rw (fails_from vs count i n earlier fails) refl
  | inr last ↦ let same : n ≡ i = omega arith in
      ap (λ k. faces_convex vs count n && corners_not_right vs count k count) same
      ∙ ap (λ t. faces_convex vs count n && t) fails ∙ and-false (faces_convex vs count n)
]

pub faces_failed : (vs : List B2vec2) (count i n : ℕ) (right : Bool) → right ≡ not (corners_not_right vs count i count)
    → right ≡ true → i < n → faces_convex vs count n ≡ false
faces_failed vs count i n right right_is found below =
    fails_from vs count i n below (not-true (corners_not_right vs count i count) (sym right_is ∙ found))
