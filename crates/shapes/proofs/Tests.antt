-- The tests of the outline builder, from the values that the code computes on the way. Assumes nothing.
use mathlib.Core.Path.{◌≡◌, sym, ◌∙◌, ap, ap₂}
use mathlib.Core.Bool.{Bool, cond, ◌||◌}
use Prim.Native.Nat.{ℕ, ◌+◌, ◌-◌, ◌<◌, ◌≤◌}
use mathlib.Core.List.{List}
use lib.Dec.{eqb}
use lib.ListN.{length, take}
use lib.Seq.{length-take-le, get_or-take}
use Rattle.algebra.specs.Loops.{places, scan}
use Rattle.algebra.proofs.Loops.{scan_next}
use Rattle.floats.specs.declared.b2_math.B2vec2.{B2vec2}
use Rattle.floats.specs.B2Math.{b2_sub}
use Rattle.shape_definitions.specs.Outline.{origin, point_at, later_places, earlier, turns_closer, closer, replaces}

-- the point at a place of the first n
pub at_first_place : (l : List B2vec2) (n i : ℕ) → i < n → point_at (take n l) i ≡ point_at l i
at_first_place l n i within = get_or-take n l i origin within

-- the test that replaces the candidate, from the vectors that the code has: r to the candidate, v to the other point
pub replaces_by : (l : List B2vec2) (ih ie j : ℕ) (corner r v : B2vec2) (z : Bool) → corner ≡ point_at l ih
    → r ≡ b2_sub (point_at l ie) corner → v ≡ b2_sub (point_at l j) corner → z ≡ (eqb ie ih || turns_closer r v)
    → z ≡ replaces l ih ie j
unfolding closer
replaces_by l ih ie j corner r v z corner_is r_is v_is z_is =
    z_is ∙ ap₂ (λ (a b : B2vec2). eqb ie ih || turns_closer a b)
    (r_is ∙ ap (b2_sub (point_at l ie)) corner_is) (v_is ∙ ap (b2_sub (point_at l j)) corner_is)

-- ---- one step of the two scans, over the whole array and over its first n places
pub earlier_first : (l : List B2vec2) (n best i : ℕ) → best < n → i < n → earlier (take n l) best i ≡ earlier l best i
earlier_first l n best i best_in i_in = simp (at_first_place l n best best_in, at_first_place l n i i_in)

pub replaces_first : (l : List B2vec2) (n corner candidate j : ℕ) → corner < n → candidate < n → j < n
    → replaces (take n l) corner candidate j ≡ replaces l corner candidate j
replaces_first l n corner candidate j corner_in candidate_in j_in =
    simp (at_first_place l n corner corner_in, at_first_place l n candidate candidate_in, at_first_place l n j j_in)

-- the new candidate r of a scan of the places below n
module _ (t : Bool) (r candidate j n : ℕ) (r_is : r ≡ cond t j candidate) (within : j < n) where
  pub scanned_next : (test : ℕ → ℕ → Bool) (answer : ℕ) → test candidate j ≡ t
      → scan test candidate (places j (n - j)) ≡ answer
      → scan test r (places (j + 1) (n - (j + 1))) ≡ answer
  scanned_next test answer test_is so_far =
      ap (λ (k : ℕ). scan test k (places (j + 1) (n - (j + 1))))
      (r_is ∙ ap (λ (u : Bool). cond u j candidate) (sym test_is))
      ∙ scan_next test candidate j n answer within so_far

pub scanned_from_one : (test : ℕ → ℕ → Bool) (l : List B2vec2) (n : ℕ) → n ≤ length l
    → scan test 0 (places 1 (n - 1)) ≡ scan test 0 (later_places (take n l))
scanned_from_one test l n few = ap (λ (k : ℕ). scan test 0 (places 1 (k - 1))) (sym (length-take-le n l few))
