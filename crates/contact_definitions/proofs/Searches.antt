-- The searches of specs/Searches, a place at a time, for code that runs them in a loop; and two functions that agree
-- below the count are searched alike. Assumes nothing.
use mathlib.Core.Path.{◌≡◌, refl, sym, ap, ap₂, ◌∙◌}
use mathlib.Core.Bool.{Bool, true, false, cond, ◌||◌, or-true}
use mathlib.Core.List.{List, ◌∷◌, map}
use mathlib.Core.Logic.{◌⊎◌, inl, inr}
use Prim.Native.Nat.{ℕ, zero, suc, ◌+◌, ◌-◌, ◌<◌, ◌≤◌}
use native.Mathlib.Numerals.{add-one}
use native.Mathlib.Omega.{arith}
use lib.Ieee.{Float}
use Rattle.algebra.specs.Loops.{places, scan}
use Rattle.algebra.proofs.Booleans.{less_or_not}
use Rattle.contact_definitions.specs.Searches.{some_below, valued, first_greatest}

one_place : (j n : ℕ) → j < n → places j (n - j) ≡ j ∷ places (j + 1) (n - (j + 1))
one_place j n within = ap (places j) count ∙ ap (λ (k : ℕ). j ∷ places k (n - (j + 1))) (sym (add-one j))
  where
    count : n - j ≡ suc (n - (j + 1))
    count = omega arith

-- all of n are left at place 0
pub scan_starts : {A : Type 0} (test : A → A → Bool) (f : ℕ → A) (candidate : A) (n : ℕ)
    → scan test candidate (map f (places 0 (n - 0))) ≡ scan test candidate (map f (places 0 n))
scan_starts test f candidate n = ap (λ (k : ℕ). scan test candidate (map f (places 0 k))) all
  where
    all : n - 0 ≡ n
    all = omega arith

-- ---- a scan of the values of f, from place j on: n - j are left
module _ {A : Type 0} (test : A → A → Bool) (f : ℕ → A) (candidate answer : A) (j n : ℕ)
    (so_far : scan test candidate (map f (places j (n - j))) ≡ answer) where
  next : j < n
      → scan test (cond (test candidate (f j)) (f j) candidate) (map f (places (j + 1) (n - (j + 1)))) ≡ answer
  next within = ap (λ (js : List ℕ). scan test candidate (map f js)) (sym (one_place j n within)) ∙ so_far

  pub scanned : (new : A) → j < n → new ≡ cond (test candidate (f j)) (f j) candidate
      → scan test new (map f (places (j + 1) (n - (j + 1)))) ≡ answer
  scanned new within New_is =
      ap (λ (e : A). scan test e (map f (places (j + 1) (n - (j + 1))))) New_is ∙ next within

  -- the candidate gives way to the value at j, or stays
  pub replaced_by : (new : A) → j < n → test candidate (f j) ≡ true → new ≡ f j
      → scan test new (map f (places (j + 1) (n - (j + 1)))) ≡ answer
  replaced_by new within holds New_is =
      scanned new within (New_is ∙ ap (λ (t : Bool). cond t (f j) candidate) (sym holds))

  pub kept_over : j < n → test candidate (f j) ≡ false
      → scan test candidate (map f (places (j + 1) (n - (j + 1)))) ≡ answer
  kept_over within fails = scanned candidate within (ap (λ (t : Bool). cond t (f j) candidate) (sym fails))

  pub scanned_all : n ≤ j → candidate ≡ answer
  scanned_all past = ap (λ (k : ℕ). scan test candidate (map f (places j k))) (sym none_left) ∙ so_far
    where
      none_left : n - j ≡ 0
      none_left = omega arith

-- ---- functions that agree
module _ {A : Type 0} (f g : ℕ → A) where
  values_same : (i n : ℕ) → ((k : ℕ) → k < i + n → f k ≡ g k) → map f (places i n) ≡ map g (places i n)
  values_same i zero same = refl
  values_same i (suc n) same =
      ap₂ ◌∷◌ (same i (omega arith)) (values_same (suc i) n (λ (k : ℕ) (h : k < suc i + n). same k (omega arith)))

  mapped_same : (n : ℕ) → ((k : ℕ) → k < n → f k ≡ g k) → map f (places 0 n) ≡ map g (places 0 n)
  mapped_same n same = values_same 0 n (λ (k : ℕ) (h : k < 0 + n). same k (omega arith))

module _ (f g : ℕ → Float) (count : ℕ) (same : (k : ℕ) → k < count → f k ≡ g k) where
  valued_same : map (valued f) (places 0 count) ≡ map (valued g) (places 0 count)
  valued_same = mapped_same (valued f) (valued g) count
      (λ (k : ℕ) (h : k < count). ap (λ (x : Float). record { place = k; value = x }) (same k h))

  pub first_greatest_same : first_greatest f count ≡ first_greatest g count
  unfolding first_greatest
  first_greatest_same = ap (scan _ _) valued_same

-- ---- some place below a count passes a test
module _ (test : ℕ → Bool) where
  at_last : (i n : ℕ) → (i < n → some_below test n ≡ true) → i < suc n → test i ≡ true → (i < n) ⊎ (n ≤ i)
      → some_below test n || test n ≡ true
  at_last i n earlier within here (inl less) = ap (λ (t : Bool). t || test n) (earlier less)
  at_last i n earlier within here (inr past) =
      let last : n ≡ i = omega arith in
      ap (λ (t : Bool). some_below test n || t) (ap test last ∙ here) ∙ or-true (some_below test n)

  pub some_here : (i n : ℕ) → i < n → test i ≡ true → some_below test n ≡ true
  unfolding some_below
  some_here i zero within here = absurd (omega arith)
  some_here i (suc n) within here = at_last i n (λ less. some_here i n less here) within here (less_or_not i n)

  pub none_next : (i : ℕ) → some_below test i ≡ false → test i ≡ false → some_below test (i + 1) ≡ false
  unfolding some_below
  none_next i none here = ap (some_below test) (add-one i) ∙ ap (λ (t : Bool). t || test i) none ∙ here
