-- Lists without repeats and their places: a list without repeats whose elements all lie in another is no longer than it
-- (the pigeonhole), an element that is not there may be added at the end, and each place holds an element of its own;
-- places of the first n elements, one more at the end, and a copy, or f of each element, made a place at a time.
-- Assumes nothing.
use mathlib.Core.Path.{◌≡◌, refl, sym, ap, ap₂, ◌∙◌}
use mathlib.Core.List.Memᴰ
use mathlib.Core.List.{
  List,
  [],
  ◌∷◌,
  ◌++◌,
  Memᴰ,
  map,
  map-append,
}
use mathlib.Core.Logic.{◌⊎◌, inl, inr}
use Prim.Native.Nat.{ℕ, zero, suc, ◌+◌, ◌≤◌, ◌<◌, zero-le}
use native.Mathlib.Numerals.{add-one}
use native.Mathlib.Omega.{arith}
use lib.ListN.{length, get_or, take, set, length-append}
use lib.Seq.{length-take-le, take_all, take-suc, take-suc-set}
use Rattle.algebra.specs.Lists.{Once}

module _ {A : Type 0} where
  -- ---- the pigeonhole
  -- l without one place of a: one shorter, and with every element but a
  record Without (a : A) (l : List A) : Type 0 where
    rest : List A
    shorter : length l ≡ suc (length rest)
    others : (b : A) → ¬ (b ≡ a) → Memᴰ b l → Memᴰ b rest

  without : (a : A) (l : List A) → Memᴰ a l → Without a l
  without a [] m = absurd (Memᴰ.not-nil m)
  without a (c ∷ l) m = go (without a l) (Memᴰ.cases_cons m)
    where
      go : (Memᴰ a l → Without a l) → (a ≡ c) ⊎ Memᴰ a l → Without a (c ∷ l)
      go ih (inl e) = record { rest = l; shorter = refl; others = λ b n k. this b n (Memᴰ.cases_cons k) }
        where
          this : (b : A) → ¬ (b ≡ a) → (b ≡ c) ⊎ Memᴰ b l → Memᴰ b l
          this b n (inl k) = absurd (n (k ∙ sym e))
          this b n (inr k) = k
      go ih (inr k) =
          record {
            rest = c ∷ (ih k).rest;
            shorter = ap suc (ih k).shorter;
            others = λ b n i. that b n
                (Memᴰ.cases_cons i);
          }
        where
          that : (b : A) → ¬ (b ≡ a) → (b ≡ c) ⊎ Memᴰ b l → Memᴰ b (c ∷ (ih k).rest)
          that b n (inl i) = Memᴰ.head i
          that b n (inr i) = Memᴰ.tail ((ih k).others b n i)

  pub pigeonhole : (l m : List A) → Once l → ((a : A) → Memᴰ a l → Memᴰ a m) → length l ≤ length m
  pigeonhole [] m once within = zero-le
  pigeonhole (a ∷ l) m once within =
      let w = without a m (within a (Memᴰ.head refl)) in
      let shorter = w.shorter in
      let fits = pigeonhole l w.rest once.1
      (λ b k. w.others b (λ e. once.0 (Memᴰ.cast (sym e) k)) (within b (Memᴰ.tail k))) in
      omega arith

  -- ---- one more, at the end
  pub once_snoc : (l : List A) (a : A) → Once l → ¬ Memᴰ a l → Once (l ++ (a ∷ []))
  once_snoc [] a once new = (Memᴰ.not-nil, tt)
  once_snoc (b ∷ l) a once new =
      (λ m. not_later (Memᴰ.append_cases l m), once_snoc l a once.1 (λ m. new (Memᴰ.tail m)))
    where
      not_later : Memᴰ b l ⊎ Memᴰ b (a ∷ []) → ⊥
      not_later (inl m) = once.0 m
      not_later (inr m) = new (Memᴰ.head (sym (Memᴰ.eq_of_singleton m)))

  -- ---- places
  pub getD_mem : (l : List A) (i : ℕ) (d : A) → i < length l → Memᴰ (get_or l i d) l
  getD_mem [] i d h = absurd (omega arith)
  getD_mem (a ∷ l) zero d h = Memᴰ.head refl
  getD_mem (a ∷ l) (suc i) d h = Memᴰ.tail (getD_mem l i d (omega arith))

  pub once_place : (l : List A) (d : A) → Once l → (i j : ℕ) → i < length l → j < length l → get_or l i d ≡ get_or l j d
      → i ≡ j
  once_place [] d once i j i<n j<n e = absurd (omega arith)
  once_place (a ∷ l) d once zero zero i<n j<n e = refl
  once_place (a ∷ l) d once zero (suc j) i<n j<n e = absurd (once.0 (Memᴰ.cast e (getD_mem l j d (omega arith))))
  once_place (a ∷ l) d once (suc i) zero i<n j<n e = absurd (once.0 (Memᴰ.cast (sym e) (getD_mem l i d (omega arith))))
  once_place (a ∷ l) d once (suc i) (suc j) i<n j<n e =
      ap suc (once_place l d once.1 i j (omega arith) (omega arith) e)

  -- within a list it does not matter what is said to stand past its end
  pub getD_within : (l : List A) (i : ℕ) (d e : A) → i < length l → get_or l i d ≡ get_or l i e
  getD_within [] i d e within = absurd (omega arith)
  getD_within (x ∷ l) zero d e within = refl
  getD_within (x ∷ l) (suc i) d e within = getD_within l i d e (omega arith)

  -- a place below n is a place of the first n
  pub first_places : (n j : ℕ) (l : List A) → j < n → n ≤ length l → j < length (take n l)
  first_places n j l below few = omega (arith, length-take-le n l few)

  -- all of a list, by its first places
  pub whole_row : (n : ℕ) (l m : List A) → take n l ≡ m → length l ≡ n → l ≡ m
  whole_row n l m first size = sym (take_all n l (omega arith)) ∙ first

  -- ---- one more at the end
  pub length_one_more : (l : List A) (a : A) (n : ℕ) → length l ≡ n → length (l ++ (a ∷ [])) ≡ n + 1
  length_one_more l a n n_is = length-append l (a ∷ []) ∙ ap (λ (k : ℕ). k + 1) n_is

  -- ---- a copy, a place at a time: the first i places are those of l
  module _ (l new : List A) (i : ℕ) (so_far : take i new ≡ take i l) where
    pub copied_next : (v d : A) → i < length l → i < length new → v ≡ get_or l i d
        → take (i + 1) (set new i v) ≡ take (i + 1) l
    copied_next v d within room v_is =
        ap (λ (k : ℕ). take k (set new i v)) (add-one i) ∙ take-suc-set new i v room
        ∙ ap₂ (λ (a : List A) (q : A). a ++ (q ∷ [])) so_far v_is ∙ sym (take-suc l i d within)
        ∙ ap (λ (k : ℕ). take k l) (sym (add-one i))

    pub copied : length new ≡ i → length l ≡ i → new ≡ l
    copied new_length l_length = whole_row i new l (so_far ∙ take_all i l (omega arith)) new_length

-- ---- f of each element, a place at a time
module _ {A B : Type 0} (f : A → B) (l : List A) (new : List B) (i : ℕ) (so_far : take i new ≡ map f (take i l)) where
  pub mapped_next : (d : A) → i < length l → i < length new
      → take (i + 1) (set new i (f (get_or l i d))) ≡ map f (take (i + 1) l)
  mapped_next d within room =
      rw add-one
      (take-suc-set new i (f (get_or l i d)) room ∙ ap (λ (m : List B). m ++ (f (get_or l i d) ∷ [])) so_far
      ∙ sym (ap (map f) (take-suc l i d within) ∙ map-append f (take i l) (get_or l i d ∷ [])))

  pub mapped : length l ≡ i → length new ≡ i → new ≡ map f l
  mapped l_length new_length = whole_row i new (map f l) (so_far ∙ ap (map f) (take_all i l (omega arith))) new_length
