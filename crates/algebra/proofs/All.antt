-- A test of all elements of a list: passed where every element, or what stands at every place, passes; and a place at a
-- time, up to the first that fails. Assumes nothing.
use mathlib.Core.Path.{◌≡◌, refl, sym, ◌∙◌, ap}
use mathlib.Core.Bool.{Bool, true, false, ◌&&◌}
use mathlib.Core.List.{List, [], ◌∷◌, Memᴰ}
use Prim.Native.Nat.{ℕ, suc, ◌+◌, ◌<◌}
use native.Mathlib.Numerals.{add-one}
use native.Mathlib.Omega.{arith}
use lib.ListN.{length, get_or, drop}
use lib.Dec.{T}
use lib.Seq.{drop-cons, drop-length}
use mir.Facts.{yes_and}
use Rattle.algebra.specs.Lists.{all_of}

module _ {A : Type 0} where
  -- a is the element at place i
  module _ (test : A → Bool) (l : List A) (i : ℕ) (a d : A) (within : i < length l) (a_is : a ≡ get_or l i d)
      (so_far : all_of test (drop i l) ≡ all_of test l) where
    here : all_of test (drop i l) ≡ test a && all_of test (drop (i + 1) l)
    here = rw (add-one, drop-cons l i d, a_is)

    pub all_failed : test a ≡ false → false ≡ all_of test l
    all_failed fails = sym (sym so_far ∙ here ∙ ap (λ (t : Bool). t && all_of test (drop (i + 1) l)) fails)

    pub all_next : test a ≡ true → all_of test (drop (i + 1) l) ≡ all_of test l
    all_next holds = sym (sym so_far ∙ here ∙ ap (λ (t : Bool). t && all_of test (drop (i + 1) l)) holds)

  pub all_ended : (test : A → Bool) (l : List A) (i : ℕ) → i ≡ length l → all_of test (drop i l) ≡ all_of test l
      → true ≡ all_of test l
  all_ended test l i end so_far = ap (all_of test) (sym (drop-length l) ∙ ap (λ (k : ℕ). drop k l) (sym end)) ∙ so_far

  -- ---- every element, every place
  pub all_mem : (test : A → Bool) (l : List A) → ((a : A) → Memᴰ a l → T (test a)) → T (all_of test l)
  all_mem test [] of = tt
  all_mem test (a ∷ l) of =
      yes_and (test a) (all_of test l) (of a (Memᴰ.head refl))
      (all_mem test l (λ b m. of b (Memᴰ.tail m)))

  pub all_at : (test : A → Bool) (l : List A) (d : A) → ((i : ℕ) → i < length l → T (test (get_or l i d)))
      → T (all_of test l)
  all_at test [] d at = tt
  all_at test (a ∷ l) d at =
      yes_and (test a) (all_of test l) (at 0 (omega arith)) (all_at test l d (λ i h. at (suc i) (omega arith)))
