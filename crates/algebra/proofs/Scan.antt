-- The scan through all places: what it finds is one of them, and is best among them for every relation that the test
-- keeps up. Assumes nothing.
use mathlib.Core.Path.{◌≡◌, refl, sym, subst}
use mathlib.Core.List.Memᴰ
use mathlib.Core.List.{List, [], ◌∷◌, Memᴰ}
use mathlib.Core.Logic.{◌⊎◌, inl, inr}
use mathlib.Core.Bool.{Bool, true, false, not, cond}
use lib.Dec.{T}
use Rattle.algebra.specs.Loops.{scan}

module _ {A : Type 0} (replaces : A → A → Bool) where
  pub scan_mem : (js : List A) (e : A) → Memᴰ (scan replaces e js) (e ∷ js)
  scan_mem [] e = Memᴰ.head refl
  scan_mem (j ∷ js) e = go (replaces e j) (Memᴰ.cases_cons (scan_mem js (cond (replaces e j) j e)))
    where
      go : {a : A} (t : Bool) → (a ≡ cond t j e) ⊎ Memᴰ a js → Memᴰ a (e ∷ j ∷ js)
      go true (inl h) = Memᴰ.tail (Memᴰ.head h)
      go false (inl h) = Memᴰ.head h
      go t (inr h) = Memᴰ.tail (Memᴰ.tail h)

  -- where the test fails the candidate is better than the new one; where it passes the new one is better than all
  -- that the candidate was
  module _ (Good : A → Type 0) (Better : A → A → Type 0)
      (own : (a : A) → Better a a)
      (kept : (e j : A) → Good e → Good j → T (not (replaces e j)) → Better e j)
      (replaced : (e j r : A) → Good e → Good j → Good r → T (replaces e j) → Better e r → Better j r) where
    pub scan_best : (js : List A) (e r : A) → Good e → ((j : A) → Memᴰ j js → Good j) → Good r
        → Better e r ⊎ Memᴰ r js
        → Better (scan replaces e js) r
    scan_best [] e r e_good js_good r_good (inl h) = h
    scan_best [] e r e_good js_good r_good (inr m) = absurd (Memᴰ.not-nil m)
    scan_best (j ∷ js) e r e_good js_good r_good h =
        scan_best js (cond (replaces e j) j e) r (good (replaces e j)) (λ i m. js_good i (Memᴰ.tail m)) r_good
        (seen h)
      where
        j_good : Good j
        j_good = js_good j (Memᴰ.head refl)

        good : (t : Bool) → Good (cond t j e)
        good true = j_good
        good false = e_good

        old : (t : Bool) → (T t → T (replaces e j)) → Better e r → Better (cond t j e) r
        old true is k = replaced e j r e_good j_good r_good (is tt) k
        old false is k = k

        new : (t : Bool) → (T (not t) → T (not (replaces e j))) → Better (cond t j e) j
        new true is = own j
        new false is = kept e j e_good j_good (is tt)

        now : (r ≡ j) ⊎ Memᴰ r js → Better (cond (replaces e j) j e) r ⊎ Memᴰ r js
        now (inl k) = inl (subst (Better (cond (replaces e j) j e)) (sym k) (new (replaces e j) (λ t. t)))
        now (inr m) = inr m

        seen : Better e r ⊎ Memᴰ r (j ∷ js) → Better (cond (replaces e j) j e) r ⊎ Memᴰ r js
        seen (inl k) = inl (old (replaces e j) (λ t. t) k)
        seen (inr m) = now (Memᴰ.cases_cons m)
