-- Welding with a test that only equal points pass keeps every point of the list once. Assumes nothing.
use mathlib.Core.Path.{◌≡◌, refl, sym, subst}
use mathlib.Core.List.Memᴰ
use mathlib.Core.List.{
  List,
  [],
  ◌∷◌,
  Memᴰ,
}
use mathlib.Core.Logic.{◌⊎◌, inl, inr}
use mathlib.Core.Bool.{Bool, true, false, not}
use Prim.Native.Nat.{◌+◌, ◌≤◌}
use native.Mathlib.Omega.{arith}
use lib.Dec.{T, T_not}
use lib.ListN.{length, length-append}
use mir.Facts.{or_yes}
use Rattle.algebra.specs.Lists.{Once}
use Rattle.algebra.proofs.Lists.{once_snoc}
use Rattle.algebra.proofs.Booleans.{or_left, or_right}
use Rattle.algebra.specs.Loops.{near_any, keep_unless, weld}

module _ {A : Type 0} (near : A → A → Bool) where
  -- ---- none twice: a point is near itself
  module _ (near_own : (a : A) → T (near a a)) where
    mem_near : (a : A) (kept : List A) → Memᴰ a kept → T (near_any near a kept)
    mem_near a [] m = absurd (Memᴰ.not-nil m)
    mem_near a (k ∷ kept) m = go (mem_near a kept) (Memᴰ.cases_cons m)
      where
        go : (Memᴰ a kept → T (near_any near a kept)) → (a ≡ k) ⊎ Memᴰ a kept → T (near_any near a (k ∷ kept))
        go later (inl e) = or_left (near a k) (near_any near a kept) (subst (λ (b : A). T (near a b)) e (near_own a))
        go later (inr h) = or_right (near a k) (near_any near a kept) (later h)

    pub weld_once : (l kept : List A) → Once kept → Once (weld near kept l)
    weld_once [] kept once = once
    weld_once (a ∷ l) kept once =
        weld_once l (keep_unless (near_any near a kept) kept a)
        (go (near_any near a kept) (λ t m. T_not (near_any near a kept) t (mem_near a kept m)))
      where
        go : (t : Bool) → (T (not t) → ¬ Memᴰ a kept) → Once (keep_unless t kept a)
        go true new = once
        go false new = once_snoc kept a once (new tt)

  pub weld_length : (l kept : List A) → length (weld near kept l) ≤ length kept + length l
  weld_length [] kept = omega arith
  weld_length (a ∷ l) kept =
      omega (arith, weld_length l (keep_unless (near_any near a kept) kept a), one_more (near_any near a kept))
    where
      one_more : (t : Bool) → length (keep_unless t kept a) ≤ length kept + 1
      one_more true = omega arith
      one_more false = simp length-append (omega arith)

  -- what is welded is of the list
  pub weld_within : (l kept : List A) (a : A) → Memᴰ a (weld near kept l) → Memᴰ a kept ⊎ Memᴰ a l
  weld_within [] kept a m = inl m
  weld_within (b ∷ l) kept a m = go (weld_within l (keep_unless (near_any near b kept) kept b) a m)
    where
      last : Memᴰ a kept ⊎ Memᴰ a (b ∷ []) → Memᴰ a kept ⊎ Memᴰ a (b ∷ l)
      last (inl k) = inl k
      last (inr k) = inr (Memᴰ.head (Memᴰ.eq_of_singleton k))

      back : (t : Bool) → Memᴰ a (keep_unless t kept b) → Memᴰ a kept ⊎ Memᴰ a (b ∷ l)
      back true k = inl k
      back false k = last (Memᴰ.append_cases kept k)

      go : Memᴰ a (keep_unless (near_any near b kept) kept b) ⊎ Memᴰ a l
          → Memᴰ a kept ⊎ Memᴰ a (b ∷ l)
      go (inl k) = back (near_any near b kept) k
      go (inr k) = inr (Memᴰ.tail k)

  -- ---- all of them: points near another are equal to it
  module _ (Good : A → Type 0) (near_eq : (a b : A) → Good a → Good b → T (near a b) → a ≡ b) where
    near_mem : (a : A) (kept : List A) → Good a → ((k : A) → Memᴰ k kept → Good k) → T (near_any near a kept)
        → Memᴰ a kept
    near_mem a [] a_good kept_good t = absurd t
    near_mem a (k ∷ kept) a_good kept_good t =
        go (near_mem a kept a_good (λ b m. kept_good b (Memᴰ.tail m)))
        (or_yes (near a k) (near_any near a kept) t)
      where
        go : (T (near_any near a kept) → Memᴰ a kept) → T (near a k) ⊎ T (near_any near a kept)
            → Memᴰ a (k ∷ kept)
        go later (inl h) = Memᴰ.head (near_eq a k a_good (kept_good k (Memᴰ.head refl)) h)
        go later (inr h) = Memᴰ.tail (later h)

    -- the points kept so far stay good
    keep_good : (t : Bool) (a : A) (kept : List A) → Good a → ((k : A) → Memᴰ k kept → Good k) → (k : A)
        → Memᴰ k (keep_unless t kept a) → Good k
    keep_good true a kept a_good kept_good k m = kept_good k m
    keep_good false a kept a_good kept_good k m = go (Memᴰ.append_cases kept m)
      where
        go : Memᴰ k kept ⊎ Memᴰ k (a ∷ []) → Good k
        go (inl h) = kept_good k h
        go (inr h) = subst Good (sym (Memᴰ.eq_of_singleton h)) a_good

    pub weld_all : (l kept : List A) (a : A) → ((k : A) → Memᴰ k kept → Good k)
        → ((k : A) → Memᴰ k l → Good k)
        → Memᴰ a kept ⊎ Memᴰ a l → Memᴰ a (weld near kept l)
    weld_all [] kept a kept_good l_good (inl m) = m
    weld_all [] kept a kept_good l_good (inr m) = absurd (Memᴰ.not-nil m)
    weld_all (b ∷ l) kept a kept_good l_good h =
        weld_all l (keep_unless (near_any near b kept) kept b) a
        (keep_good (near_any near b kept) b kept b_good kept_good)
        (λ k m. l_good k (Memᴰ.tail m)) (go h)
      where
        b_good : Good b
        b_good = l_good b (Memᴰ.head refl)

        old : (t : Bool) → Memᴰ a kept → Memᴰ a (keep_unless t kept b)
        old true m = m
        old false m = Memᴰ.append_left (b ∷ []) m

        new : (t : Bool) → (T t → Memᴰ b kept) → a ≡ b → Memᴰ a (keep_unless t kept b)
        new true known e = Memᴰ.cast e (known tt)
        new false known e = Memᴰ.append_right kept (Memᴰ.head e)

        this : (a ≡ b) ⊎ Memᴰ a l → Memᴰ a (keep_unless (near_any near b kept) kept b) ⊎ Memᴰ a l
        this (inl e) = inl (new (near_any near b kept) (near_mem b kept b_good kept_good) e)
        this (inr m) = inr m

        go : Memᴰ a kept ⊎ Memᴰ a (b ∷ l)
            → Memᴰ a (keep_unless (near_any near b kept) kept b) ⊎ Memᴰ a l
        go (inl m) = inl (old (near_any near b kept) m)
        go (inr m) = this (Memᴰ.cases_cons m)
