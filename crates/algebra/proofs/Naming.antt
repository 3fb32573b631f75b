-- The builder's three loops commute with a naming of the points, g : A → B, that keeps their tests: places of an
-- array for points, floats for whole numbers. So loops whose tests agree on the points in question agree, and a walk
-- stays among them where its step does. Assumes nothing.
use mathlib.Core.Path.{◌≡◌, refl, sym, ap, ap₂, ◌∙◌, subst}
use mathlib.Core.List.Memᴰ
use mathlib.Core.List.{List, [], ◌∷◌, Memᴰ}
use mathlib.Core.List.{map, map-append, map-id}
use mathlib.Core.Logic.{◌⊎◌, inl, inr}
use mathlib.Core.Bool.{Bool, true, false, cond, ◌||◌}
use mathlib.Core.Option
use mathlib.Core.Option.{Option, none, some}
use Prim.Native.Nat.{ℕ, zero, suc}
use Rattle.algebra.specs.Loops.{near_any, keep_unless, weld, scan, stop_or, walk}

module _ {A B : Type 0} (g : A → B) where
  cond_map : (t : Bool) (a b : A) → cond t (g a) (g b) ≡ g (cond t a b)
  cond_map true a b = refl
  cond_map false a b = refl

  keep_map : (t : Bool) (kept : List A) (a : A) → keep_unless t (map g kept) (g a) ≡ map g (keep_unless t kept a)
  keep_map true kept a = refl
  keep_map false kept a = sym (map-append g kept (a ∷ []))

  stop_map : (t : Bool) (p : A) (row : Option (List A))
      → stop_or t (g p) (Option.map (map g) row) ≡ Option.map (map g) (stop_or t p row)
  stop_map true p row = refl
  stop_map false p none = refl
  stop_map false p (some row) = refl

  -- the points in question
  module _ (In : A → Type 0) where
    -- ---- the scan
    cond_in : (t : Bool) (a b : A) → In a → In b → In (cond t a b)
    cond_in true a b a_in b_in = a_in
    cond_in false a b a_in b_in = b_in

    module _ (testA : A → A → Bool) (testB : B → B → Bool) (same_test : (e j : A) → In e → In j
        → testB (g e) (g j) ≡ testA e j) where
      pub scan_map : (js : List A) (e : A) → In e → ((j : A) → Memᴰ j js → In j)
          → scan testB (g e) (map g js) ≡ g (scan testA e js)
      scan_map [] e e_in js_in = refl
      scan_map (j ∷ js) e e_in js_in =
          ap (λ (a : B). scan testB a (map g js))
          (ap (λ (t : Bool). cond t (g j) (g e)) (same_test e j e_in (js_in j (Memᴰ.head refl)))
          ∙ cond_map (testA e j) j e)
          ∙ scan_map js (cond (testA e j) j e) (cond_in (testA e j) j e (js_in j (Memᴰ.head refl)) e_in)
          (λ a m. js_in a (Memᴰ.tail m))

      -- ---- welding
      near_map : (a : A) (kept : List A) → In a → ((k : A) → Memᴰ k kept → In k)
          → near_any testB (g a) (map g kept) ≡ near_any testA a kept
      near_map a [] a_in kept_in = refl
      near_map a (k ∷ kept) a_in kept_in =
          ap₂ ◌||◌ (same_test a k a_in (kept_in k (Memᴰ.head refl)))
          (near_map a kept a_in (λ b m. kept_in b (Memᴰ.tail m)))

      keep_in : (t : Bool) (kept : List A) (a : A) → In a → ((k : A) → Memᴰ k kept → In k) → (k : A)
          → Memᴰ k (keep_unless t kept a) → In k
      keep_in true kept a a_in kept_in k m = kept_in k m
      keep_in false kept a a_in kept_in k m = go (Memᴰ.append_cases kept m)
        where
          go : Memᴰ k kept ⊎ Memᴰ k (a ∷ []) → In k
          go (inl h) = kept_in k h
          go (inr h) = subst In (sym (Memᴰ.eq_of_singleton h)) a_in

      pub weld_map : (l kept : List A) → ((k : A) → Memᴰ k kept → In k) → ((k : A) → Memᴰ k l → In k)
          → weld testB (map g kept) (map g l) ≡ map g (weld testA kept l)
      weld_map [] kept kept_in l_in = refl
      weld_map (a ∷ l) kept kept_in l_in =
          ap (λ (k : List B). weld testB k (map g l))
          (ap (λ (t : Bool). keep_unless t (map g kept) (g a))
          (near_map a kept (l_in a (Memᴰ.head refl)) kept_in)
          ∙ keep_map (near_any testA a kept) kept a)
          ∙ weld_map l (keep_unless (near_any testA a kept) kept a)
          (keep_in (near_any testA a kept) kept a (l_in a (Memᴰ.head refl)) kept_in)
          (λ k m. l_in k (Memᴰ.tail m))

    -- ---- the walk
    module _ (sameA : A → A → Bool) (sameB : B → B → Bool) (same_same : (p q : A) → In p → In q
        → sameB (g p) (g q) ≡ sameA p q)
        (nextA : A → A) (nextB : B → B) (same_next : (p : A) → In p → nextB (g p) ≡ g (nextA p))
        (next_in : (p : A) → In p → In (nextA p))
        (start : A) (start_in : In start) where
      pub walk_map : (fuel : ℕ) (p : A) → In p → walk sameB nextB (g start) fuel (g p) ≡ Option.map (map g)
          (walk sameA nextA start fuel p)
      walk_map zero p p_in = refl
      walk_map (suc fuel) p p_in =
          ap (λ (q : B). stop_or (sameB q (g start)) (g p) (walk sameB nextB (g start) fuel q)) (same_next p p_in)
          ∙ ap₂ (λ (t : Bool) (row : Option (List B)). stop_or t (g p) row)
          (same_same (nextA p) start (next_in p p_in) start_in)
          (walk_map fuel (nextA p) (next_in p p_in))
          ∙ stop_map (sameA (nextA p) start) p (walk sameA nextA start fuel (nextA p))

-- ---- loops whose tests agree
module _ {A : Type 0} (In : A → Type 0) where
  pub scan_agree : (testA testB : A → A → Bool) → ((e j : A) → In e → In j → testB e j ≡ testA e j)
      → (js : List A) (e : A) → In e
      → ((j : A) → Memᴰ j js → In j) → scan testB e js ≡ scan testA e js
  scan_agree testA testB agree js e e_in js_in =
      ap (scan testB e) (sym (map-id js)) ∙ scan_map (λ a. a) In testA testB agree js e e_in js_in

  pub walk_agree : (same : A → A → Bool) (nextA nextB : A → A) → ((p : A) → In p → nextB p ≡ nextA p)
      → ((p : A) → In p → In (nextA p))
      → (start : A) (fuel : ℕ) → In start → walk same nextB start fuel start ≡ walk same nextA start fuel start
  walk_agree same nextA nextB agree next_in start fuel start_in =
      walk_map (λ a. a) In same same
      (λ p q p_in q_in. refl) nextA nextB agree next_in start start_in fuel start start_in
      ∙ same_row (walk same nextA start fuel start)
    where
      same_row : (o : Option (List A)) → Option.map (map (λ a. a)) o ≡ o
      same_row none = refl
      same_row (some l) = ap some (map-id l)

  -- ---- the walk stays among the points in question
  abbrev pub InRow : Option (List A) → Type 0
  InRow none = Unit {0}
  InRow (some r) = (a : A) → Memᴰ a r → In a

  pub walk_in : (same : A → A → Bool) (next : A → A) → ((p : A) → In p → In (next p)) → (start : A) (fuel : ℕ) (p : A)
      → In p
      → InRow (walk same next start fuel p)
  walk_in same next next_in start zero p p_in = tt
  walk_in same next next_in start (suc fuel) p p_in =
      go (same (next p) start) (walk same next start fuel (next p))
      (walk_in same next next_in start fuel (next p) (next_in p p_in))
    where
      more : (r : List A) → ((a : A) → Memᴰ a r → In a) → (a : A) → (a ≡ p) ⊎ Memᴰ a r → In a
      more r r_in a (inl e) = subst In (sym e) p_in
      more r r_in a (inr m) = r_in a m

      go : (t : Bool) (o : Option (List A)) → InRow o → InRow (stop_or t p o)
      go true o o_in = λ a m. subst In (sym (Memᴰ.eq_of_singleton m)) p_in
      go false none o_in = tt
      go false (some r) o_in = λ a m. more r o_in a (Memᴰ.cases_cons m)
