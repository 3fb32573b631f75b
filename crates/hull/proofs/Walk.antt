-- The walk comes back: a step that keeps to corners, and takes no two corners to one, leads back to its start before
-- any corner is met twice, within as many steps as there are points. Assumes nothing.
use mathlib.Core.Path.{◌≡◌, refl, sym, ◌∙◌, subst}
use mathlib.Core.List.Memᴰ
use mathlib.Core.List.{List, [], ◌∷◌, Memᴰ}
use mathlib.Core.Logic.{◌⊎◌, inl, inr}
use mathlib.Core.Bool.{Bool, true, false, not}
use mathlib.Core.Option.{some}
use Prim.Native.Nat.{ℕ, zero, suc, ◌+◌, ◌≤◌}
use native.Mathlib.Omega.{arith}
use lib.Dec.{T}
use lib.ListN.{length}
use Rattle.algebra.specs.Lists.{Once}
use Rattle.algebra.proofs.Lists.{pigeonhole}
use Rattle.hull.specs.Hull.{Linked}
use Rattle.algebra.specs.Loops.{walk}

module _ {A : Type 0} (same : A → A → Bool) (next : A → A) (start : A) where
  -- the walk from p after the corners `passed` gives a row p ∷ rest, linked and back at the start, none twice, none
  -- passed before
  pub record Walked (Corner : A → Type 0) (Side : A → A → Type 0) (fuel : ℕ) (p : A) (passed : List A) : Type 0 where
    pub rest : List A
    pub is : walk same next start fuel p ≡ some (p ∷ rest)
    pub linked : Linked Side start p rest
    pub once : Once (p ∷ rest)
    pub apart : (a : A) → Memᴰ a (p ∷ rest) → ¬ Memᴰ a passed
    pub corners : (a : A) → Memᴰ a (p ∷ rest) → Corner a

  module _ (Corner : A → Type 0) (Side : A → A → Type 0) (s : List A)
      (side : (p : A) → Corner p → Side p (next p))
      (next_corner : (p : A) → Corner p → Corner (next p))
      (within : (p : A) → Corner p → Memᴰ p s)
      (injective : (p q : A) → Corner p → Corner q → next p ≡ next q → p ≡ q)
      (same_eq : (p q : A) → Corner p → Corner q → T (same p q) → p ≡ q)
      (not_same : (p q : A) → T (not (same p q)) → ¬ (p ≡ q))
      (start_corner : Corner start) where
    -- the corners passed before p, the last first
    abbrev Trail : A → List A → Type 0
    Trail p [] = p ≡ start
    Trail p (r ∷ passed) = (p ≡ next r) × Corner r × Trail r passed

    -- each corner of a trail is the start, or what follows an earlier one
    abbrev Reached : A → List A → Type 0
    Reached a passed = (a ≡ start) ⊎ ((b : A) × Memᴰ b passed × Corner b × (a ≡ next b))

    trail_reached : (passed : List A) (p a : A) → Trail p passed → Memᴰ a (p ∷ passed) → Reached a passed
    trail_reached [] p a h m = go (Memᴰ.cases_cons m)
      where
        go : (a ≡ p) ⊎ Memᴰ a [] → Reached a []
        go (inl e) = inl (e ∙ h)
        go (inr k) = absurd (Memᴰ.not-nil k)
    trail_reached (r ∷ passed) p a h m = go (trail_reached passed r a h.2) (Memᴰ.cases_cons m)
      where
        longer : Reached a passed → Reached a (r ∷ passed)
        longer (inl e) = inl e
        longer (inr k) = inr (k.0, Memᴰ.tail k.1, k.2, k.3)

        go : (Memᴰ a (r ∷ passed) → Reached a passed) → (a ≡ p) ⊎ Memᴰ a (r ∷ passed) → Reached a (r ∷ passed)
        go ih (inl e) = inr (r, Memᴰ.head refl, h.1, e ∙ h.0)
        go ih (inr k) = longer (ih k)

    -- so what follows p is new, unless it is the start
    next_new : (passed : List A) (p : A) → Trail p passed → Corner p → Once (p ∷ passed) → ¬ (next p ≡ start)
        → ¬ Memᴰ (next p) (p ∷ passed)
    next_new passed p h c once not_back m = go (trail_reached passed p (next p) h m)
      where
        go : Reached (next p) passed → ⊥
        go (inl e) = not_back e
        go (inr k) = once.0 (Memᴰ.cast (injective p k.0 c k.2 k.3) k.1)

    all_corners : (p : A) (row : List A) → Corner p → ((a : A) → Memᴰ a row → Corner a) → (a : A)
        → Memᴰ a (p ∷ row) → Corner a
    all_corners p row c rest a m = go (Memᴰ.cases_cons m)
      where
        go : (a ≡ p) ⊎ Memᴰ a row → Corner a
        go (inl e) = subst Corner (sym e) c
        go (inr k) = rest a k

    -- one step: stop at the start, or go on
    walk_step : (fuel : ℕ) (p : A) (passed : List A) → Corner p → Once (p ∷ passed)
        → (¬ (next p ≡ start) → Walked Corner Side fuel (next p) (p ∷ passed))
        → (back : Bool) → same (next p) start ≡ back → (T back → next p ≡ start) → (T (not back) → ¬ (next p ≡ start))
        → Walked Corner Side (suc fuel) p passed
    walk_step fuel p passed c once on true is yes_back not_back = record {
      rest = [];
      is = rw is;
      linked = subst (Side p) (yes_back tt) (side p c);
      once = (Memᴰ.not-nil, tt);
      apart = λ a m k. alone a (Memᴰ.cases_cons m) k;
      corners = all_corners p [] c (λ a m. absurd (Memᴰ.not-nil m));
    }
      where
        alone : (a : A) → (a ≡ p) ⊎ Memᴰ a [] → ¬ Memᴰ a passed
        alone a (inl e) k = once.0 (Memᴰ.cast (sym e) k)
        alone a (inr m) k = Memᴰ.not-nil m
    walk_step fuel p passed c once on false is yes_back not_back =
        let later = on (not_back tt) in
        record {
          rest = next p ∷ later.rest;
          is = rw (is, later.is);
          linked = (side p c, later.linked);
          once = (λ m. later.apart p m (Memᴰ.head refl), later.once);
          apart = λ a m k. either_way a later (Memᴰ.cases_cons m) k;
          corners = all_corners p (next p ∷ later.rest) c later.corners;
        }
      where
        either_way : (a : A) (later : Walked Corner Side fuel (next p) (p ∷ passed)) → (a ≡ p)
            ⊎ Memᴰ a (next p ∷ later.rest) → ¬ Memᴰ a passed
        either_way a later (inl e) k = once.0 (Memᴰ.cast (sym e) k)
        either_way a later (inr m) k = later.apart a m (Memᴰ.tail k)

    walked : (fuel : ℕ) (p : A) (passed : List A) → Trail p passed → Corner p → Once (p ∷ passed)
        → ((a : A) → Memᴰ a passed → Corner a)
        → length s ≤ fuel + length passed → Walked Corner Side fuel p passed
    walked zero p passed h c once before enough =
        absurd (omega (arith, pigeonhole (p ∷ passed) s once (λ a m. within a (all_corners p passed c before a m))))
    walked (suc fuel) p passed h c once before enough =
        walk_step fuel p passed c once
        (λ not_back. walked fuel (next p) (p ∷ passed) (refl, c, h) (next_corner p c)
        (next_new passed p h c once not_back, once)
        (all_corners p passed c before) (omega arith))
        (same (next p) start) refl (same_eq (next p) start (next_corner p c) start_corner) (not_same (next p) start)

    pub walk_returns : (fuel : ℕ) → length s ≤ fuel → Walked Corner Side fuel start []
    walk_returns fuel enough =
        walked fuel start [] refl start_corner (Memᴰ.not-nil, tt) (λ a m. absurd (Memᴰ.not-nil m))
        (omega arith)
