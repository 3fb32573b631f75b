-- Places of an array: which ones `places` lists, a list as what stands at its places, the values of a function at them,
-- and the place that a scan from place 0 finds. Assumes nothing.
use mathlib.Core.Path.{◌≡◌, refl, ap, ap₂, ◌∙◌}
use mathlib.Core.List.Memᴰ
use mathlib.Core.List.{List, [], ◌∷◌, Memᴰ, map}
use mathlib.Core.Logic.{◌⊎◌, inl, inr}
use mathlib.Core.Bool.{Bool}
use Prim.Native.Nat.{ℕ, zero, suc, ◌+◌, ◌<◌}
use native.Mathlib.Omega.{arith}
use lib.ListN.{length, get_or}
use Rattle.algebra.specs.Loops.{places, scan}
use Rattle.algebra.proofs.Scan.{scan_mem}

places_bound : (i n j : ℕ) → Memᴰ j (places i n) → j < i + n
places_bound i zero j m = absurd (Memᴰ.not-nil m)
places_bound i (suc n) j m = go (places_bound (suc i) n j) (Memᴰ.cases_cons m)
  where
    go : (Memᴰ j (places (suc i) n) → j < suc i + n) → (j ≡ i) ⊎ Memᴰ j (places (suc i) n) → j < i + suc n
    go later (inl e) = omega arith
    go later (inr k) = omega (arith, later k)

-- a list is what stands at its places
pub places_map : {A : Type 0} (f : ℕ → A) (l : List A) (d : A) (i : ℕ) → ((j : ℕ) → f (i + j) ≡ get_or l j d)
    → map f (places i (length l)) ≡ l
places_map f [] d i at = refl
places_map f (a ∷ l) d i at =
    ap₂ ◌∷◌ (ap f i_is ∙ at zero) (places_map f l d (suc i) (λ j. ap f (moved j) ∙ at (suc j)))
  where
    i_is : i ≡ i + zero
    i_is = omega arith

    moved : (j : ℕ) → suc i + j ≡ i + suc j
    moved j = omega arith

-- ---- the values of a function at the places below n: each is listed, and what is listed is one
module _ {A : Type 0} (f : ℕ → A) where
  value_from : (i n j k : ℕ) → j < n → i + j ≡ k → Memᴰ (f k) (map f (places i n))
  value_from i zero j k h e = absurd (omega arith)
  value_from i (suc n) zero k h e = let first : k ≡ i = omega arith in Memᴰ.head (ap f first)
  value_from i (suc n) (suc j) k h e = Memᴰ.tail (value_from (suc i) n j k (omega arith) (omega arith))

  pub value_listed : (n j : ℕ) → j < n → Memᴰ (f j) (map f (places 0 n))
  value_listed n j h = value_from 0 n j j h (omega arith)

  from_place : (i n : ℕ) {a : A} → Memᴰ a (map f (places i n)) → (j : ℕ) × (j < i + n) × (a ≡ f j)
  from_place i zero m = absurd (Memᴰ.not-nil m)
  from_place i (suc n) {a} m = go (λ k. from_place (suc i) n k) (Memᴰ.cases_cons m)
    where
      go : (Memᴰ a (map f (places (suc i) n)) → (j : ℕ) × (j < suc i + n) × (a ≡ f j))
          → (a ≡ f i) ⊎ Memᴰ a (map f (places (suc i) n)) → (j : ℕ) × (j < i + suc n) × (a ≡ f j)
      go later (inl e) = (i, omega arith, e)
      go later (inr k) = let h = later k in (h.0, omega (arith, h.1), h.2)

  pub listed_value : (n : ℕ) {a : A} → Memᴰ a (map f (places 0 n)) → (j : ℕ) × (j < n) × (a ≡ f j)
  listed_value n m = let h = from_place 0 n m in (h.0, omega (arith, h.1), h.2)

-- ---- the n places after 0, and the place that a scan of them finds
pub later_place : (n j : ℕ) → Memᴰ j (places 1 n) → j < suc n
later_place n j m = omega (arith, places_bound 1 n j m)

pub scan_place : (test : ℕ → ℕ → Bool) (n : ℕ) → scan test 0 (places 1 n) < suc n
scan_place test n = go (Memᴰ.cases_cons (scan_mem test (places 1 n) 0))
  where
    go : {i : ℕ} → (i ≡ 0) ⊎ Memᴰ i (places 1 n) → i < suc n
    go (inl e) = omega arith
    go {i} (inr m) = later_place n i m
