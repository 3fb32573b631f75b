-- What the searches find among finite numbers: the least one of a function at the places below a count, where all are
-- below the largest float; the first greatest one with its place, where all are above that float negated; and the place
-- of the first least or greatest is a place. Each search is a scan (algebra's Scan). Assumes nothing.
use mathlib.Core.Path.{◌≡◌, refl, sym, ap, subst}
use mathlib.Core.Bool.{Bool}
use mathlib.Core.List.Memᴰ
use mathlib.Core.List.{Memᴰ, map}
use mathlib.Core.Logic.{◌⊎◌, inl, inr}
use Prim.Native.Nat.{ℕ, ◌<◌}
use native.Mathlib.Omega.{arith}
use lib.Ieee.{Float, neg}
use Rattle.algebra.specs.Integer.{Z, ◌≼◌, ◌≺◌}
use Rattle.algebra.specs.Loops.{places, scan}
use Rattle.algebra.proofs.Integer.{le_of_same, same_refl}
use Rattle.algebra.proofs.Places.{value_listed, listed_value}
use Rattle.algebra.proofs.Scan.{scan_mem, scan_best}
use Rattle.rounding.specs.Value.{F32, val}
use Rattle.rounding.proofs.Value.{neg_f32}
use Rattle.rounding.proofs.Comparison.{lt_val, not_lt_val}
use Rattle.floats.specs.B2Common.{b2_max_float}
use Rattle.floats.proofs.Constants.{max_float_f32}
use Rattle.contact_definitions.specs.declared.axis.Best.{Best}
use Rattle.contact_definitions.specs.Searches.{below_value, least, valued, is_greater, is_less, first_greatest}
use Rattle.contact_definitions.specs.Searches.{first_least}

le_self : (a : Z) → a ≼ a
le_self a = le_of_same a a (same_refl a)

-- what is below another is not above it
not_both : (v w : Z) → v ≼ w → w ≺ v → ⊥
not_both v w h k = omega arith

abbrev Finite : Best → Type 0
Finite b = F32 b.value

module _ (f : ℕ → Float) (count : ℕ) (finite : (i : ℕ) → i < count → F32 (f i)) (some : 0 < count) where
  -- ---- the least
  pub record Least (r : Float) : Type 0 where
    pub own : F32 r
    pub lowest : (i : ℕ) → i < count → val r ≼ val (f i)
    pub place : ℕ
    pub inside : place < count
    pub is : r ≡ f place

  pub least_found : ((i : ℕ) → i < count → val (f i) ≺ val b2_max_float) → Least (least f count)
  unfolding least
  least_found low = of_place (Memᴰ.cases_cons (scan_mem below_value (map f (places 0 count)) b2_max_float))
    where
      r : Float
      r = least f count

      listed_f32 : (x : Float) → Memᴰ x (map f (places 0 count)) → F32 x
      listed_f32 x m = let h = listed_value f count m in subst F32 (sym h.2) (finite h.0 h.1)

      lowest : (i : ℕ) → i < count → val r ≼ val (f i)
      lowest i h =
          scan_best below_value F32 (λ x y. val x ≼ val y) (λ x. le_self (val x))
          (λ x y x_f32 y_f32 t. not_lt_val y_f32 x_f32 t)
          (λ x y z x_f32 y_f32 z_f32 t k. below_too (val y) (val x) (val z) (lt_val y_f32 x_f32 t) k)
          (map f (places 0 count)) b2_max_float (f i) max_float_f32 listed_f32 (finite i h)
          (inr (value_listed f count i h))
        where
          below_too : (a b c : Z) → a ≺ b → b ≼ c → a ≼ c
          below_too a b c h k = omega arith

      of_place : (r ≡ b2_max_float) ⊎ Memᴰ r (map f (places 0 count)) → Least r
      of_place (inl e) = absurd (not_both (val b2_max_float) (val (f 0))
          (subst (λ (x : Float). val x ≼ val (f 0)) e (lowest 0 some)) (low 0 some))
      of_place (inr m) = let h = listed_value f count m in record {
        own = listed_f32 r m;
        lowest = lowest;
        place = h.0;
        inside = h.1;
        is = h.2;
      }

  -- ---- the first greatest
  pub record Greatest (r : Best) : Type 0 where
    pub own : F32 r.value
    pub highest : (i : ℕ) → i < count → val (f i) ≼ val r.value
    pub inside : r.place < count
    pub is : r.value ≡ f r.place

  pub greatest_found : ((i : ℕ) → i < count → val (neg b2_max_float) ≺ val (f i)) → Greatest (first_greatest f count)
  unfolding first_greatest
  greatest_found high = of_place (Memᴰ.cases_cons (scan_mem is_greater (map (valued f) (places 0 count)) begun))
    where
      begun : Best
      begun = record { place = 0; value = neg b2_max_float }

      r : Best
      r = first_greatest f count

      listed_f32 : (b : Best) → Memᴰ b (map (valued f) (places 0 count)) → Finite b
      listed_f32 b m = let h = listed_value (valued f) count m in
          subst Finite (sym h.2) (finite h.0 h.1)

      highest : (i : ℕ) → i < count → val (f i) ≼ val r.value
      highest i h =
          scan_best is_greater Finite (λ x y. val y.value ≼ val x.value) (λ x. le_self (val x.value))
          (λ x y x_f32 y_f32 t. not_lt_val x_f32 y_f32 t)
          (λ x y z x_f32 y_f32 z_f32 t k. above_too (val z.value) (val x.value) (val y.value) k
          (lt_val x_f32 y_f32 t))
          (map (valued f) (places 0 count)) begun (valued f i) (neg_f32 max_float_f32) listed_f32 (finite i h)
          (inr (value_listed (valued f) count i h))
        where
          above_too : (a b c : Z) → a ≼ b → b ≺ c → a ≼ c
          above_too a b c h k = omega arith

      of_place : (r ≡ begun) ⊎ Memᴰ r (map (valued f) (places 0 count)) → Greatest r
      of_place (inl e) = absurd (not_both (val (f 0)) (val (neg b2_max_float))
          (subst (λ (b : Best). val (f 0) ≼ val b.value) e (highest 0 some)) (high 0 some))
      of_place (inr m) = let h = listed_value (valued f) count m in
          record {
            own = listed_f32 r m;
            highest = highest;
            inside = subst (λ (i : ℕ). i < count) (ap (λ (b : Best). b.place) (sym h.2)) h.1;
            is = of_valued r h.0 h.2;
          }
        where
          of_valued : (b : Best) (i : ℕ) → b ≡ valued f i → b.value ≡ f b.place
          of_valued b i e = subst (λ (c : Best). c.value ≡ f c.place) (sym e) refl

-- ---- the place of a search that begins at place 0, whatever the numbers
place_in : (better : Best → Best → Bool) (begin : Float) (f : ℕ → Float) (count : ℕ) → 0 < count
    → (scan better (record { place = 0; value = begin }) (map (valued f) (places 0 count))).place < count
place_in better begin f count some =
    of_place (Memᴰ.cases_cons (scan_mem better (map (valued f) (places 0 count)) begun))
  where
    begun : Best
    begun = record { place = 0; value = begin }

    of_place : {r : Best} → (r ≡ begun) ⊎ Memᴰ r (map (valued f) (places 0 count)) → r.place < count
    of_place (inl e) = subst (λ (i : ℕ). i < count) (ap (λ (b : Best). b.place) (sym e)) some
    of_place (inr m) = let h = listed_value (valued f) count m in
        subst (λ (i : ℕ). i < count) (ap (λ (b : Best). b.place) (sym h.2)) h.1

pub least_place_in : (f : ℕ → Float) (count : ℕ) → 0 < count → (first_least f count).place < count
unfolding first_least
least_place_in f count some = place_in is_less b2_max_float f count some

pub greatest_place_in : (f : ℕ → Float) (count : ℕ) → 0 < count → (first_greatest f count).place < count
unfolding first_greatest
greatest_place_in f count some = place_in is_greater (neg b2_max_float) f count some
