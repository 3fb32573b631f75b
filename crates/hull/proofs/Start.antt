-- The scan for the start finds the first point: largest x, smallest y among equals. Assumes nothing.
use mathlib.Core.Path.{◌≡◌, refl, sym, subst}
use mathlib.Core.List.Memᴰ
use mathlib.Core.List.{List, ◌∷◌, Memᴰ}
use mathlib.Core.Logic.{◌⊎◌, inl, inr}
use mathlib.Core.Bool.{not, ◌&&◌}
use native.Mathlib.Omega.{arith}
use lib.Dec.{T, T_not}
use mir.Facts.{or_yes, or_no, and_yes, yes_and}
use Rattle.algebra.specs.Integer.{◌≐◌, ◌≼◌, ◌≺◌, ◌≐?◌, ◌≺?◌}
use Rattle.algebra.specs.Plane.{Point}
use Rattle.algebra.proofs.Integer.{same_sym, le_antisym, order_cases, same_of_test, test_of_same, lt_of_test}
use Rattle.algebra.proofs.Integer.{test_of_lt}
use Rattle.hull.specs.Hull.{ReducedPoint, AllReduced, First}
use Rattle.hull.specs.Outline.{starts_before, start}
use Rattle.hull.proofs.Points.{value_eq}
use Rattle.algebra.proofs.Scan.{scan_mem, scan_best}

-- r comes after e: a smaller x, or the same and a larger y
abbrev After : Point → Point → Type 0
After e r = (r.x ≺ e.x) ⊎ ((r.x ≐ e.x) × (e.y ≺ r.y))

after_trans : (a b c : Point) → After a b → After b c → After a c
after_trans a b c (inl h) (inl k) = inl (omega arith)
after_trans a b c (inl h) (inr k) = inl (omega arith)
after_trans a b c (inr h) (inl k) = inl (omega arith)
after_trans a b c (inr h) (inr k) = inr (omega arith, omega arith)

module _ (e j : Point) where
  after_of_test : T (starts_before e j) → After j e
  after_of_test t = go (or_yes (e.x ≺? j.x) ((j.x ≐? e.x) && (j.y ≺? e.y)) t)
    where
      go : T (e.x ≺? j.x) ⊎ T ((j.x ≐? e.x) && (j.y ≺? e.y)) → After j e
      go (inl h) = inl (lt_of_test e.x j.x h)
      go (inr h) =
          let parts = and_yes (j.x ≐? e.x) (j.y ≺? e.y) h in
          inr (same_sym j.x e.x (same_of_test j.x e.x parts.0), lt_of_test j.y e.y parts.1)

  kept_of_test : ReducedPoint e → ReducedPoint j → T (not (starts_before e j)) → (j ≡ e) ⊎ After e j
  kept_of_test e_reduced j_reduced t =
      by_x (or_no (e.x ≺? j.x) ((j.x ≐? e.x) && (j.y ≺? e.y)) t) (order_cases j.x e.x)
      (order_cases e.x j.x)
    where
      by_y : j.x ≐ e.x → ¬ (j.y ≺ e.y) → (e.y ≼ j.y) ⊎ (j.y ≺ e.y) → (j.y ≼ e.y) ⊎ (e.y ≺ j.y)
          → (j ≡ e) ⊎ After e j
      by_y same_x not_below (inr below) k = absurd (not_below below)
      by_y same_x not_below (inl h) (inr above) = inr (inr (same_x, above))
      by_y same_x not_below (inl h) (inl k) =
          inl (value_eq j e j_reduced e_reduced same_x (le_antisym j.y e.y k h))

      by_x : T (not (e.x ≺? j.x)) × T (not ((j.x ≐? e.x) && (j.y ≺? e.y))) → (j.x ≼ e.x) ⊎ (e.x ≺ j.x)
          → (e.x ≼ j.x) ⊎ (j.x ≺ e.x)
          → (j ≡ e) ⊎ After e j
      by_x fails (inr above) k = absurd (T_not (e.x ≺? j.x) fails.0 (test_of_lt e.x j.x above))
      by_x fails (inl h) (inr below) = inr (inl below)
      by_x fails (inl h) (inl k) =
          let same_x = le_antisym j.x e.x h k in
          by_y same_x
          (λ below. T_not ((j.x ≐? e.x) && (j.y ≺? e.y)) fails.1
          (yes_and (j.x ≐? e.x) (j.y ≺? e.y) (test_of_same j.x e.x same_x) (test_of_lt j.y e.y below)))
          (order_cases e.y j.y) (order_cases j.y e.y)

module _ (e₀ : Point) (js : List Point) (reduced : AllReduced (e₀ ∷ js)) where
  pub start_mem : Memᴰ (start e₀ js) (e₀ ∷ js)
  start_mem = scan_mem starts_before js e₀

  pub start_first : First (e₀ ∷ js) (start e₀ js)
  start_first r r_in =
      scan_best starts_before ReducedPoint (λ e a. (a ≡ e) ⊎ After e a) (λ a. inl refl)
      (λ e j e_reduced j_reduced t. kept_of_test e j e_reduced j_reduced t) replaced
      js e₀ r (reduced e₀ (Memᴰ.head refl)) (λ j m. reduced j (Memᴰ.tail m)) (reduced r r_in)
      (go (Memᴰ.cases_cons r_in))
    where
      replaced : (e j a : Point) → ReducedPoint e → ReducedPoint j → ReducedPoint a → T (starts_before e j)
          → (a ≡ e) ⊎ After e a → (a ≡ j) ⊎ After j a
      replaced e j a e_reduced j_reduced a_reduced t (inl h) = inr (subst (After j) (sym h) (after_of_test e j t))
      replaced e j a e_reduced j_reduced a_reduced t (inr h) = inr (after_trans j e a (after_of_test e j t) h)

      go : (r ≡ e₀) ⊎ Memᴰ r js → ((r ≡ e₀) ⊎ After e₀ r) ⊎ Memᴰ r js
      go (inl h) = inl (inl h)
      go (inr h) = inr h
