-- Sums and products commute, bit for bit and whatever the operands. Assumes nothing.
use mathlib.Core.Path.{◌≡◌, refl, sym, ap, ◌∙◌}
use mathlib.Core.Bool.{Bool, true, false, cond}
use mathlib.Core.Logic.{◌⊎◌, inl, inr}
use Prim.Native.Nat.{ℕ, ◌-◌, ◌*◌, ◌≤◌, ◌<◌}
use native.Mathlib.Nat.{add_comm, mul_comm}
use native.Mathlib.Omega.{arith}
use lib.Dec.{eqb}
use lib.Ieee.{Float, nan, inf, fin, binary32, up, down, unlike, round, sum, add, mul}
use borrow.Author.Tests.{lt-ltb, le-ltb}
use Rattle.algebra.proofs.Booleans.{less_or_not}

-- ---- products
unlike_comm : (s t : Bool) → unlike s t ≡ unlike t s
unlike_comm true true = refl
unlike_comm true false = refl
unlike_comm false true = refl
unlike_comm false false = refl

pub mul_commutes : (x y : Float) → mul binary32 x y ≡ mul binary32 y x
unfolding mul
mul_commutes nan nan = refl
mul_commutes nan (inf t) = refl
mul_commutes nan (fin t n d) = refl
mul_commutes (inf s) nan = refl
mul_commutes (inf s) (inf t) = ap inf (unlike_comm s t)
mul_commutes (inf s) (fin t n d) = ap (λ u. cond (eqb n 0) nan (inf u)) (unlike_comm s t)
mul_commutes (fin s m e) nan = refl
mul_commutes (fin s m e) (inf t) = ap (λ u. cond (eqb m 0) nan (inf u)) (unlike_comm s t)
mul_commutes (fin s m e) (fin t n d) =
    rw (unlike_comm s t, mul_comm (m * up e) (n * up d), mul_comm (down e) (down d)) refl

-- ---- sums commute
opposites_commute : (a b c : ℕ) → (a < b) ⊎ (b ≤ a) → (b < a) ⊎ (a ≤ b)
    → sum binary32 true a false b c ≡ sum binary32 false b true a c
unfolding sum
opposites_commute a b c (inl less) other = simp (lt-ltb a b less, le-ltb b a (omega arith))
opposites_commute a b c (inr not_less) (inl more) = simp (le-ltb a b not_less, lt-ltb b a more)
opposites_commute a b c (inr not_less) (inr not_more) =
    let none : a - b ≡ b - a = omega arith in
    simp (le-ltb a b not_less, le-ltb b a not_more, none)

sum_commutes : (s t : Bool) (a b c : ℕ) → sum binary32 s a t b c ≡ sum binary32 t b s a c
unfolding sum
sum_commutes true true a b c = ap (λ (n : ℕ). round binary32 true n c) (add_comm a b)
sum_commutes false false a b c = ap (λ (n : ℕ). round binary32 false n c) (add_comm a b)
sum_commutes true false a b c = opposites_commute a b c (less_or_not a b) (less_or_not b a)
sum_commutes false true a b c = sym (opposites_commute b a c (less_or_not b a) (less_or_not a b))

pub add_commutes : (x y : Float) → add binary32 x y ≡ add binary32 y x
unfolding add
add_commutes nan nan = refl
add_commutes nan (inf t) = refl
add_commutes nan (fin t n d) = refl
add_commutes (inf s) nan = refl
add_commutes (inf true) (inf true) = refl
add_commutes (inf true) (inf false) = refl
add_commutes (inf false) (inf true) = refl
add_commutes (inf false) (inf false) = refl
add_commutes (inf s) (fin t n d) = refl
add_commutes (fin s m e) nan = refl
add_commutes (fin s m e) (inf t) = refl
add_commutes (fin s m e) (fin t n d) =
    sum_commutes s t (m * up e * down d) (n * up d * down e) (down e * down d)
    ∙ ap (sum binary32 t (n * up d * down e) s (m * up e * down d)) (mul_comm (down e) (down d))
