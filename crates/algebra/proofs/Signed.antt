-- Signed numbers of the code: their sums, differences, products and tests are those of `Z`, and small ones fit an i32.
-- Assumes nothing.
use mathlib.Core.Path.{◌≡◌, refl, sym, ap, subst, ◌∙◌}
use mathlib.Core.Bool.{false, false≢true}
use Prim.Native.Nat.{ℕ, zero, suc, ◌+◌, ◌*◌, ◌≤◌}
use native.Mathlib.Omega.{arith}
use borrow.Author.Tests.{ltb-true, ltb-false, leb-true, leb-false}
use lib.Dec.{ltb}
use lib.IntN.{ℤ, pos, negsuc, neg_ℤ, sub_ℕ, ◌+ℤ◌, ◌-ℤ◌, ◌*ℤ◌}
use lib.Signed.{lt_z, le_z}
use mir.Syntax.{w32}
use mir.Val.{SFits, to_z, of_z}
use mir.Facts.{to_z-of_z}
use Rattle.algebra.specs.Integer.{whole, opp, ◌⊞◌, ◌⊟◌, ◌⊠◌, ◌≐◌, ◌≼◌, ◌≺◌, Abs}
use Rattle.algebra.specs.Signed.{number}
use Rattle.algebra.proofs.Magnitude.{abs_widen, abs_same, abs_product}
use Rattle.algebra.proofs.Integer.{same_sym}
use Rattle.algebra.proofs.Booleans.{Decides, by_test, not_lt, not_le}

-- ---- sums, differences, products
difference_of : (a b : ℕ) → number (sub_ℕ a b) ≐ whole a ⊟ whole b
difference_of a b =
    by_test (ltb a b)
    (λ yes. let lt = ltb-true a b yes in rw yes (omega arith))
    (λ no. let le = ltb-false a b no in rw no (omega arith))

pub number_sum : (x y : ℤ) → number (x +ℤ y) ≐ number x ⊞ number y
number_sum (pos a) (pos b) = omega arith
number_sum (pos a) (negsuc b) = difference_of a (suc b)
number_sum (negsuc a) (pos b) = let e = difference_of b (suc a) in omega arith
number_sum (negsuc a) (negsuc b) = omega arith

number_opposite : (x : ℤ) → number (neg_ℤ x) ≐ opp (number x)
number_opposite (pos zero) = omega arith
number_opposite (pos (suc n)) = omega arith
number_opposite (negsuc n) = omega arith

pub number_difference : (x y : ℤ) → number (x -ℤ y) ≐ number x ⊟ number y
number_difference x y =
    let s = number_sum x (neg_ℤ y) in
    let o = number_opposite y in
    omega arith

pub number_product : (x y : ℤ) → number (x *ℤ y) ≐ number x ⊠ number y
number_product (pos a) (pos b) = omega arith
number_product (pos a) (negsuc b) = let o = number_opposite (pos (a * suc b)) in omega arith
number_product (negsuc a) (pos b) = let o = number_opposite (pos (suc a * b)) in omega arith
number_product (negsuc a) (negsuc b) = omega arith

-- ---- tests
pub less : (x y : ℤ) → Decides (lt_z x y) (number x ≺ number y)
less (pos a) (pos b) = record {
  holds = λ e. let l = ltb-true a b e in omega arith;
  fails = λ e h. let l = ltb-false a b e in omega arith;
}
less (pos a) (negsuc b) = record { holds = λ e. absurd (false≢true e); fails = λ e h. omega arith }
less (negsuc a) (pos b) = record { holds = λ e. omega arith; fails = λ e. absurd (false≢true (sym e)) }
less (negsuc a) (negsuc b) = record {
  holds = λ e. let l = ltb-true b a e in omega arith;
  fails = λ e h. let l = ltb-false b a e in omega arith;
}

pub at_most : (x y : ℤ) → Decides (le_z x y) (number x ≼ number y)
at_most (pos a) (pos b) = record {
  holds = λ e. let l = leb-true a b e in omega arith;
  fails = λ e h. let l = leb-false a b e in omega arith;
}
at_most (pos a) (negsuc b) = record { holds = λ e. absurd (false≢true e); fails = λ e h. omega arith }
at_most (negsuc a) (pos b) = record { holds = λ e. omega arith; fails = λ e. absurd (false≢true (sym e)) }
at_most (negsuc a) (negsuc b) = record {
  holds = λ e. let l = leb-true b a e in omega arith;
  fails = λ e h. let l = leb-false b a e in omega arith;
}

pub not_less : (x y : ℤ) → lt_z x y ≡ false → number y ≼ number x
not_less x y e = not_lt _ _ ((less x y).fails e)

pub more : (x y : ℤ) → le_z x y ≡ false → number y ≺ number x
more x y e = not_le _ _ ((at_most x y).fails e)

-- ---- what fits an i32. A signed local holds bits, so the code's tests and results are of what is read back from them.
small_fits : (x : ℤ) → Abs (number x) 2147483647 → SFits w32 x
small_fits (pos n) h = record { sfits = omega (arith, h.0) }
small_fits (negsuc n) h = record { sfits = omega (arith, h.1) }

abbrev pub read : ℤ → ℤ
read x = to_z w32 (of_z w32 x)

-- x' is x, and x is at most n in size
pub record Held (x' x : ℤ) (n : ℕ) : Type 0 where
  pub is : x' ≡ x
  pub size : Abs (number x) n

bounded_fits : (x : ℤ) (n : ℕ) → n ≤ 2147483647 → Abs (number x) n → SFits w32 x
bounded_fits x n le h = small_fits x (abs_widen (number x) n 2147483647 h le)

fits_as : {x' x : ℤ} {n : ℕ} → x' ≡ x → n ≤ 2147483647 → Abs (number x) n → SFits w32 x'
fits_as {x'} {x} {n} e le h = subst (SFits w32) (sym e) (bounded_fits x n le h)

read_as : {x' x : ℤ} {n : ℕ} → x' ≡ x → n ≤ 2147483647 → Abs (number x) n → Held (read x') x n
read_as {x'} {x} {n} e le h = record { is = ap read e ∙ to_z-of_z (bounded_fits x n le h); size = h }

pub held : (x : ℤ) (n : ℕ) → n ≤ 2147483647 → Abs (number x) n → Held (read x) x n
held x n le h = read_as refl le h

module _ {x' x y' y : ℤ} {m n : ℕ} (hx : Held x' x m) (hy : Held y' y n) where
  sum_size : Abs (number (x +ℤ y)) (m + n)
  sum_size =
      let e = number_sum x y in
      let p = hx.size in
      let q = hy.size in
      (omega arith, omega arith)

  pub sum_fits : m + n ≤ 2147483647 → SFits w32 (x' +ℤ y')
  sum_fits le = fits_as (λ i. hx.is i +ℤ hy.is i) le sum_size

  pub sum_held : m + n ≤ 2147483647 → Held (read (x' +ℤ y')) (x +ℤ y) (m + n)
  sum_held le = read_as (λ i. hx.is i +ℤ hy.is i) le sum_size

  difference_size : Abs (number (x -ℤ y)) (m + n)
  difference_size =
      let e = number_difference x y in
      let p = hx.size in
      let q = hy.size in
      (omega arith, omega arith)

  pub difference_fits : m + n ≤ 2147483647 → SFits w32 (x' -ℤ y')
  difference_fits le = fits_as (λ i. hx.is i -ℤ hy.is i) le difference_size

  pub difference_held : m + n ≤ 2147483647 → Held (read (x' -ℤ y')) (x -ℤ y) (m + n)
  difference_held le = read_as (λ i. hx.is i -ℤ hy.is i) le difference_size

  product_size : Abs (number (x *ℤ y)) (m * n)
  product_size =
      abs_same (number x ⊠ number y) (number (x *ℤ y)) (m * n) (same_sym _ _ (number_product x y))
      (abs_product (number x) (number y) m n hx.size hy.size)

  pub product_fits : m * n ≤ 2147483647 → SFits w32 (x' *ℤ y')
  product_fits le = fits_as (λ i. hx.is i *ℤ hy.is i) le product_size

  pub product_held : m * n ≤ 2147483647 → Held (read (x' *ℤ y')) (x *ℤ y) (m * n)
  product_held le = read_as (λ i. hx.is i *ℤ hy.is i) le product_size
