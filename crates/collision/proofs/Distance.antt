-- The squared distance of two points from the vector from either to the other, bit for bit and whatever the floats: the
-- differences x - y and y - x have one square. Assumes nothing.
use mathlib.Core.Path.{◌≡◌, refl, sym, ap, ap₂, ◌∙◌}
use mathlib.Core.Bool.{Bool, true, false, not, cond}
use mathlib.Core.Logic.{◌⊎◌, inl, inr}
use Prim.Native.Nat.{ℕ, zero, suc, ◌+◌, ◌-◌, ◌*◌, ◌^◌, ◌/◌, ◌%◌, compare, ◌≤◌, ◌<◌}
use native.Mathlib.Nat.{add_comm, mul_comm}
use native.Mathlib.Omega.{arith}
use lib.Dec.{ltb}
use lib.Ieee.{Float, nan, inf, fin, binary32, prec, emax, low, up, down, odd, units, size, nearest}
use lib.Ieee.{round, sum, add, sub, neg, mul}
use borrow.Author.Tests.{lt-ltb, le-ltb}
use Rattle.algebra.proofs.Booleans.{less_or_not}
use Rattle.floats.specs.declared.b2_math.B2vec2.{B2vec2}
use Rattle.floats.specs.B2Math.{b2_sub, b2_dot, b2_distance_vec2_squared}

abbrev square : Float → Float
square x = mul binary32 x x

-- ---- a rounded number has one square, whatever its sign
odd_square : (s : Bool) (d q k l : ℕ) → square (odd d s q k l) ≡ square (odd d false q k l)
unfolding odd mul
odd_square false d q k l = refl
odd_square true d zero k l = refl
odd_square true d (suc q) k l = refl

cut_square : (b s : Bool) (d q k l : ℕ)
    → square (cond b (odd d s q k l) (inf s)) ≡ square (cond b (odd d false q k l) (inf false))
unfolding mul
cut_square true s d q k l = odd_square s d q k l
cut_square false true d q k l = refl
cut_square false false d q k l = refl

units_square : (s : Bool) (q k : ℕ) → square (units binary32 s q k) ≡ square (units binary32 false q k)
unfolding units
units_square s q k =
    cut_square (ltb (q * 2 ^ k) (2 ^ (low binary32 + suc (emax binary32)))) s (suc (prec binary32)) q k (low binary32)

round_square : (s : Bool) (n c : ℕ) → square (round binary32 s n c) ≡ square (round binary32 false n c)
unfolding round
round_square s n c =
    let m = n * 2 ^ low binary32 in
    let k = size (m / c) - prec binary32 in
    let u = c * 2 ^ k in
    units_square s (nearest (m / u) (compare (m % u * 2) u)) k

-- ---- the two differences of numbers
below : (s : Bool) (a b c : ℕ) → (a < b) ⊎ (b ≤ a) → (b < a) ⊎ (a ≤ b)
    → square (sum binary32 s a (not s) b c) ≡ square (sum binary32 s b (not s) a c)
unfolding sum
below true a b c (inl less) other = simp (lt-ltb a b less, le-ltb b a (omega arith)) (sym (round_square true (b - a) c))
below false a b c (inl less) other = simp (lt-ltb a b less, le-ltb b a (omega arith)) (round_square true (b - a) c)
below true a b c (inr not_less) (inl more) =
    simp (le-ltb a b not_less, lt-ltb b a more) (round_square true (a - b) c)
below false a b c (inr not_less) (inl more) =
    simp (le-ltb a b not_less, lt-ltb b a more) (sym (round_square true (a - b) c))
below true a b c (inr not_less) (inr not_more) =
    let none : a - b ≡ b - a = omega arith in
    simp (le-ltb a b not_less, le-ltb b a not_more, none)
below false a b c (inr not_less) (inr not_more) =
    let none : a - b ≡ b - a = omega arith in
    simp (le-ltb a b not_less, le-ltb b a not_more, none)

sums_squared : (s t : Bool) (a b c : ℕ)
    → square (sum binary32 s a (not t) b c) ≡ square (sum binary32 t b (not s) a c)
unfolding sum
sums_squared true true a b c = below true a b c (less_or_not a b) (less_or_not b a)
sums_squared false false a b c = below false a b c (less_or_not a b) (less_or_not b a)
sums_squared true false a b c =
    round_square true (a + b) c ∙ ap (λ (n : ℕ). square (round binary32 false n c)) (add_comm a b)
sums_squared false true a b c =
    ap (λ (n : ℕ). square (round binary32 false n c)) (add_comm a b) ∙ sym (round_square true (b + a) c)

differences_squared : (x y : Float) → square (sub binary32 x y) ≡ square (sub binary32 y x)
unfolding sub add neg mul
differences_squared nan nan = refl
differences_squared nan (inf t) = refl
differences_squared nan (fin t n d) = refl
differences_squared (inf s) nan = refl
differences_squared (inf true) (inf true) = refl
differences_squared (inf true) (inf false) = refl
differences_squared (inf false) (inf true) = refl
differences_squared (inf false) (inf false) = refl
differences_squared (inf true) (fin t n d) = refl
differences_squared (inf false) (fin t n d) = refl
differences_squared (fin s m e) nan = refl
differences_squared (fin s m e) (inf true) = refl
differences_squared (fin s m e) (inf false) = refl
differences_squared (fin s m e) (fin t n d) =
    sums_squared s t (m * up e * down d) (n * up d * down e) (down e * down d)
    ∙ ap (λ (c : ℕ). square (sum binary32 t (n * up d * down e) (not s) (m * up e * down d) c))
    (mul_comm (down e) (down d))

pub distance_from_either : (a b : B2vec2) → b2_distance_vec2_squared a b ≡ b2_dot (b2_sub b a) (b2_sub b a)
unfolding b2_distance_vec2_squared b2_dot b2_sub
distance_from_either a b =
    ap₂ (add binary32) (differences_squared a.x b.x) (differences_squared a.y b.y)
