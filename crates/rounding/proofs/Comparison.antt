-- The comparisons of finite numbers are those of their values, in both directions: `<`, `<=`, `==`, a `<` that fails;
-- and `<` and `==` as the computed tests of those values; no float is below itself, nor below one that is at most it.
-- Assumes nothing.
use mathlib.Core.Path.{◌≡◌, refl, sym, ap, ◌∙◌, subst}
use mathlib.Core.Logic.{inl, inr}
use Prim.Native.Nat.{ℕ, ◌+◌, ◌*◌, ◌<◌}
use native.Mathlib.Nat.{le_of_eq, eq-or-lt_of_le, lt_of_le_of_lt, lt_of_lt_of_le, mul-pos, zero-mul}
use native.Mathlib.Nat.{lt_irrefl, mul-lt-mul_of_pos_right}
use native.Mathlib.Nat.{lt_of_mul-lt-mul_right, eq_of_mul-eq-mul_right}
use native.Mathlib.Omega.{arith}
use mathlib.Core.Bool.{Bool, true, false, not, ◌||◌, beq}
use lib.Dec.{T, ltb, eqb, ltb→lt, lt→ltb, eqb→eq, not_T, T_not}
use lib.Ieee.{Float, nan, inf, fin, up, down, below, level, lt, eq, le}
use lib.Ieee.Fits.{down_pos, and_i, and_l, and_r, eq→eqb}
use Rattle.algebra.specs.Integer.{Z, signed, ◌≐◌, ◌≼◌, ◌≺◌, ◌≐?◌, ◌≺?◌}
use Rattle.algebra.proofs.Integer.{order_cases, same_of_test, test_of_same, lt_of_test, test_of_lt}
use Rattle.algebra.proofs.Booleans.{bool_iff, or_left, or_right}
use Rattle.rounding.specs.Value.{metre, F32, sign, mag, val}
use Rattle.rounding.proofs.Value.{metre_pos, val_signed, AsFin, as_fin, f32_as_fin}

-- ---- no float is below itself
not_below_itself : (n : ℕ) → ltb n n ≡ false
not_below_itself n = bool_iff (ltb n n) false (λ t. absurd (lt_irrefl n (ltb→lt n n t))) (λ t. absurd t)

pub lt_irreflexive : (x : Float) → lt x x ≡ false
unfolding lt
lt_irreflexive nan = refl
lt_irreflexive (inf true) = refl
lt_irreflexive (inf false) = refl
lt_irreflexive (fin true m e) = not_below_itself (m * up e * down e)
lt_irreflexive (fin false m e) = not_below_itself (m * up e * down e)

-- ---- a comparison of fractions p / c and q / c is that of the units m and n that they are
module _ (d c : ℕ) (d_pos : 0 < d) (c_pos : 0 < c) where
  lt_scaled : (p q m n : ℕ) → p * d ≡ m * c → q * d ≡ n * c → p < q → m < n
  lt_scaled p q m n h k l =
      lt_of_mul-lt-mul_right c (lt_of_le_of_lt (le_of_eq (sym h))
      (lt_of_lt_of_le (mul-lt-mul_of_pos_right l d_pos) (le_of_eq k)))

  eq_scaled : (p q m n : ℕ) → p * d ≡ m * c → q * d ≡ n * c → p ≡ q → m ≡ n
  eq_scaled p q m n h k e = eq_of_mul-eq-mul_right c c_pos m n (sym h ∙ ap (λ (x : ℕ). x * d) e ∙ k)

module _ (d c : ℕ) (d_pos : 0 < d) (c_pos : 0 < c) where
  ltb_scaled : (p q m n : ℕ) → p * d ≡ m * c → q * d ≡ n * c → ltb p q ≡ ltb m n
  ltb_scaled p q m n h k =
      bool_iff (ltb p q) (ltb m n) (λ t. lt→ltb m n (lt_scaled d c d_pos c_pos p q m n h k (ltb→lt p q t)))
      (λ t. lt→ltb p q (lt_scaled c d c_pos d_pos m n p q (sym h) (sym k) (ltb→lt m n t)))

  eqb_scaled : (p q m n : ℕ) → p * d ≡ m * c → q * d ≡ n * c → eqb p q ≡ eqb m n
  eqb_scaled p q m n h k =
      bool_iff (eqb p q) (eqb m n) (λ t. eq→eqb (eq_scaled d c d_pos c_pos p q m n h k (eqb→eq p q t)))
      (λ t. eq→eqb (eq_scaled c d c_pos d_pos m n p q (sym h) (sym k) (eqb→eq m n t)))

  zero_scaled : 0 * d ≡ 0 * c
  zero_scaled = zero-mul d ∙ sym (zero-mul c)

  below_scaled : (s t : Bool) (p q m n : ℕ) → p * d ≡ m * c → q * d ≡ n * c → below s p t q ≡ below s m t n
  below_scaled false false p q m n h k = ltb_scaled p q m n h k
  below_scaled false true p q m n h k = refl
  below_scaled true false p q m n h k = ltb_scaled 0 (p + q) 0 (m + n) zero_scaled (omega arith)
  below_scaled true true p q m n h k = ltb_scaled q p n m k h

  level_scaled : (s t : Bool) (p q m n : ℕ) → p * d ≡ m * c → q * d ≡ n * c → level s p t q ≡ level s m t n
  level_scaled s t p q m n h k = rw (eqb_scaled p q m n h k, eqb_scaled p 0 m 0 h zero_scaled)

cross : (a b c d m n : ℕ) → a * metre ≡ m * c → b * metre ≡ n * d
    → (a * d * metre ≡ m * (c * d)) × (b * c * metre ≡ n * (c * d))
cross a b c d m n h k = (
  let e : a * metre * d ≡ m * c * d = ap (λ (x : ℕ). x * d) h in omega arith,
  let e : b * metre * c ≡ n * d * c = ap (λ (x : ℕ). x * c) k in omega arith,
)

lt_is : {x y : Float} → AsFin x → AsFin y → lt x y ≡ below (sign x) (mag x) (sign y) (mag y)
unfolding lt
lt_is (as_fin s m e x_is) (as_fin t n d y_is) =
    let h = cross (m * up e) (n * up d) (down e) (down d) (mag (fin s m e)) (mag (fin t n d)) x_is y_is in
    below_scaled metre (down e * down d) metre_pos (mul-pos (down_pos e) (down_pos d)) s t (m * up e * down d)
    (n * up d * down e)
    (mag (fin s m e)) (mag (fin t n d)) h.0 h.1

eq_is : {x y : Float} → AsFin x → AsFin y → eq x y ≡ level (sign x) (mag x) (sign y) (mag y)
unfolding eq
eq_is (as_fin s m e x_is) (as_fin t n d y_is) =
    let h = cross (m * up e) (n * up d) (down e) (down d) (mag (fin s m e)) (mag (fin t n d)) x_is y_is in
    level_scaled metre (down e * down d) metre_pos (mul-pos (down_pos e) (down_pos d)) s t (m * up e * down d)
    (n * up d * down e)
    (mag (fin s m e)) (mag (fin t n d)) h.0 h.1

-- ---- signed sizes
below_signed : (s t : Bool) (m n : ℕ) → T (below s m t n) → signed s m ≺ signed t n
below_signed false false m n h = let l = ltb→lt m n h in omega arith
below_signed false true m n h = absurd h
below_signed true false m n h = let l = ltb→lt 0 (m + n) h in omega arith
below_signed true true m n h = let l = ltb→lt n m h in omega arith

signed_below : (s t : Bool) (m n : ℕ) → signed s m ≺ signed t n → T (below s m t n)
signed_below false false m n h = lt→ltb m n (omega arith)
signed_below false true m n h = absurd (omega arith)
signed_below true false m n h = lt→ltb 0 (m + n) (omega arith)
signed_below true true m n h = lt→ltb n m (omega arith)

level_signed : (s t : Bool) (m n : ℕ) → T (level s m t n) → signed s m ≐ signed t n
level_signed s t m n h =
    by_signs s t (eqb→eq m n (and_l (eqb m n) (beq s t || eqb m 0) h))
    (and_r (eqb m n) (beq s t || eqb m 0) h)
  where
    by_signs : (s t : Bool) → m ≡ n → T (beq s t || eqb m 0) → signed s m ≐ signed t n
    by_signs true true e h = omega arith
    by_signs false false e h = omega arith
    by_signs true false e h = let z = eqb→eq m 0 h in omega arith
    by_signs false true e h = let z = eqb→eq m 0 h in omega arith

signed_level : (s t : Bool) (m n : ℕ) → signed s m ≐ signed t n → T (level s m t n)
signed_level true true m n h = and_i (eqb m n) true (eq→eqb {a = m} {b = n} (omega arith)) tt
signed_level false false m n h = and_i (eqb m n) true (eq→eqb {a = m} {b = n} (omega arith)) tt
signed_level true false m n h = and_i (eqb m n) (eqb m 0) (eq→eqb {a = m} {b = n} (omega arith))
    (eq→eqb {a = m} {b = 0} (omega arith))
signed_level false true m n h = and_i (eqb m n) (eqb m 0) (eq→eqb {a = m} {b = n} (omega arith))
    (eq→eqb {a = m} {b = 0} (omega arith))

-- ---- of any two floats, NaNs and infinities too: x ≤ y leaves no y < x
pub le_not_lt : (x y : Float) → T (le x y) → T (lt y x) → ⊥
unfolding le lt eq
le_not_lt nan y h l = h
le_not_lt (inf s) nan h l = h
le_not_lt (inf true) (inf true) h l = l
le_not_lt (inf true) (inf false) h l = l
le_not_lt (inf false) (inf true) h l = h
le_not_lt (inf false) (inf false) h l = l
le_not_lt (inf true) (fin t n d) h l = l
le_not_lt (inf false) (fin t n d) h l = h
le_not_lt (fin s m e) nan h l = h
le_not_lt (fin s m e) (inf true) h l = h
le_not_lt (fin s m e) (inf false) h l = l
le_not_lt (fin s m e) (fin t n d) h l =
    let p = m * up e * down d in
    let q = n * up d * down e in
    by_tests (below s p t q) (level s p t q) (signed s p) (signed t q) (below_signed s t p q) (level_signed s t p q) h
    (below_signed t s q p l)
  where
    by_tests : (a b : Bool) (u v : Z) → (T a → u ≺ v) → (T b → u ≐ v) → T (a || b) → v ≺ u → ⊥
    by_tests true b u v less same h g = let k = less tt in omega arith
    by_tests false true u v less same h g = let k = same tt in omega arith
    by_tests false false u v less same h g = h

-- ---- the laws
module _ {x y : Float} (x_f32 : F32 x) (y_f32 : F32 y) where
  pub lt_val : T (lt x y) → val x ≺ val y
  lt_val h = rw (val_signed x, val_signed y)
      (below_signed (sign x) (sign y) (mag x) (mag y) (subst T (lt_is (f32_as_fin x_f32) (f32_as_fin y_f32)) h))

  pub val_lt : val x ≺ val y → T (lt x y)
  val_lt h = subst T (sym (lt_is (f32_as_fin x_f32) (f32_as_fin y_f32)))
      (signed_below (sign x) (sign y) (mag x) (mag y) (rw (val_signed x, val_signed y) at h))

  pub eq_val : T (eq x y) → val x ≐ val y
  eq_val h = rw (val_signed x, val_signed y)
      (level_signed (sign x) (sign y) (mag x) (mag y) (subst T (eq_is (f32_as_fin x_f32) (f32_as_fin y_f32)) h))

  pub val_eq : val x ≐ val y → T (eq x y)
  val_eq h = subst T (sym (eq_is (f32_as_fin x_f32) (f32_as_fin y_f32)))
      (signed_level (sign x) (sign y) (mag x) (mag y) (rw (val_signed x, val_signed y) at h))

module _ {x y : Float} (x_f32 : F32 x) (y_f32 : F32 y) where
  pub le_val : T (le x y) → val x ≼ val y
  unfolding le
  le_val h = by_tests (lt x y) (eq x y) (lt_val x_f32 y_f32) (eq_val x_f32 y_f32) h
    where
      by_tests : (a b : Bool) → (T a → val x ≺ val y) → (T b → val x ≐ val y) → T (a || b) → val x ≼ val y
      by_tests true b less same h = let l = less tt in omega arith
      by_tests false true less same h = let e = same tt in omega arith
      by_tests false false less same h = absurd h

  pub val_le : val x ≼ val y → T (le x y)
  unfolding le
  val_le h = elim (eq-or-lt_of_le h) [
    | inl e ↦ or_right (lt x y) (eq x y) (val_eq x_f32 y_f32 e)
    | inr l ↦ or_left (lt x y) (eq x y) (val_lt x_f32 y_f32 l)
  ]

-- ---- where `<` fails
module _ {x y : Float} (x_f32 : F32 x) (y_f32 : F32 y) where
  pub not_lt_val : T (not (lt x y)) → val y ≼ val x
  not_lt_val h = elim (order_cases (val y) (val x)) [
    | inl l ↦ l
    | inr g ↦ absurd (T_not (lt x y) h (val_lt x_f32 y_f32 g))
  ]

  pub val_not_lt : val y ≼ val x → T (not (lt x y))
  val_not_lt h = not_T (lt x y) (λ t. let l = lt_val x_f32 y_f32 t in omega arith)

-- ---- as whole-number tests
module _ {x y : Float} (x_f32 : F32 x) (y_f32 : F32 y) where
  pub lt_test : lt x y ≡ (val x ≺? val y)
  lt_test =
      bool_iff (lt x y) (val x ≺? val y) (λ t. test_of_lt (val x) (val y) (lt_val x_f32 y_f32 t))
      (λ t. val_lt x_f32 y_f32 (lt_of_test (val x) (val y) t))

  pub eq_test : eq x y ≡ (val x ≐? val y)
  eq_test =
      bool_iff (eq x y) (val x ≐? val y) (λ t. test_of_same (val x) (val y) (eq_val x_f32 y_f32 t))
      (λ t. val_eq x_f32 y_f32 (same_of_test (val x) (val y) t))
