-- The error of `rounded num den`, in units times den, by the size of the fraction of a metre num / den. At most 2^k m:
-- at most 2^k ticks. At least 2^-126 m, the normal range: at most 2^-24 of the fraction; and in any case at most that
-- and half a unit. Assumes nothing.
use mathlib.Core.Path.{◌≡◌, refl, sym, ap, ◌∙◌, subst}
use mathlib.Core.Logic.{inl, inr}
use Prim.Native.Nat.{ℕ, ◌+◌, ◌*◌, ◌^◌, ◌≤◌, ◌<◌}
use native.Mathlib.Nat.{le_trans, le_of_eq, lt_of_lt_of_le, one-mul, mul-one, mul_right_comm, mul-le-mul_left}
use native.Mathlib.Nat.{mul-lt-mul_of_pos_right, eq-or-lt_of_le}
use native.Mathlib.Omega.{arith}
use lib.Dec.{lit<}
use lib.Pow.{pow-add, pow_pos, pow_mono, pow-lt}
use lib.Ieee.{binary32}
use lib.Ieee.Scale.{overflow}
use Rattle.rounding.specs.Value.{metre, tick}
use Rattle.rounding.proofs.Value.{metre_is, metre_power}
use Rattle.rounding.proofs.Rounding.{dropped, rounded, rounded_near, rounded_exact, rounded_high, drop_le}
use Rattle.rounding.proofs.Rounding.{digit_small}

-- |a - b| ≤ e
abbrev pub Apart : ℕ → ℕ → ℕ → Type 0
Apart a b e = (a ≤ b + e) × (b ≤ a + e)

in_metres : (num : ℕ) → num * 2 ^ 149 ≡ num * metre
in_metres num = ap (λ (x : ℕ). num * x) (sym metre_is)

-- half a last digit
half_digit : (num den : ℕ) → 0 < den
    → Apart (2 * (rounded num den * den)) (2 * (num * metre)) (den * 2 ^ dropped num den)
half_digit num den den_pos =
    subst (λ (n : ℕ). Apart (2 * (rounded num den * den)) (2 * n) (den * 2 ^ dropped num den))
    (in_metres num) (rounded_near num den den_pos)

-- ---- at most 2^k m
below_power : (num den k : ℕ) → num < 2 ^ k * den → num * 2 ^ 149 < 2 ^ (24 + (125 + k)) * den
below_power num den k h =
    lt_of_lt_of_le (mul-lt-mul_of_pos_right h (pow_pos 149))
    (le_of_eq (mul_right_comm (2 ^ k) den (2 ^ 149)
    ∙ ap (λ (x : ℕ). x * den) (sym (pow-add 2 k 149) ∙ ap (λ (x : ℕ). 2 ^ x) (sum k))))
  where
    sum : (k : ℕ) → k + 149 ≡ 24 + (125 + k)
    sum k = omega arith

rounded_at_power : (num den k : ℕ) → 0 < den → num ≡ 2 ^ k * den → rounded num den ≡ 2 ^ k * metre
rounded_at_power num den k den_pos e =
    rounded_exact num den 1 (k + 149) den_pos (lit< tt)
    (ap (λ (x : ℕ). x * 2 ^ 149) e ∙ move (2 ^ k) (2 ^ 149) (2 ^ (k + 149)) (pow-add 2 k 149))
    ∙ one-mul (2 ^ (k + 149)) ∙ metre_power k
  where
    move : (p m q : ℕ) → q ≡ p * m → p * den * m ≡ 1 * q * den
    move p m q h = rw h (omega arith)

pub rounded_low : (num den k : ℕ) → 0 < den → k ≤ 127 → num ≤ 2 ^ k * den → rounded num den < overflow binary32
rounded_low num den k den_pos k_low h = elim (eq-or-lt_of_le h) [
  | inl at ↦ rw (rounded_at_power num den k den_pos at)
      (rw (← metre_power k) (pow-lt (room k k_low)))
  | inr lt ↦ rounded_high num den (125 + k) den_pos (below_power num den k lt) (room' k k_low)
]
  where
    room : (k : ℕ) → k ≤ 127 → k + 149 < 277
    room k h = omega arith

    room' : (k : ℕ) → k ≤ 127 → 24 + (125 + k) < 277
    room' k h = omega arith

-- twice the ticks of 2^k are a last digit of 2^(125 + k) units
two_ticks : (k : ℕ) → 2 ^ (125 + k) ≡ 2 * (2 ^ k * tick)
unfolding tick
two_ticks k = pow-add 2 125 k ∙ double (2 ^ 124) (2 ^ k) (2 ^ 125) refl
  where
    double : (t p d : ℕ) → d ≡ 2 * t → d * p ≡ 2 * (p * t)
    double t p d h = rw h (omega arith)

pub rounded_absolute : (num den k : ℕ) → 0 < den → num ≤ 2 ^ k * den
    → Apart (rounded num den * den) (num * metre) (2 ^ k * tick * den)
rounded_absolute num den k den_pos h = elim (eq-or-lt_of_le h) [
  | inl at ↦ level (rounded num den) (2 ^ k) (rounded_at_power num den k den_pos at) at
  | inr lt ↦
      halve (2 ^ dropped num den) (2 ^ k * tick) (half_digit num den den_pos)
      (le_trans (pow_mono (drop_le num den (125 + k) den_pos (below_power num den k lt))) (le_of_eq (two_ticks k)))
]
  where
    level : (r p : ℕ) → r ≡ p * metre → num ≡ p * den → Apart (r * den) (num * metre) (p * tick * den)
    level r p e f =
        let a : r * den ≡ p * metre * den = ap (λ (x : ℕ). x * den) e in
        let b : num * metre ≡ p * den * metre = ap (λ (x : ℕ). x * metre) f in
        omega arith

    halve : (d t : ℕ) → Apart (2 * (rounded num den * den)) (2 * (num * metre)) (den * d) → d ≤ 2 * t
        → Apart (rounded num den * den) (num * metre) (t * den)
    halve d t near le = let a : den * d ≤ den * (2 * t) = mul-le-mul_left den le in omega arith

-- ---- relative
le_left : (a b : ℕ) → a ≤ a + b
le_left a b = omega arith

le_right : (a b : ℕ) → b ≤ a + b
le_right a b = omega arith

one_unit : (den k : ℕ) → k ≡ 0 → 2 ^ 23 * (den * 2 ^ k) ≡ 2 ^ 23 * den
one_unit den k none = ap (λ (k : ℕ). 2 ^ 23 * (den * 2 ^ k)) none ∙ ap (λ (x : ℕ). 2 ^ 23 * x) (mul-one den)

scaled : (a b d n : ℕ) → Apart (2 * a) (2 * b) d → 2 ^ 23 * d ≤ n → Apart (2 ^ 24 * a) (2 ^ 24 * b) n
scaled a b d n h k = omega arith

pub rounded_mixed : (num den : ℕ) → 0 < den
    → Apart (2 ^ 24 * (rounded num den * den)) (2 ^ 24 * (num * metre)) (num * metre + 2 ^ 23 * den)
rounded_mixed num den den_pos =
    let d = den * 2 ^ dropped num den in
    scaled (rounded num den * den) (num * metre) d (num * metre + 2 ^ 23 * den) (half_digit num den den_pos)
    (elim (digit_small num den den_pos) [
      | inl none ↦ le_trans (le_of_eq (one_unit den (dropped num den) none))
          (le_right (num * metre) (2 ^ 23 * den))
      | inr small ↦ le_trans small (le_trans (le_of_eq (in_metres num)) (le_left (num * metre) (2 ^ 23 * den)))
    ])

pub rounded_relative : (num den : ℕ) → 0 < den → 2 ^ 23 * den ≤ num * metre
    → Apart (2 ^ 24 * (rounded num den * den)) (2 ^ 24 * (num * metre)) (num * metre)
rounded_relative num den den_pos normal =
    let d = den * 2 ^ dropped num den in
    scaled (rounded num den * den) (num * metre) d (num * metre) (half_digit num den den_pos)
    (elim (digit_small num den den_pos) [
      | inl none ↦ le_trans (le_of_eq (one_unit den (dropped num den) none)) normal
      | inr small ↦ le_trans small (le_of_eq (in_metres num))
    ])
