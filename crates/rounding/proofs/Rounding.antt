-- How `round` of lib.Ieee rounds, in whole numbers. A fraction num / den of a metre is num * 2^149 / den units;
-- `rounded num den` is what `round` makes of it, in units. It is off by at most half of its last digit, 2^drop units,
-- and at most twice the fraction. The sign plays no part in it. Assumes nothing.
use mathlib.Core.Path.{◌≡◌, sym, ap, ◌∙◌, subst}
use mathlib.Core.Logic.{◌⊎◌, inl, inr}
use Prim.Native.Nat.{ℕ, zero, suc, ◌+◌, ◌-◌, ◌*◌, ◌/◌, ◌%◌, ◌^◌, ◌≤◌, ◌<◌, compare, Ordering}
use native.Mathlib.Nat.{le_trans, le_of_eq, lt_of_le_of_lt, mul_assoc, mul_comm, mul-le-mul_right, mul-le-mul, mul-pos}
use native.Mathlib.Nat.{mul-lt-mul_of_pos_right, le_of_mul-le-mul_right, div-add-mod', mod-lt, div-lt_iff_lt-mul}
use native.Mathlib.Nat.{le-div_iff_mul-le, div-div-eq-div-mul, eq-zero-or-pos}
use native.Mathlib.Omega.{arith}
use mathlib.Core.Bool.{Bool, true, false, cond}
use lib.Dec.{T, ltb, ltb→lt}
use lib.Pow.{pow-add, pow_pos, pow_mono, pow-lt, shl_lt}
use lib.Ieee.{Float, inf, binary32, size, nearest, odd, units, round}
use lib.Ieee.Digits.{back, size-le, size_reaches}
use lib.Ieee.Fits.{nearest-le, kept-lt, round_is, round-fits}
use lib.Ieee.Exact.{HasValue, units_val}
use lib.Ieee.Nearest.{closest}
use lib.Ieee.Order.{drop, kept}
use lib.Ieee.Scale.{overflow, finite}
use Rattle.rounding.specs.Value.{metre, F32}
use Rattle.rounding.proofs.Value.{metre_is, f32_of_value}
use Rattle.algebra.proofs.Compared.{Compared, compared}

-- ---- the nearest whole number to a / b
-- c b is within b / 2 of a
abbrev Nearest : ℕ → ℕ → ℕ → Type 0
Nearest c a b = (2 * (c * b) ≤ 2 * a + b) × (2 * a ≤ 2 * (c * b) + b)

nearest_near : (o : Ordering) (q r a b : ℕ) → q * b + r ≡ a → r < b → Compared o (r * 2) b → Nearest (nearest q o) a b
nearest_near Ordering.lt q r a b e l c = omega arith
nearest_near Ordering.eq q r a b e l c = tie (q % 2) (parity q)
  where
    parity : (q : ℕ) → q % 2 ≤ 1
    parity q = omega arith

    tie : (t : ℕ) → t ≤ 1 → Nearest (q + t) a b
    tie t h = let m : t * b ≤ 1 * b = mul-le-mul_right b h in omega arith
nearest_near Ordering.gt q r a b e l c = omega arith

closest_near : (a b : ℕ) → 0 < b → Nearest (closest a b) a b
closest_near a b b_pos =
    nearest_near (compare (a % b * 2) b) (a / b) (a % b) a b (div-add-mod' a b) (mod-lt a b_pos)
    (compared (a % b * 2) b)

-- 0 where a / b is below 1/2; else b / 2 is at most a
closest_double : (a b : ℕ) → 0 < b → closest a b * b ≤ 2 * a
closest_double a b b_pos = by_size (closest a b) (closest_near a b b_pos)
  where
    by_size : (c : ℕ) → Nearest c a b → c * b ≤ 2 * a
    by_size zero h = omega arith
    by_size (suc c) h = omega arith

-- a whole number of b
closest_exact : (a b r : ℕ) → 0 < b → a ≡ r * b → closest a b ≡ r
closest_exact a b r b_pos e =
    let near = closest_near a b b_pos in
    let over : 2 * closest a b ≤ 2 * r + 1 = le_of_mul-le-mul_right {k = b} (omega arith) b_pos in
    let under : 2 * r ≤ 2 * closest a b + 1 = le_of_mul-le-mul_right {k = b} (omega arith) b_pos in
    omega arith

-- ---- the rounded size, in units: how many digits are dropped, what is kept, and both
abbrev pub dropped : ℕ → ℕ → ℕ
dropped num den = drop 24 (num * 2 ^ 149) den

abbrev pub kept_digits : ℕ → ℕ → ℕ
kept_digits num den = kept 24 (num * 2 ^ 149) den

abbrev pub rounded : ℕ → ℕ → ℕ
rounded num den = kept_digits num den * 2 ^ dropped num den

-- a whole number of last digits: the fraction over a digit's worth of den
over_digit : (num den : ℕ) → rounded num den * den ≡ kept_digits num den * (den * 2 ^ dropped num den)
over_digit num den =
    let q = kept_digits num den in
    let p = 2 ^ dropped num den in
    mul_assoc q p den ∙ ap (λ (x : ℕ). q * x) (mul_comm p den)

pub rounded_near : (num den : ℕ) → 0 < den
    → (2 * (rounded num den * den) ≤ 2 * (num * 2 ^ 149) + den * 2 ^ dropped num den)
    × (2 * (num * 2 ^ 149) ≤ 2 * (rounded num den * den) + den * 2 ^ dropped num den)
rounded_near num den den_pos =
    let k = dropped num den in
    rw (over_digit num den) (closest_near (num * 2 ^ 149) (den * 2 ^ k) (mul-pos den_pos (pow_pos k)))

pub rounded_double : (num den : ℕ) → 0 < den → rounded num den * den ≤ 2 * (num * 2 ^ 149)
rounded_double num den den_pos =
    let k = dropped num den in
    rw (over_digit num den) (closest_double (num * 2 ^ 149) (den * 2 ^ k) (mul-pos den_pos (pow_pos k)))

-- ---- the last digit
-- below 2^(24 + j) units it is at most 2^j
pub drop_le : (num den j : ℕ) → 0 < den → num * 2 ^ 149 < 2 ^ (24 + j) * den → dropped num den ≤ j
drop_le num den j den_pos h =
    few (size (num * 2 ^ 149 / den)) (size-le (num * 2 ^ 149 / den) (24 + j) ((div-lt_iff_lt-mul den_pos).1 h))
  where
    few : (z : ℕ) → z ≤ 24 + j → z - 24 ≤ j
    few z h = omega arith

-- a fraction of at most 24 digits is kept
pub rounded_exact : (num den q j : ℕ) → 0 < den → q < 2 ^ 24 → num * 2 ^ 149 ≡ q * 2 ^ j * den
    → rounded num den ≡ q * 2 ^ j
rounded_exact num den q j den_pos small e =
    let n = num * 2 ^ 149 in
    let k = dropped num den in
    let few : k ≤ j =
    drop_le num den j den_pos (lt_of_le_of_lt (le_of_eq e) (mul-lt-mul_of_pos_right (shl_lt 24 j small) den_pos)) in
    let r = q * 2 ^ (j - k) in
    let again : r * 2 ^ k ≡ q * 2 ^ j =
    mul_assoc q (2 ^ (j - k)) (2 ^ k)
    ∙ ap (λ (x : ℕ). q * x) (sym (pow-add 2 (j - k) k) ∙ ap (λ (x : ℕ). 2 ^ x) (back j k few)) in
    let whole : n ≡ r * (den * 2 ^ k) =
    e ∙ ap (λ (x : ℕ). x * den) (sym again) ∙ mul_assoc r (2 ^ k) den ∙ ap (λ (x : ℕ). r * x) (mul_comm (2 ^ k) den) in
    ap (λ (x : ℕ). x * 2 ^ k) (closest_exact n (den * 2 ^ k) r (mul-pos den_pos (pow_pos k)) whole) ∙ again

-- it is one unit, or at most 2^-23 of the fraction
pub digit_small : (num den : ℕ) → 0 < den
    → (dropped num den ≡ 0) ⊎ (2 ^ 23 * (den * 2 ^ dropped num den) ≤ num * 2 ^ 149)
digit_small num den den_pos = elim (eq-zero-or-pos (dropped num den)) [
  | inl none ↦ inl none
  | inr some ↦
      let n = num * 2 ^ 149 in
      let k = dropped num den in
      let reach : 2 ^ (23 + k) * den ≤ n =
      (le-div_iff_mul-le den_pos).0 (size_reaches (n / den) (23 + k) (in_use (size (n / den)) some)) in
      let move : 2 ^ 23 * (den * 2 ^ k) ≡ 2 ^ (23 + k) * den =
      ap (λ (x : ℕ). 2 ^ 23 * x) (mul_comm den (2 ^ k)) ∙ sym (mul_assoc (2 ^ 23) (2 ^ k) den)
      ∙ ap (λ (x : ℕ). x * den) (sym (pow-add 2 23 k)) in
      inr (le_trans (le_of_eq move) reach)
]
  where
    in_use : (z : ℕ) → 0 < z - 24 → 23 + (z - 24) < z
    in_use z h = omega arith

-- ---- finite results
kept_le : (n den : ℕ) → kept 24 n den ≤ 2 ^ 24
kept_le n den =
    let u = den * 2 ^ drop 24 n den in
    le_trans (nearest-le (n / u) (compare (n % u * 2) u))
    (subst (λ (x : ℕ). x < 2 ^ 24) (div-div-eq-div-mul n den (2 ^ drop 24 n den)) (kept-lt 24 (n / den)))

-- below 2^127 m
pub rounded_high : (num den j : ℕ) → 0 < den → num * 2 ^ 149 < 2 ^ (24 + j) * den → 24 + j < 277
    → rounded num den < overflow binary32
rounded_high num den j den_pos h j_low =
    let n = num * 2 ^ 149 in
    let digit : 2 ^ dropped num den ≤ 2 ^ j = pow_mono (drop_le num den j den_pos h) in
    lt_of_le_of_lt (le_trans (mul-le-mul (kept_le n den) digit) (le_of_eq (sym (pow-add 2 24 j)))) (pow-lt j_low)

pub round_value : (s : Bool) (num den : ℕ) → rounded num den < overflow binary32
    → HasValue (round binary32 s num den) s (rounded num den) metre
round_value s num den h =
    rw (metre_is, round_is binary32 s num den)
    (units_val binary32 s (kept_digits num den) (dropped num den) h)

pub round_f32 : (s : Bool) (num den : ℕ) → rounded num den < overflow binary32 → F32 (round binary32 s num den)
round_f32 s num den h =
    f32_of_value (round binary32 s num den) s (rounded num den) (round-fits binary32 s num den)
    (round_value s num den h)

units_high : (s : Bool) (q k : ℕ) → T (finite (units binary32 s q k)) → q * 2 ^ k < overflow binary32
unfolding units
units_high s q k = by_test (ltb (q * 2 ^ k) (overflow binary32)) (ltb→lt (q * 2 ^ k) (overflow binary32))
  where
    by_test : (b : Bool) → (T b → q * 2 ^ k < overflow binary32) → T (finite (cond b (odd 25 s q k 149) (inf s)))
        → q * 2 ^ k < overflow binary32
    by_test true below t = below tt
    by_test false below t = absurd t

pub finite_rounded : (s : Bool) (num den : ℕ) → T (finite (round binary32 s num den))
    → rounded num den < overflow binary32
finite_rounded s num den t =
    units_high s (kept_digits num den) (dropped num den)
    (subst (λ (z : Float). T (finite z)) (round_is binary32 s num den) t)
