-- The bit pattern of a root: for the r nearest to √n, n of 47 or 48 digits, k * 2^23 + r is the pattern of √(n * 4^k),
-- in smallest units; and so of the root of f * 2^(g - 277), which halves g and leaves its parity in n. Assumes nothing.
use Rattle.std.proofs.Common.{◌≡◌, ℕ, zero, suc, ◌+◌, ◌-◌, ◌*◌, ◌/◌, ◌%◌, ◌^◌, ◌<◌, ◌≤◌, Bool, true, false, not, T, leb, sym, refl, ap, ◌∙◌, subst, le_trans, le_of_eq, lt_of_lt_of_le, mul-le-mul_right, mul_assoc, le_antisymm, mul-lt-mul_of_pos_right, one-mul, lt_of_not-le, not-le_of_lt, le_of_mul-le-mul_right, arith, leb→le, pow_pos, pow_mono, pow-add}
use native.Mathlib.Nat.{le_dest}
use native.Mathlib.Nat.{pow-succ'}
use lib.Dec.{nleb→lt}
use lib.Ieee.{binary32, size, of_bits}
use lib.Ieee.Digits.{size-lt, size-le}
use lib.Ieee.Bits.{of_bits-fits}
use Rattle.sqrt.specs.Root.{NearestRoot}
use Rattle.sqrt.proofs.WholeRoot.{four_pow_add, four_pow_pos}
use Rattle.sqrt.proofs.RoundedRoot.{HalfUnit, root_above_zero, rounded_root_is}
use Rattle.rounding.proofs.Patterns.{Units, same_units_equal, digits_units}

-- ---- there is one nearest whole number
pub nearest_root_only : (n r s : ℕ) → r * r < n + r → n ≤ s * s + s → s < r → ⊥
nearest_root_only n r s not_over not_under s_below =
    let past = le_dest s_below in
    let squared : (suc s + past.0) * (suc s + past.0) ≡ r * r = ap (λ (x : ℕ). x * x) past.1 in
    let same : suc s + past.0 ≡ r = past.1 in
    omega arith

nearest_root_le : (n r s : ℕ) → NearestRoot n r → NearestRoot n s → r ≤ s
nearest_root_le n r s of_r of_s = by_test (leb r s) (leb→le r s) (nleb→lt r s)
  where
    by_test : (b : Bool) → (T b → r ≤ s) → (T (not b) → s < r) → r ≤ s
    by_test true le gt = le tt
    by_test false le gt = absurd (nearest_root_only n r s of_r.not_over of_s.not_under (gt tt))

pub nearest_root_unique : (n r s : ℕ) → NearestRoot n r → NearestRoot n s → r ≡ s
nearest_root_unique n r s of_r of_s = le_antisymm (nearest_root_le n r s of_r of_s) (nearest_root_le n s r of_s of_r)

pub nearest_root_le_2^24 : (n r : ℕ) → n < 2 ^ 48 → NearestRoot n r → r ≤ 2 ^ 24
nearest_root_le_2^24 n r n_high of_r = by_test (leb r (2 ^ 24)) (leb→le r (2 ^ 24)) (nleb→lt r (2 ^ 24))
  where
    by_test : (b : Bool) → (T b → r ≤ 2 ^ 24) → (T (not b) → 2 ^ 24 < r) → r ≤ 2 ^ 24
    by_test true le gt = le tt
    by_test false le gt = absurd (nearest_root_only n r (2 ^ 24) of_r.not_over (omega arith) (gt tt))

pub nearest_root_of_half_unit : (n h r : ℕ) → 0 < h → HalfUnit (n * h) h r → NearestRoot n r
nearest_root_of_half_unit n h r h_pos half =
    let a : 4 * (r * r) + 1 ≤ 4 * n + 4 * r = le_of_mul-le-mul_right (let l = half.0 in omega arith) h_pos in
    let b : 4 * n ≤ 4 * (r * r) + 4 * r + 1 = le_of_mul-le-mul_right (let u = half.1 in omega arith) h_pos in
    record { not_over = omega arith; not_under = omega arith }

-- ---- the root of n * 4^k
module _ (n k : ℕ) (n_low : 2 ^ 46 ≤ n) (n_high : n < 2 ^ 48) where
  scaled_below : n * 4 ^ k < 2 ^ (48 + (k + k))
  scaled_below = lt_of_lt_of_le (mul-lt-mul_of_pos_right n_high (four_pow_pos k)) (le_of_eq (four_pow_add 48 k))

  scaled_above : 2 ^ (46 + (k + k)) ≤ n * 4 ^ k
  scaled_above = le_trans (le_of_eq (sym (four_pow_add 46 k))) (mul-le-mul_right (4 ^ k) n_low)

  pub scale_is_k : (size (n * 4 ^ k) + 1) / 2 - 24 ≡ k
  scale_is_k =
      let z = size (n * 4 ^ k) in
      let z_high : z ≤ 48 + (k + k) = size-le (n * 4 ^ k) (48 + (k + k)) scaled_below in
      let z_low : 46 + (k + k) < z =
      lt_of_not-le
      (λ (h : z ≤ 46 + (k + k)). not-le_of_lt (lt_of_lt_of_le (size-lt (n * 4 ^ k)) (pow_mono h)) scaled_above) in
      halved z z_high z_low
    where
      halved : (z : ℕ) → z ≤ 48 + (k + k) → 46 + (k + k) < z → (z + 1) / 2 - 24 ≡ k
      halved z a b = omega arith

  pub rounded_root_pattern : (r : ℕ) → 1 ≤ k → k < 190 → NearestRoot n r
      → of_bits binary32 (k * 2 ^ 23 + r) ≡ root_above_zero (n * 4 ^ k)
  rounded_root_pattern r k_low k_high r_nearest =
      let y = n * 4 ^ k in
      let digits_low : 48 ≤ 46 + (k + k) = omega arith in
      let digits_high : 48 + (k + k) ≤ 426 = omega arith in
      let y_low : 2 ^ 48 ≤ y = le_trans (pow_mono digits_low) scaled_above in
      let y_high : y < 2 ^ 426 = lt_of_lt_of_le scaled_below (pow_mono digits_high) in
      let root = rounded_root_is y y_low y_high in
      let same_scale : root.scale ≡ k = root.scale_is ∙ scale_is_k in
      let half : HalfUnit y (4 ^ k) root.digits =
      subst (λ (x : ℕ). HalfUnit y (4 ^ x) root.digits) same_scale root.half_unit in
      let same_digits : root.digits ≡ r =
      nearest_root_unique n root.digits r (nearest_root_of_half_unit n (4 ^ k) root.digits (four_pow_pos k)
      half) r_nearest in
      let units : Units (root_above_zero y) (r * 2 ^ k) =
      subst (λ (x : ℕ). Units (root_above_zero y) (r * 2 ^ x)) same_scale
      (subst (λ (x : ℕ). Units (root_above_zero y) (x * 2 ^ root.scale)) same_digits root.value) in
      let r_low : 2 ^ 23 ≤ r = subst (λ (x : ℕ). 2 ^ 23 ≤ x) same_digits root.digits_low in
      let r_high : r ≤ 2 ^ 24 = subst (λ (x : ℕ). x ≤ 2 ^ 24) same_digits root.digits_high in
      same_units_equal (of_bits binary32 (k * 2 ^ 23 + r)) (root_above_zero y) (r * 2 ^ k)
      (of_bits-fits binary32 (k * 2 ^ 23 + r)) root.in_format
      (digits_units k r (omega arith) r_low r_high) units

-- ---- the root of f * 2^(g - 277): its square in smallest units is f * 2^(g + 21)
-- the code's n: f moved up by 23 digits, and one more where g is odd
abbrev pub widened : ℕ → ℕ → ℕ
widened f g = f * 2 ^ 23 * (g % 2 + 1)

parity_power : (t : ℕ) → t < 2 → t + 1 ≡ 2 ^ t
parity_power zero h = refl
parity_power (suc zero) h = refl
parity_power (suc (suc t)) h = absurd (omega arith)

pub widened_bounds : (f g : ℕ) → 2 ^ 23 ≤ f → f < 2 ^ 24 → (2 ^ 46 ≤ widened f g) × (widened f g < 2 ^ 48)
widened_bounds f g f_low f_high = by_parity (g % 2) (omega arith)
  where
    by_parity : (t : ℕ) → t < 2 → (2 ^ 46 ≤ f * 2 ^ 23 * (t + 1)) × (f * 2 ^ 23 * (t + 1) < 2 ^ 48)
    by_parity zero h = (omega arith, omega arith)
    by_parity (suc zero) h = (omega arith, omega arith)
    by_parity (suc (suc t)) h = absurd (omega arith)

exponent_halved : (g : ℕ) → 2 ≤ g → g + 21 ≡ 23 + g % 2 + (g / 2 - 1 + (g / 2 - 1))
exponent_halved g h = omega arith

pub widened_scaled : (f g : ℕ) → 2 ≤ g → f * 2 ^ (g + 21) ≡ widened f g * 4 ^ (g / 2 - 1)
widened_scaled f g h =
    let k = g / 2 - 1 in
    let p = g % 2 in
    ap (λ (x : ℕ). f * 2 ^ x) (exponent_halved g h)
    ∙ ap (λ (x : ℕ). f * x) (sym (four_pow_add (23 + p) k) ∙ ap (λ (x : ℕ). x * 4 ^ k) (pow-add 2 23 p))
    ∙ sym (mul_assoc f (2 ^ 23 * 2 ^ p) (4 ^ k))
    ∙ ap (λ (x : ℕ). x * 4 ^ k)
    (sym (mul_assoc f (2 ^ 23) (2 ^ p)) ∙ ap (λ (x : ℕ). f * 2 ^ 23 * x) (sym (parity_power p (omega arith))))

-- ---- a subnormal's digits, moved up one by one: f * 2^g stays
pub doubled_scale : (f g : ℕ) → 0 < g → f * 2 ^ (g + 21) ≡ f * 2 * 2 ^ (g - 1 + 21)
doubled_scale f g g_pos =
    let exponent : g + 21 ≡ suc (g - 1 + 21) = omega arith in
    ap (λ (x : ℕ). f * 2 ^ x) exponent
    ∙ ap (λ (x : ℕ). f * x) (pow-succ' 2 (g - 1 + 21)) ∙ sym (mul_assoc f 2 (2 ^ (g - 1 + 21)))

-- while f has fewer than 24 digits, g is above 105
pub scale_above_105 : (t f g : ℕ) → 0 < t → f < 2 ^ 23 → t * 2 ^ 149 ≡ f * 2 ^ (g + 21) → 105 < g
scale_above_105 t f g t_pos f_small same =
    let low : 2 ^ 149 ≤ f * 2 ^ (g + 21) =
    le_trans (le_of_eq (sym (one-mul (2 ^ 149)))) (le_trans (mul-le-mul_right (2 ^ 149) t_pos) (le_of_eq same)) in
    let high : f * 2 ^ (g + 21) < 2 ^ (23 + (g + 21)) =
    lt_of_lt_of_le (mul-lt-mul_of_pos_right f_small (pow_pos (g + 21))) (le_of_eq (sym (pow-add 2 23 (g + 21)))) in
    let digits : 149 < 23 + (g + 21) =
    lt_of_not-le (λ (h : 23 + (g + 21) ≤ 149). not-le_of_lt (lt_of_lt_of_le high (pow_mono h)) low) in
    omega arith
