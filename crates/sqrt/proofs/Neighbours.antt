-- The root is the nearest number of the format, and there is no tie: √x lies strictly on its side of the middle
-- between it and any other number of the format. Assumes nothing.
use Rattle.std.proofs.Common.{◌≡◌, ℕ, zero, suc, ◌+◌, ◌-◌, ◌*◌, ◌/◌, ◌^◌, ◌<◌, ◌≤◌, sym, refl, ap, ◌∙◌, subst, ap₂, inl, inr, le_trans, le_of_eq, lt_of_lt_of_le, lt_of_le_of_lt, le_of_lt, mul-le-mul_right, mul_assoc, mul-le-mul, lt_of_mul-lt-mul_right, eq-or-lt_of_le, mul-le-mul_left, mul-lt-mul_of_pos_right, mul-pos, one-mul, lt_of_not-le, not-le_of_lt, le_of_mul-le-mul_right, arith, pow_pos, pow_mono, pow-add, shl_lt}
use native.Mathlib.Nat.{mul-mul-mul_comm}
use native.Mathlib.Decide.{dec_le}
use lib.Ieee.{Float, binary32, size}
use lib.Ieee.Digits.{back, size-lt, size-le, size_reaches}
use Rattle.algebra.specs.Integer.{whole, ◌≺◌}
use Rattle.rounding.specs.Value.{metre, F32, mag, val}
use Rattle.rounding.proofs.Value.{metre_is, positive_sign}
use Rattle.rounding.proofs.Digits.{digits}
use Rattle.sqrt.specs.Sqrt.{sqrt}
use Rattle.sqrt.specs.Root.{NearestRoot}
use Rattle.sqrt.proofs.WholeRoot.{four_pow, four_pow_pos, four_pow_add}
use Rattle.sqrt.proofs.RoundedRoot.{RoundedRoot, HalfUnit}
use Rattle.sqrt.proofs.RootPattern.{nearest_root_of_half_unit}
use Rattle.sqrt.proofs.SqrtLaw.{sqrt_rounded, root_mag}
use Rattle.sqrt.proofs.SqrtOrder.{as_digits, coarse}

square_lt : (a b : ℕ) → a < b → a * a < b * b
square_lt a b h =
    let b_pos : 0 < b = omega arith in
    lt_of_le_of_lt (mul-le-mul_left a (le_of_lt h)) (mul-lt-mul_of_pos_right h b_pos)

-- ---- against r s, for the r nearest to √n, and 4 n s²
module _ (n r s : ℕ) (s_pos : 0 < s) (nearest : NearestRoot n r) where
  four_root : 4 * (n * (s * s)) ≡ 4 * n * (s * s)
  four_root = sym (mul_assoc 4 n (s * s))

  -- a is at least one step below r
  step_below : (a c : ℕ) → a ≤ c * s → c < r → (a + r * s) * (a + r * s) < 4 * (n * (s * s))
  step_below a c a_low c_low =
      let sum : a + r * s ≤ (c + r) * s = omega arith in
      let past : c + r + 1 ≤ r + r = omega arith in
      let squared : (c + r) * (c + r) < 4 * n = narrow c nearest.not_over c_low in
      lt_of_le_of_lt (mul-le-mul sum sum)
      (lt_of_le_of_lt (le_of_eq (mul-mul-mul_comm (c + r) s (c + r) s))
      (lt_of_lt_of_le (mul-lt-mul_of_pos_right squared (mul-pos s_pos s_pos)) (le_of_eq (sym four_root))))
    where
      narrow : (c : ℕ) → r * r < n + r → c < r → (c + r) * (c + r) < 4 * n
      narrow c over less =
          let d : c + r ≤ 2 * r - 1 = omega arith in
          lt_of_le_of_lt (mul-le-mul d d) (odd_square r (omega arith) over)
        where
          odd_square : (r : ℕ) → 0 < r → r * r < n + r → (2 * r - 1) * (2 * r - 1) < 4 * n
          odd_square zero r_pos over = omega arith
          odd_square (suc t) r_pos over =
              let is : 2 * suc t - 1 ≡ 2 * t + 1 = omega arith in
              rw is (omega arith)

  -- a is below r, and r² is not above n
  half_below : (a : ℕ) → a < r * s → r * r ≤ n → (a + r * s) * (a + r * s) < 4 * (n * (s * s))
  half_below a a_low low =
      let sum : a + r * s < (r + r) * s = omega arith in
      lt_of_lt_of_le (square_lt (a + r * s) ((r + r) * s) sum)
      (le_trans (le_of_eq (mul-mul-mul_comm (r + r) s (r + r) s))
      (le_trans (mul-le-mul_right (s * s) (four_times low)) (le_of_eq (sym four_root))))
    where
      four_times : r * r ≤ n → (r + r) * (r + r) ≤ 4 * n
      four_times h = omega arith

  step_above : (a c : ℕ) → c * s ≤ a → r < c → 4 * (n * (s * s)) < (r * s + a) * (r * s + a)
  step_above a c a_high c_high =
      let sum : (r + c) * s ≤ r * s + a = omega arith in
      lt_of_lt_of_le
      (lt_of_le_of_lt (le_of_eq four_root) (mul-lt-mul_of_pos_right (wide c nearest.not_under c_high)
      (mul-pos s_pos s_pos)))
      (le_trans (le_of_eq (sym (mul-mul-mul_comm (r + c) s (r + c) s))) (mul-le-mul sum sum))
    where
      wide : (c : ℕ) → n ≤ r * r + r → r < c → 4 * n < (r + c) * (r + c)
      wide c under more =
          let d : 2 * r + 1 ≤ r + c = omega arith in
          lt_of_lt_of_le (odd_square under) (mul-le-mul d d)
        where
          odd_square : n ≤ r * r + r → 4 * n < (2 * r + 1) * (2 * r + 1)
          odd_square h = omega arith

-- ---- the scale of a root leaves a whole number of 47 or 48 digits
pub record Scaled (y k : ℕ) : Type 0 where
  pub n : ℕ
  pub is : y ≡ n * 4 ^ k
  pub low : 2 ^ 46 ≤ n
  pub high : n < 2 ^ 48

scaled : (y k p i : ℕ) → y ≡ p * 2 ^ i → p < 2 ^ 24 → k ≡ (size y + 1) / 2 - 24 → 126 + 24 ≤ size y → 25 ≤ i
    → Scaled y k
scaled y k p i y_is p_small k_is size_low i_low =
    let z_high : size y ≤ 24 + i = size-le y (24 + i) (lt_of_le_of_lt (le_of_eq y_is) (shl_lt 24 i p_small)) in
    let twice : k + k ≤ i = halved (size y) k i k_is z_high i_low in
    let whole_is : y ≡ p * 2 ^ (i - (k + k)) * 4 ^ k =
    y_is ∙ ap (λ (m : ℕ). p * m) (ap (λ (m : ℕ). 2 ^ m) (sym (back i (k + k) twice)) ∙ pow-add 2 (i - (k + k)) (k + k))
    ∙ sym (mul_assoc p (2 ^ (i - (k + k))) (2 ^ (k + k)))
    ∙ ap (λ (m : ℕ). p * 2 ^ (i - (k + k)) * m) (pow-add 2 k k ∙ sym (four_pow k)) in
    record {
      n = p * 2 ^ (i - (k + k));
      is = whole_is;
      low = le_of_mul-le-mul_right
          (le_trans (le_of_eq (four_pow_add 46 k))
          (le_trans (size_reaches y (46 + (k + k)) (few (size y) k k_is size_low)) (le_of_eq whole_is)))
          (four_pow_pos k);
      high = lt_of_mul-lt-mul_right (4 ^ k)
          (lt_of_le_of_lt (le_of_eq (sym whole_is))
          (lt_of_lt_of_le (size-lt y)
          (le_trans (pow_mono (enough (size y) k k_is)) (le_of_eq (sym (four_pow_add 48 k))))));
    }
  where
    enough : (z k : ℕ) → k ≡ (z + 1) / 2 - 24 → z ≤ 48 + (k + k)
    enough z k a = omega arith

    halved : (z k i : ℕ) → k ≡ (z + 1) / 2 - 24 → z ≤ 24 + i → 25 ≤ i → k + k ≤ i
    halved z k i a b c = omega arith

    few : (z k : ℕ) → k ≡ (z + 1) / 2 - 24 → 126 + 24 ≤ z → 46 + (k + k) < z
    few z k a b = omega arith

-- ---- the root of x
module _ {x : Float} (x_f32 : F32 x) (x_pos : whole 0 ≺ val x) where
  pub root : RoundedRoot (sqrt binary32 x) (mag x * metre)
  root = sqrt_rounded x_f32 x_pos

  pub square : Scaled (mag x * metre) root.scale
  square =
      let d = digits x_f32 in
      let y_is : mag x * metre ≡ d.q * 2 ^ (d.j + 149) =
      ap₂ (λ (m p : ℕ). m * p) d.is metre_is ∙ mul_assoc d.q (2 ^ d.j) (2 ^ 149)
      ∙ ap (λ (m : ℕ). d.q * m) (sym (pow-add 2 d.j 149)) in
      let y_low : 2 ^ 149 ≤ mag x * metre =
      le_trans (le_of_eq (sym (one-mul (2 ^ 149) ∙ refl)))
      (le_trans (mul-le-mul_right (2 ^ 149) (positive_sign x x_pos).mag_pos)
      (le_of_eq (ap (λ (m : ℕ). mag x * m) (sym metre_is)))) in
      let z_low : 149 < size (mag x * metre) =
      lt_of_not-le (λ (h : size (mag x * metre) ≤ 149).
      not-le_of_lt (lt_of_lt_of_le (size-lt (mag x * metre)) (pow_mono h)) y_low) in
      scaled (mag x * metre) root.scale d.q (d.j + 149) y_is d.small root.scale_is (omega arith)
      (omega arith)

  pub nearest : NearestRoot square.n root.digits
  nearest = nearest_root_of_half_unit square.n (4 ^ root.scale) root.digits (four_pow_pos root.scale)
      (subst (λ (y : ℕ). HalfUnit y (4 ^ root.scale) root.digits) square.is root.half_unit)

  s : ℕ
  s = 2 ^ root.scale

  four_is : 4 * (square.n * (s * s)) ≡ 4 * (mag x * metre)
  unfolding s
  four_is = ap (λ (m : ℕ). 4 * m) (ap (λ (m : ℕ). square.n * m) (sym (four_pow root.scale)) ∙ sym square.is)

  module _ {y : Float} (y_f32 : F32 y) where
    -- y at the root's scale, or of fewer digits than the root
    fine : (root.scale ≤ (digits y_f32).j) → (digits y_f32).q * 2 ^ ((digits y_f32).j - root.scale) * s ≡ mag y
    unfolding s
    fine le = let d = digits y_f32 in as_digits root d.q d.j d.small le ∙ sym d.is

    short_below : (digits y_f32).j < root.scale → mag y < 2 ^ 23 * s
    unfolding s
    short_below less =
        let d = digits y_f32 in
        lt_of_le_of_lt (le_of_eq d.is)
        (lt_of_lt_of_le (coarse root d.q d.j d.small less) (le_of_eq (pow-add 2 23 root.scale)))

    s_pos : 0 < s
    unfolding s
    s_pos = pow_pos root.scale

    r_is : mag (sqrt binary32 x) ≡ root.digits * s
    unfolding s
    r_is = root_mag root

    pub root_above_middle : mag y < mag (sqrt binary32 x)
        → (mag y + mag (sqrt binary32 x)) * (mag y + mag (sqrt binary32 x)) < 4 * (mag x * metre)
    root_above_middle less =
        rw (r_is, ← four_is)
        (elim (dec_le root.scale (digits y_f32).j) [
          | yes le ↦
              let c = (digits y_f32).q * 2 ^ ((digits y_f32).j - root.scale) in
              step_below square.n root.digits s s_pos nearest (mag y) c (le_of_eq (sym (fine le)))
              (lt_of_mul-lt-mul_right s (lt_of_le_of_lt (le_of_eq (fine le)) (lt_of_lt_of_le less (le_of_eq r_is))))
          | no short ↦ elim (eq-or-lt_of_le root.digits_low) [
            | inl same ↦ half_below square.n root.digits s s_pos nearest (mag y)
                (lt_of_lt_of_le less (le_of_eq r_is))
                (subst (λ (r : ℕ). r * r ≤ square.n) same square.low)
            | inr more ↦ step_below square.n root.digits s s_pos nearest (mag y) (2 ^ 23)
                (le_of_lt (short_below (lt_of_not-le short))) more
          ]
        ])

    pub root_below_middle : mag (sqrt binary32 x) < mag y
        → 4 * (mag x * metre) < (mag (sqrt binary32 x) + mag y) * (mag (sqrt binary32 x) + mag y)
    root_below_middle more =
        rw (r_is, ← four_is)
        (elim (dec_le root.scale (digits y_f32).j) [
          | yes le ↦
              let c = (digits y_f32).q * 2 ^ ((digits y_f32).j - root.scale) in
              step_above square.n root.digits s s_pos nearest (mag y) c (le_of_eq (fine le))
              (lt_of_mul-lt-mul_right s
              (lt_of_le_of_lt (le_of_eq (sym r_is)) (lt_of_lt_of_le more (le_of_eq (sym (fine le))))))
          | no short ↦ absurd
              (not-le_of_lt
              (lt_of_lt_of_le (short_below (lt_of_not-le short))
              (le_trans (mul-le-mul_right s root.digits_low) (le_of_eq (sym r_is)))) (le_of_lt more))
        ])
