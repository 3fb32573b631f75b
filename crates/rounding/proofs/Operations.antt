-- Each operation rounds once. `Rounds z num den` says that z is the fraction num / den of a metre, rounded: sum and
-- difference are over a metre, a product over its square, a quotient over the divisor's size. Every result is in the
-- format. Assumes nothing.
use mathlib.Core.Path.{◌≡◌, refl, sym, ap, ◌∙◌, subst}
use Prim.Native.Nat.{ℕ, zero, suc, ◌+◌, ◌-◌, ◌*◌, ◌≤◌, ◌<◌}
use native.Mathlib.Nat.{le_trans, le_of_eq, le_of_lt, lt_irrefl, zero-lt-suc, mul_assoc, mul_comm, mul_right_comm}
use native.Mathlib.Nat.{mul-mul-mul_comm}
use native.Mathlib.Nat.{mul-le-mul_right, mul-pos, mul-sub, zero-mul, le_of_mul-le-mul_right, eq_of_mul-eq-mul_right}
use native.Mathlib.Omega.{arith}
use mathlib.Core.Bool.{Bool, true, false, not, cond, ◌&&◌}
use lib.IntN.{ℤ}
use lib.Dec.{T, ltb, eqb, ltb→lt, nltb→le, eqb-suc-zero}
use lib.Ieee.{Float, nan, inf, fin, binary32, up, down, unlike, round, neg, sum, add, sub, mul, div}
use lib.Ieee.Fits.{up_pos, down_pos}
use lib.Ieee.Scale.{round_same}
use Rattle.algebra.specs.Integer.{Z, signed, opp, ◌⊞◌, ◌⊟◌, ◌⊠◌, ◌≐◌, Abs}
use Rattle.algebra.proofs.Integer.{same_sym}
use Rattle.algebra.proofs.Magnitude.{abs_same, signed_abs}
use Rattle.rounding.specs.Value.{metre, F32, sign, mag, val}
use Rattle.rounding.proofs.Value.{metre_pos, val_signed, val_neg, neg_f32, AsFin, as_fin, f32_as_fin}

pub record Rounds (z : Float) (num : Z) (den : ℕ) : Type 0 where
  pub negative : Bool
  pub size : ℕ
  pub den_pos : 0 < den
  pub is : z ≡ round binary32 negative size den
  pub exact : signed negative size ≐ num

-- ---- sum and difference: a / c and b / c are m and n units
module _ (a b c m n : ℕ) (a_is : a * metre ≡ m * c) (b_is : b * metre ≡ n * c) where
  units_le : 0 < c → a ≤ b → m ≤ n
  units_le c_pos h = le_of_mul-le-mul_right
      (le_trans (le_of_eq (sym a_is)) (le_trans (mul-le-mul_right metre h) (le_of_eq b_is))) c_pos

  units_sum : (a + b) * metre ≡ (m + n) * c
  units_sum = omega arith

  units_difference : (b - a) * metre ≡ (n - m) * c
  units_difference =
      mul_comm (b - a) metre ∙ mul-sub metre b a
      ∙ ap (λ (x : ℕ). x - metre * a) (mul_comm metre b ∙ b_is ∙ mul_comm n c)
      ∙ ap (λ (x : ℕ). c * n - x) (mul_comm metre a ∙ a_is ∙ mul_comm m c) ∙ sym (mul-sub c n m) ∙ mul_comm c (n - m)

over_metre : (s : Bool) (w c size : ℕ) {num : Z} → 0 < c → w * metre ≡ size * c → signed s size ≐ num
    → Rounds (round binary32 s w c) num metre
over_metre s w c size c_pos e exact =
    record {
      negative = s;
      size = size;
      den_pos = metre_pos;
      is = round_same binary32 s w c size metre c_pos metre_pos e;
      exact = exact;
    }

-- signs that differ: the larger decides; less and more say whether a < b and b < a
opposite_rounds : (s : Bool) (a b c m n : ℕ) (less more : Bool) → (T less → a < b) → (T (not less) → b ≤ a)
    → (T (not more) → a ≤ b)
    → a * metre ≡ m * c → b * metre ≡ n * c → 0 < c
    → Rounds (cond less (round binary32 (not s) (b - a) c) (round binary32 (s && more) (a - b) c))
    (signed s m ⊞ signed (not s) n) metre
opposite_rounds true a b c m n true more is_less not_less not_more a_is b_is c_pos =
    let le = units_le a b c m n a_is b_is c_pos (le_of_lt (is_less tt)) in
    over_metre false (b - a) c (n - m) c_pos (units_difference a b c m n a_is b_is) (omega arith)
opposite_rounds false a b c m n true more is_less not_less not_more a_is b_is c_pos =
    let le = units_le a b c m n a_is b_is c_pos (le_of_lt (is_less tt)) in
    over_metre true (b - a) c (n - m) c_pos (units_difference a b c m n a_is b_is) (omega arith)
opposite_rounds true a b c m n false true is_less not_less not_more a_is b_is c_pos =
    let ge = units_le b a c n m b_is a_is c_pos (not_less tt) in
    over_metre true (a - b) c (m - n) c_pos (units_difference b a c n m b_is a_is) (omega arith)
opposite_rounds true a b c m n false false is_less not_less not_more a_is b_is c_pos =
    let ge = units_le b a c n m b_is a_is c_pos (not_less tt) in
    let le = units_le a b c m n a_is b_is c_pos (not_more tt) in
    over_metre false (a - b) c (m - n) c_pos (units_difference b a c n m b_is a_is) (omega arith)
opposite_rounds false a b c m n false more is_less not_less not_more a_is b_is c_pos =
    let ge = units_le b a c n m b_is a_is c_pos (not_less tt) in
    over_metre false (a - b) c (m - n) c_pos (units_difference b a c n m b_is a_is) (omega arith)

sum_rounds : (s : Bool) (a : ℕ) (t : Bool) (b c m n : ℕ) → a * metre ≡ m * c → b * metre ≡ n * c → 0 < c
    → Rounds (sum binary32 s a t b c) (signed s m ⊞ signed t n) metre
unfolding sum
sum_rounds true a true b c m n a_is b_is c_pos =
    over_metre true (a + b) c (m + n) c_pos (units_sum a b c m n a_is b_is) (omega arith)
sum_rounds false a false b c m n a_is b_is c_pos =
    over_metre false (a + b) c (m + n) c_pos (units_sum a b c m n a_is b_is) (omega arith)
sum_rounds true a false b c m n a_is b_is c_pos =
    opposite_rounds true a b c m n (ltb a b) (ltb b a) (ltb→lt a b) (nltb→le a b) (nltb→le b a) a_is b_is c_pos
sum_rounds false a true b c m n a_is b_is c_pos =
    opposite_rounds false a b c m n (ltb a b) (ltb b a) (ltb→lt a b) (nltb→le a b) (nltb→le b a) a_is b_is c_pos

pub add_rounds : {x y : Float} → F32 x → F32 y → Rounds (add binary32 x y) (val x ⊞ val y) metre
unfolding add val
add_rounds x_f32 y_f32 = of_fins (f32_as_fin x_f32) (f32_as_fin y_f32)
  where
    widen : (a c d m : ℕ) → a * metre ≡ m * c → a * d * metre ≡ m * (c * d)
    widen a c d m h = mul_right_comm a d metre ∙ ap (λ (x : ℕ). x * d) h ∙ mul_assoc m c d

    of_fins : {x y : Float} → AsFin x → AsFin y → Rounds (add binary32 x y) (val x ⊞ val y) metre
    of_fins (as_fin s m e x_is) (as_fin t n d y_is) =
        sum_rounds s (m * up e * down d) t (n * up d * down e) (down e * down d) (mag (fin s m e)) (mag (fin t n d))
        (widen (m * up e) (down e) (down d) (mag (fin s m e)) x_is)
        (widen (n * up d) (down d) (down e) (mag (fin t n d)) y_is ∙ ap (λ (x : ℕ). mag (fin t n d) * x)
        (mul_comm (down d) (down e)))
        (mul-pos (down_pos e) (down_pos d))

pub sub_rounds : {x y : Float} → F32 x → F32 y → Rounds (sub binary32 x y) (val x ⊟ val y) metre
unfolding sub
sub_rounds {x} {y} x_f32 y_f32 =
    subst (λ (v : Z). Rounds (add binary32 x (neg y)) (val x ⊞ v) metre) (val_neg y) (add_rounds x_f32 (neg_f32 y_f32))

-- ---- product
pub signed_product : (s t : Bool) (m n : ℕ) → signed (unlike s t) (m * n) ≐ signed s m ⊠ signed t n
signed_product true true m n = omega arith
signed_product true false m n = omega arith
signed_product false true m n = omega arith
signed_product false false m n = omega arith

pub product_size : (x y : Float) (n : ℕ) → Abs (val x ⊠ val y) n → mag x * mag y ≤ n
product_size x y n h =
    let s = signed (unlike (sign x) (sign y)) (mag x * mag y) in
    signed_abs (unlike (sign x) (sign y)) (mag x * mag y) n
    (abs_same (val x ⊠ val y) s n (same_sym s (val x ⊠ val y) product_is) h)
  where
    product_is : signed (unlike (sign x) (sign y)) (mag x * mag y) ≐ val x ⊠ val y
    product_is = rw (val_signed x, val_signed y) (signed_product (sign x) (sign y) (mag x) (mag y))

pub mul_rounds : {x y : Float} → F32 x → F32 y → Rounds (mul binary32 x y) (val x ⊠ val y) (metre * metre)
unfolding mul val
mul_rounds x_f32 y_f32 = of_fins (f32_as_fin x_f32) (f32_as_fin y_f32)
  where
    square : (a b c d m n : ℕ) → a * metre ≡ m * c → b * metre ≡ n * d → a * b * (metre * metre) ≡ m * n * (c * d)
    square a b c d m n h k = mul-mul-mul_comm a b metre metre ∙ (rw (h, k) (mul-mul-mul_comm m c n d))

    of_fins : {x y : Float} → AsFin x → AsFin y → Rounds (mul binary32 x y) (val x ⊠ val y) (metre * metre)
    of_fins (as_fin s m e x_is) (as_fin t n d y_is) = record {
      negative = unlike s t;
      size = mag (fin s m e) * mag (fin t n d);
      den_pos = mul-pos metre_pos metre_pos;
      is =
          round_same binary32 (unlike s t) (m * up e * (n * up d)) (down e * down d) (mag (fin s m e) * mag (fin t n d))
          (metre * metre)
          (mul-pos (down_pos e) (down_pos d)) (mul-pos metre_pos metre_pos)
          (square (m * up e) (n * up d) (down e) (down d) (mag (fin s m e)) (mag (fin t n d)) x_is y_is);
      exact = signed_product s t (mag (fin s m e)) (mag (fin t n d));
    }

-- ---- quotient
-- a, negated where s is true
abbrev pub turned : Bool → Z → Z
turned true a = opp a
turned false a = a

pub abs_turned : (s : Bool) (a : Z) (n : ℕ) → Abs a n → Abs (turned s a) n
abs_turned true a n h = (h.1, h.0)
abs_turned false a n h = h

pub signed_quotient : (s t : Bool) (m : ℕ) → signed (unlike s t) m ≐ turned t (signed s m)
signed_quotient true true m = refl
signed_quotient true false m = refl
signed_quotient false true m = refl
signed_quotient false false m = refl

-- a / c over b / d, in units m over n
quotient_fraction : (a b c d m n : ℕ) → a * metre ≡ m * c → b * metre ≡ n * d → a * d * n ≡ m * (b * c)
quotient_fraction a b c d m n h k =
    eq_of_mul-eq-mul_right metre metre_pos (a * d * n) (m * (b * c))
    (let p : a * metre * (d * n) ≡ m * c * (d * n) = ap (λ (x : ℕ). x * (d * n)) h in
    let q : b * metre * (m * c) ≡ n * d * (m * c) = ap (λ (x : ℕ). x * (m * c)) k in
    omega arith)

digits_pos : (n : ℕ) (d : ℤ) (g : ℕ) → n * up d * metre ≡ g * down d → 0 < g → 0 < n
digits_pos zero d g h g_pos = absurd (none (g * down d) (mul-pos g_pos (down_pos d))
    (sym h ∙ (rw (zero-mul, zero-mul) refl)))
  where
    none : (k : ℕ) → 0 < k → k ≡ 0 → ⊥
    none k p e = omega arith
digits_pos (suc n) d g h g_pos = zero-lt-suc n

not_zero : (n : ℕ) → 0 < n → (x y : Float) → cond (eqb n 0) x y ≡ y
not_zero zero n_pos x y = absurd (lt_irrefl 0 n_pos)
not_zero (suc n) n_pos x y = ap (λ (b : Bool). cond b x y) (eqb-suc-zero n)

pub div_rounds : {x y : Float} → F32 x → F32 y → 0 < mag y → Rounds (div binary32 x y) (turned (sign y) (val x)) (mag y)
unfolding div val
div_rounds x_f32 y_f32 y_pos = of_fins (f32_as_fin x_f32) (f32_as_fin y_f32) y_pos
  where
    of_fins : {x y : Float} → AsFin x → AsFin y → 0 < mag y
        → Rounds (div binary32 x y) (turned (sign y) (val x)) (mag y)
    of_fins (as_fin s m e x_is) (as_fin t n d y_is) y_pos =
        let n_pos : 0 < n = digits_pos n d (mag (fin t n d)) y_is y_pos in
        record {
          negative = unlike s t;
          size = mag (fin s m e);
          den_pos = y_pos;
          is = not_zero n n_pos (cond (eqb m 0) nan (inf (unlike s t)))
              (round binary32 (unlike s t) (m * up e * down d) (n * up d * down e))
              ∙ round_same binary32 (unlike s t) (m * up e * down d) (n * up d * down e) (mag (fin s m e))
              (mag (fin t n d))
              (mul-pos (mul-pos n_pos (up_pos d)) (down_pos e)) y_pos
              (quotient_fraction (m * up e) (n * up d) (down e) (down d) (mag (fin s m e)) (mag (fin t n d)) x_is y_is);
          exact = signed_quotient s t (mag (fin s m e));
        }
