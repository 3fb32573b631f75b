-- Whole multiples of 2^-t m, t ≤ 149. Every c / 2^t m with |c| ≤ 2^24 is the value of a number of the format, so
-- sums, differences and products of such numbers that stay within that bound are exact; and they compare as their
-- whole numbers do. Assumes nothing.
use mathlib.Core.Path.{◌≡◌, refl, sym, ap, ◌∙◌, subst}
use mathlib.Core.Logic.{inl, inr}
use Prim.Native.Nat.{ℕ, ◌+◌, ◌-◌, ◌*◌, ◌^◌, ◌≤◌, ◌<◌}
use native.Mathlib.Nat.{lt_of_le_of_lt, one-mul, mul_assoc, mul-le-mul, eq-or-lt_of_le}
use native.Mathlib.Omega.{arith}
use mathlib.Core.Bool.{Bool, true, false}
use lib.Dec.{T, leb, leb→le, lit<}
use lib.Pow.{pow-add, pow_pos, pow_mono}
use lib.Ieee.{Float, binary32, round, add, sub, mul}
use Rattle.algebra.specs.Integer.{Z, signed, ◌⊞◌, ◌⊟◌, ◌⊠◌, ◌⊛◌, ◌≐◌, ◌≼◌, ◌≺◌, Abs}
use Rattle.algebra.proofs.Integer.{same_sym, same_trans, multiple_same, multiple_cancel_same, multiple_mono}
use Rattle.algebra.proofs.Integer.{multiple_mono_lt, multiple_cancel, multiple_cancel_lt, le_resp, lt_resp}
use Rattle.algebra.proofs.Integer.{product_of_multiples, multiple_of_multiple}
use Rattle.algebra.proofs.Magnitude.{Sized, sized, sized_abs}
use Rattle.algebra.proofs.Products.{product_same}
use lib.Ieee.Scale.{overflow}
use Rattle.rounding.specs.Value.{metre, F32, val}
use Rattle.rounding.proofs.Value.{metre_is, metre_pos, metre_split}
use Rattle.rounding.proofs.Rounding.{rounded, rounded_exact}
use Rattle.rounding.proofs.Operations.{Rounds}
use Rattle.rounding.proofs.Rounds.{rounds_f32, rounds_val}
use Rattle.rounding.proofs.Exact.{Is, add_exact, sub_exact, mul_exact}

-- x is c / 2^t m
pub record Dyadic (x : Float) (c : Z) (t : ℕ) : Type 0 where
  pub own : F32 x
  pub is : 2 ^ t ⊛ val x ≐ metre ⊛ c

-- ---- each is there
pub rounded_dyadic : (q t : ℕ) → q ≤ 2 ^ 24 → t ≤ 149 → rounded q (2 ^ t) ≡ q * 2 ^ (149 - t)
rounded_dyadic q t q_low t_low =
    let j = 149 - t in
    let split : 2 ^ 149 ≡ 2 ^ j * 2 ^ t = sym metre_is ∙ metre_split t t_low in
    elim (eq-or-lt_of_le q_low) [
      | inl top ↦
          let same : q * 2 ^ j ≡ 1 * 2 ^ (24 + j) =
          ap (λ (n : ℕ). n * 2 ^ j) top ∙ sym (pow-add 2 24 j) ∙ sym (one-mul (2 ^ (24 + j))) in
          rounded_exact q (2 ^ t) 1 (24 + j) (pow_pos t) (lit< tt)
          (ap (λ (n : ℕ). q * n) split ∙ sym (mul_assoc q (2 ^ j) (2 ^ t)) ∙ ap (λ (n : ℕ). n * 2 ^ t) same) ∙ sym same
      | inr below ↦
          rounded_exact q (2 ^ t) q j (pow_pos t) below (ap (λ (n : ℕ). q * n) split
          ∙ sym (mul_assoc q (2 ^ j) (2 ^ t)))
    ]

pub dyadic_finite : (q t : ℕ) → q ≤ 2 ^ 24 → q * 2 ^ (149 - t) < overflow binary32
dyadic_finite q t h =
    lt_of_le_of_lt (mul-le-mul h (pow_mono {i = 149 - t} {j = 149} (sub_le 149 t))) (lit< tt)
  where
    sub_le : (a b : ℕ) → a - b ≤ a
    sub_le a b = omega arith

pub record DyadicFloat (c : Z) (t : ℕ) : Type 0 where
  pub number : Float
  pub dyadic : Dyadic number c t

dyadic_float : (c : Z) (t : ℕ) → T (leb t 149) → Abs c (2 ^ 24) → DyadicFloat c t
dyadic_float c t t_low c_abs =
    let size : Sized c = sized c in
    let s = size.negative in
    let q = size.size in
    let q_low = sized_abs c (2 ^ 24) size c_abs in
    let t_le = leb→le t 149 t_low in
    let x = round binary32 s q (2 ^ t) in
    let rounds : Rounds x c (2 ^ t) =
    record { negative = s; size = q; den_pos = pow_pos t; is = refl; exact = size.is } in
    let is_rounded = rounded_dyadic q t q_low t_le in
    let own : F32 x = rounds_f32 rounds
    (subst (λ (n : ℕ). n < overflow binary32) (sym is_rounded) (dyadic_finite q t q_low)) in
    let x_val : val x ≡ signed s (q * 2 ^ (149 - t)) = rounds_val rounds own ∙ ap (λ (n : ℕ). signed s n) is_rounded in
    record {
      number = x;
      dyadic = record {
        own = own;
        is = subst (λ (v : Z). 2 ^ t ⊛ v ≐ metre ⊛ c) (sym x_val)
            (by_sign s q (2 ^ (149 - t)) (2 ^ t) (metre_split t t_le) size.is);
      };
    }
  where
    by_sign : (s : Bool) (q p r : ℕ) → metre ≡ p * r → signed s q ≐ c → r ⊛ signed s (q * p) ≐ metre ⊛ c
    by_sign true q p r split e =
        let h : metre * (0 + c.1) ≡ metre * (c.0 + q) = ap (λ (n : ℕ). metre * n) e in
        let k : metre * q ≡ p * r * q = ap (λ (n : ℕ). n * q) split in omega arith
    by_sign false q p r split e =
        let h : metre * (q + c.1) ≡ metre * (c.0 + 0) = ap (λ (n : ℕ). metre * n) e in
        let k : metre * q ≡ p * r * q = ap (λ (n : ℕ). n * q) split in omega arith

-- ---- exact results
-- an exact value and a number at one scale
same_at : (k : ℕ) (v w c : Z) → 0 < k → k ⊛ v ≐ c → k ⊛ w ≐ c → v ≐ w
same_at k v w c k_pos h l = multiple_cancel_same k v w k_pos (same_trans (k ⊛ v) c (k ⊛ w) h (same_sym (k ⊛ w) c l))

scaled_sum : (k m : ℕ) (v w c e : Z) → k ⊛ v ≐ m ⊛ c → k ⊛ w ≐ m ⊛ e → k ⊛ (v ⊞ w) ≐ m ⊛ (c ⊞ e)
scaled_sum k m v w c e h l = omega arith

scaled_difference : (k m : ℕ) (v w c e : Z) → k ⊛ v ≐ m ⊛ c → k ⊛ w ≐ m ⊛ e → k ⊛ (v ⊟ w) ≐ m ⊛ (c ⊟ e)
scaled_difference k m v w c e h l = omega arith

moved : (k : ℕ) (v w c : Z) → v ≐ w → k ⊛ w ≐ c → k ⊛ v ≐ c
moved k v w c h l = same_trans (k ⊛ v) (k ⊛ w) c (multiple_same k v w h) l

-- v = d / 2^t, and z the operation's result
sum_dyadic : {z : Float} (t : ℕ) (v d : Z) → T (leb t 149) → Abs d (2 ^ 24) → 2 ^ t ⊛ v ≐ metre ⊛ d
    → ((r : Float) → F32 r → v ≐ val r → Is z v) → Dyadic z d t
sum_dyadic {z} t v d t_low bound v_is exact =
    let r = dyadic_float d t t_low bound in
    let z_is = exact r.number r.dyadic.own
    (same_at (2 ^ t) v (val r.number) (metre ⊛ d) (pow_pos t) v_is r.dyadic.is) in
    record { own = z_is.own; is = moved (2 ^ t) (val z) v (metre ⊛ d) z_is.is v_is }

pub exact_add : {x y : Float} {c e : Z} (t : ℕ) → T (leb t 149) → Dyadic x c t → Dyadic y e t → Abs (c ⊞ e) (2 ^ 24)
    → Dyadic (add binary32 x y) (c ⊞ e) t
exact_add {x} {y} {c} {e} t t_low x_is y_is bound =
    sum_dyadic t (val x ⊞ val y) (c ⊞ e) t_low bound
    (scaled_sum (2 ^ t) metre (val x) (val y) c e x_is.is y_is.is)
    (λ r r_f32 h. add_exact x_is.own y_is.own r_f32 h)

pub exact_sub : {x y : Float} {c e : Z} (t : ℕ) → T (leb t 149) → Dyadic x c t → Dyadic y e t → Abs (c ⊟ e) (2 ^ 24)
    → Dyadic (sub binary32 x y) (c ⊟ e) t
exact_sub {x} {y} {c} {e} t t_low x_is y_is bound =
    sum_dyadic t (val x ⊟ val y) (c ⊟ e) t_low bound
    (scaled_difference (2 ^ t) metre (val x) (val y) c e x_is.is y_is.is)
    (λ r r_f32 h. sub_exact x_is.own y_is.own r_f32 h)

pub exact_mul : {x y : Float} {c e : Z} (t u : ℕ) → T (leb (t + u) 149) → Dyadic x c t → Dyadic y e u
    → Abs (c ⊠ e) (2 ^ 24) → Dyadic (mul binary32 x y) (c ⊠ e) (t + u)
exact_mul {x} {y} {c} {e} t u low x_is y_is bound =
    let r = dyadic_float (c ⊠ e) (t + u) low bound in
    let v = val r.number in
    let k = 2 ^ (t + u) in
    let product : k ⊛ (val x ⊠ val y) ≐ metre ⊛ (metre ⊛ (c ⊠ e)) =
    subst (λ (n : ℕ). n ⊛ (val x ⊠ val y) ≐ metre ⊛ (metre ⊛ (c ⊠ e))) (sym (pow-add 2 t u))
    (subst (λ (a : Z). a ≐ metre ⊛ (metre ⊛ (c ⊠ e))) (product_of_multiples (2 ^ t) (2 ^ u) (val x) (val y))
    (subst (λ (a : Z). (2 ^ t ⊛ val x) ⊠ (2 ^ u ⊛ val y) ≐ a)
    (product_of_multiples metre metre c e ∙ sym (multiple_of_multiple metre metre (c ⊠ e)))
    (product_same (2 ^ t ⊛ val x) (metre ⊛ c) (2 ^ u ⊛ val y) (metre ⊛ e) x_is.is y_is.is))) in
    let z = mul_exact x_is.own y_is.own r.dyadic.own
    (same_at k (val x ⊠ val y) (metre ⊛ v) (metre ⊛ (metre ⊛ (c ⊠ e))) (pow_pos (t + u)) product
    (swapped k v (c ⊠ e) r.dyadic.is)) in
    record { own = z.own; is = moved k (val (mul binary32 x y)) v (metre ⊛ (c ⊠ e)) z.is r.dyadic.is }
  where
    swapped : (k : ℕ) (v d : Z) → k ⊛ v ≐ metre ⊛ d → k ⊛ (metre ⊛ v) ≐ metre ⊛ (metre ⊛ d)
    swapped k v d h =
        let m : metre * (k * v.0 + metre * d.1) ≡ metre * (metre * d.0 + k * v.1) = ap (λ (n : ℕ). metre * n) h in
        omega arith

-- at a finer scale
pub dyadic_finer : {x : Float} {c : Z} {t : ℕ} (k : ℕ) → Dyadic x c t → Dyadic x (2 ^ k ⊛ c) (t + k)
dyadic_finer {x} {c} {t} k x_is = record {
  own = x_is.own;
  is = subst (λ (n : ℕ). n ⊛ val x ≐ metre ⊛ (2 ^ k ⊛ c))
      (sym (pow-add 2 t k)) (finer (2 ^ t) (2 ^ k) (val x) x_is.is);
}
  where
    finer : (m n : ℕ) (v : Z) → m ⊛ v ≐ metre ⊛ c → (m * n) ⊛ v ≐ metre ⊛ (n ⊛ c)
    finer m n v h =
        let e : n * (m * v.0 + metre * c.1) ≡ n * (metre * c.0 + m * v.1) = ap (λ (x : ℕ). n * x) h in
        omega arith

-- ---- comparisons
module _ {x y : Float} {c e : Z} {t : ℕ} (x_is : Dyadic x c t) (y_is : Dyadic y e t) where
  pub dyadic_lt : val x ≺ val y → c ≺ e
  dyadic_lt h =
      multiple_cancel_lt metre c e
      (lt_resp (2 ^ t ⊛ val x) (metre ⊛ c) (2 ^ t ⊛ val y) (metre ⊛ e) x_is.is y_is.is
      (multiple_mono_lt (2 ^ t) (val x) (val y) (pow_pos t) h))

  pub dyadic_le : val x ≼ val y → c ≼ e
  dyadic_le h =
      multiple_cancel metre c e metre_pos
      (le_resp (2 ^ t ⊛ val x) (metre ⊛ c) (2 ^ t ⊛ val y) (metre ⊛ e) x_is.is y_is.is
      (multiple_mono (2 ^ t) (val x) (val y) h))

  pub lt_dyadic : c ≺ e → val x ≺ val y
  lt_dyadic h =
      multiple_cancel_lt (2 ^ t) (val x) (val y)
      (lt_resp (metre ⊛ c) (2 ^ t ⊛ val x) (metre ⊛ e) (2 ^ t ⊛ val y) (same_sym (2 ^ t ⊛ val x) (metre ⊛ c) x_is.is)
      (same_sym (2 ^ t ⊛ val y) (metre ⊛ e) y_is.is) (multiple_mono_lt metre c e metre_pos h))

  pub le_dyadic : c ≼ e → val x ≼ val y
  le_dyadic h =
      multiple_cancel (2 ^ t) (val x) (val y) (pow_pos t)
      (le_resp (metre ⊛ c) (2 ^ t ⊛ val x) (metre ⊛ e) (2 ^ t ⊛ val y) (same_sym (2 ^ t ⊛ val x) (metre ⊛ c) x_is.is)
      (same_sym (2 ^ t ⊛ val y) (metre ⊛ e) y_is.is) (multiple_mono metre c e h))
