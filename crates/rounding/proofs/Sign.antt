-- Signs: a result has the sign of the exact one, and one that is not 0 comes from an exact result that is not 0. So
-- an exact result that is not negative gives a value that is not negative; F7: a product below 0 has factors of
-- opposite signs. Assumes nothing.
use mathlib.Core.Path.{◌≡◌, refl, ap, ◌∙◌, subst}
use mathlib.Core.Logic.{◌⊎◌, inl, inr}
use Prim.Native.Nat.{ℕ, zero, suc, ◌*◌, ◌^◌, ◌≤◌, ◌<◌}
use native.Mathlib.Nat.{mul_comm, mul-pos}
use native.Mathlib.Omega.{arith}
use mathlib.Core.Bool.{Bool, true, false, cond}
use lib.IntN.{ℤ}
use lib.Dec.{T, ltb}
use lib.Ieee.{Float, fits, nan, inf, fin, binary32, up, down, unlike, odd, units, round, add, sub, mul, div}
use lib.Ieee.Fits.{round_is, round-fits}
use lib.Ieee.Positive.{first_pos}
use lib.Ieee.Scale.{overflow, finite}
use Rattle.algebra.specs.Integer.{Z, whole, signed, ◌⊞◌, ◌⊟◌, ◌⊠◌, ◌≐◌, ◌≼◌, ◌≺◌}
use Rattle.algebra.proofs.Integer.{order_cases}
use Rattle.rounding.specs.Value.{metre, F32, sign, mag, val}
use Rattle.rounding.proofs.Value.{val_signed, positive_sign}
use Rattle.rounding.proofs.Operations.{Rounds, add_rounds, sub_rounds, mul_rounds, div_rounds}
use Rattle.rounding.proofs.Rounding.{dropped, kept_digits}
use Rattle.rounding.proofs.Doubling.{rounds_double}

-- ---- one rounding
units_sign : (s : Bool) (q k : ℕ) → sign (units binary32 s q k) ≡ s
unfolding units odd
units_sign s q k = by_test (ltb (q * 2 ^ k) (overflow binary32)) q
  where
    by_test : (b : Bool) (q : ℕ) → sign (cond b (odd 25 s q k 149) (inf s)) ≡ s
    by_test true zero = refl
    by_test true (suc q) = refl
    by_test false q = refl

round_sign : (s : Bool) (w c : ℕ) → sign (round binary32 s w c) ≡ s
round_sign s w c = ap sign (round_is binary32 s w c) ∙ units_sign s (kept_digits w c) (dropped w c)

-- of a product of finite numbers, a zero too
pub product_sign : (s t : Bool) (m n : ℕ) (e d : ℤ) → sign (mul binary32 (fin s m e) (fin t n d)) ≡ unlike s t
unfolding mul
product_sign s t m n e d = round_sign (unlike s t) (m * up e * (n * up d)) (down e * down d)

finite_of_mag : (z : Float) → 0 < mag z → T (finite z)
finite_of_mag nan h = absurd (omega arith)
finite_of_mag (inf s) h = absurd (omega arith)
finite_of_mag (fin s m e) h = tt

module _ {z : Float} {num : Z} {den : ℕ} (r : Rounds z num den) where
  rounds_sign : val z ≡ signed r.negative (mag z)
  rounds_sign =
      val_signed z
      ∙ ap (λ (s : Bool). signed s (mag z))
      (ap sign r.is ∙ round_sign r.negative r.size den)

  size_pos : 0 < mag z → 0 < r.size
  size_pos z_pos =
      let fit : T (fits binary32 z) = rw r.is (round-fits binary32 r.negative r.size den) in
      let own : F32 z = record { in_format = fit; is_finite = finite_of_mag z z_pos } in
      from r.size (mul-pos z_pos r.den_pos) (rounds_double r own)
    where
      from : (w : ℕ) → 0 < mag z * den → mag z * den ≤ 2 * (w * metre) → 0 < w
      from zero h l = absurd (omega arith)
      from (suc w) h l = omega arith

module _ {z : Float} {num : Z} {den : ℕ} (r : Rounds z num den) where
  rounds_negative : val z ≺ whole 0 → num ≺ whole 0
  rounds_negative h = by_sign r.negative r.size (mag z) r.exact (size_pos r) (rw (rounds_sign r) at h)
    where
      by_sign : (s : Bool) (w g : ℕ) → signed s w ≐ num → (0 < g → 0 < w) → signed s g ≺ whole 0 → num ≺ whole 0
      by_sign true w g e p h = let w_pos = p (omega arith) in omega arith
      by_sign false w g e p h = absurd (omega arith)

module _ {z : Float} {num : Z} {den : ℕ} (r : Rounds z num den) where
  rounds_not_negative : whole 0 ≼ num → whole 0 ≼ val z
  rounds_not_negative h = elim (order_cases (whole 0) (val z)) [
    | inl l ↦ l
    | inr g ↦ absurd (let n = rounds_negative r g in omega arith)
  ]

-- ---- the operations
module _ {x y : Float} (x_f32 : F32 x) (y_f32 : F32 y) where
  pub add_not_negative : whole 0 ≼ val x ⊞ val y → whole 0 ≼ val (add binary32 x y)
  add_not_negative h = rounds_not_negative (add_rounds x_f32 y_f32) h

  pub sub_not_negative : whole 0 ≼ val x ⊟ val y → whole 0 ≼ val (sub binary32 x y)
  sub_not_negative h = rounds_not_negative (sub_rounds x_f32 y_f32) h

  pub mul_not_negative : whole 0 ≼ val x ⊠ val y → whole 0 ≼ val (mul binary32 x y)
  mul_not_negative h = rounds_not_negative (mul_rounds x_f32 y_f32) h

  pub div_not_negative : whole 0 ≼ val x → whole 0 ≺ val y → whole 0 ≼ val (div binary32 x y)
  div_not_negative h y_pos =
      let p = positive_sign y y_pos in
      rounds_not_negative (div_rounds x_f32 y_f32 p.mag_pos) (rw p.plus h)

-- ---- F7
-- one above 0, the other below
abbrev pub Opposite : Z → Z → Type 0
Opposite a b = ((whole 0 ≺ a) × (b ≺ whole 0)) ⊎ ((a ≺ whole 0) × (whole 0 ≺ b))

both_pos : (m n : ℕ) → 0 < m * n → (0 < m) × (0 < n)
both_pos m n h = (first_pos m n h, first_pos n m (subst (λ (k : ℕ). 0 < k) (mul_comm m n) h))

opposite_signed : (s t : Bool) (m n : ℕ) → signed s m ⊠ signed t n ≺ whole 0 → Opposite (signed s m) (signed t n)
opposite_signed true true m n h = absurd (omega arith)
opposite_signed false false m n h = absurd (omega arith)
opposite_signed true false m n h = let p = both_pos m n (omega arith) in inr (omega arith, omega arith)
opposite_signed false true m n h = let p = both_pos m n (omega arith) in inl (omega arith, omega arith)

pub mul_negative : {x y : Float} → F32 x → F32 y → val (mul binary32 x y) ≺ whole 0 → Opposite (val x) (val y)
mul_negative {x} {y} x_f32 y_f32 h =
    rw (val_signed x, val_signed y)
    (opposite_signed (sign x) (sign y) (mag x) (mag y)
    (rw (val_signed x, val_signed y) at (rounds_negative (mul_rounds x_f32 y_f32) h)))
