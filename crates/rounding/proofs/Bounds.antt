-- F3 against a number r of the format: an exact result of at most r rounds to at most r, one of at least r to at least
-- r, and one between two such numbers to a finite result. One law for every rounding, then the four operations. Assumes
-- nothing.
use mathlib.Core.Path.{◌≡◌, refl, sym, ap, ◌∙◌, subst}
use Prim.Native.Nat.{ℕ, ◌+◌, ◌*◌, ◌^◌, ◌≤◌}
use native.Mathlib.Nat.{lt_of_le_of_lt}
use native.Mathlib.Omega.{arith}
use mathlib.Core.Bool.{Bool, true, false}
use lib.Ieee.{Float, binary32, round, add, sub, mul, div}
use Rattle.algebra.specs.Integer.{Z, whole, signed, ◌⊞◌, ◌⊟◌, ◌⊠◌, ◌⊛◌, ◌≐◌, ◌≼◌, ◌≺◌}
use Rattle.algebra.proofs.Integer.{same_refl, multiple_mono, multiple_of_multiple}
use Rattle.rounding.specs.Value.{metre, F32, sign, mag, val}
use Rattle.rounding.proofs.Value.{metre_is, metre_pos, val_signed, positive_sign}
use Rattle.rounding.proofs.Digits.{digits, mag_high}
use Rattle.rounding.proofs.Rounding.{rounded, rounded_exact}
use Rattle.rounding.proofs.Operations.{Rounds, add_rounds, sub_rounds, mul_rounds, div_rounds}
use Rattle.rounding.proofs.Rounds.{rounds_f32, rounds_val}
use Rattle.rounding.proofs.Order.{rounded_mono, rounds_mono}

-- ---- a number of the format rounds to itself
rounded_itself : {r : Float} → F32 r → rounded (mag r) metre ≡ mag r
rounded_itself {r} r_f32 =
    let d = digits r_f32 in
    rounded_exact (mag r) metre d.q d.j metre_pos d.small
    (ap (λ (n : ℕ). n * 2 ^ 149) d.is ∙ ap (λ (m : ℕ). d.q * 2 ^ d.j * m) (sym metre_is)) ∙ sym d.is

module _ {r : Float} (r_f32 : F32 r) where
  abbrev itself : Rounds (round binary32 (sign r) (mag r) metre) (val r) metre
  itself = record {
    negative = sign r;
    size = mag r;
    den_pos = metre_pos;
    is = refl;
    exact = rw val_signed (same_refl (signed (sign r) (mag r)));
  }

  itself_f32 : F32 (round binary32 (sign r) (mag r) metre)
  itself_f32 = rounds_f32 itself (rw (rounded_itself r_f32) (mag_high r_f32))

  itself_val : val (round binary32 (sign r) (mag r) metre) ≡ val r
  itself_val =
      rounds_val itself itself_f32 ∙ ap (λ (g : ℕ). signed (sign r) g) (rounded_itself r_f32) ∙ sym (val_signed r)

-- ---- one rounding
module _ {z r : Float} {num : Z} {den : ℕ} (rounds : Rounds z num den) (r_f32 : F32 r) where
  pub rounds_below : F32 z → metre ⊛ num ≼ den ⊛ val r → val z ≼ val r
  rounds_below z_f32 h = subst (λ (v : Z). val z ≼ v) (itself_val r_f32)
      (rounds_mono rounds (itself r_f32) z_f32 (itself_f32 r_f32) h)

  pub rounds_above : F32 z → den ⊛ val r ≼ metre ⊛ num → val r ≼ val z
  rounds_above z_f32 h = subst (λ (v : Z). v ≼ val z) (itself_val r_f32)
      (rounds_mono (itself r_f32) rounds (itself_f32 r_f32) z_f32 h)

  size_finite : rounds.size * metre ≤ mag r * den → F32 z
  size_finite h =
      rounds_f32 rounds (lt_of_le_of_lt
      (rounded_mono rounds.size den (mag r) metre rounds.den_pos metre_pos h
      (rw (rounded_itself r_f32) (mag_high r_f32)))
      (rw (rounded_itself r_f32) (mag_high r_f32)))

-- a size against a lower bound, for a negative exact result v, and against an upper one
low_size : (t : Bool) (g d w : ℕ) (v : Z) → signed true w ≐ v → d ⊛ signed t g ≼ metre ⊛ v → w * metre ≤ g * d
low_size true g d w v e h = let m : metre * (0 + v.1) ≡ metre * (v.0 + w) = ap (λ (n : ℕ). metre * n) e in omega arith
low_size false g d w v e h = let m : metre * (0 + v.1) ≡ metre * (v.0 + w) = ap (λ (n : ℕ). metre * n) e in
    omega arith

high_size : (t : Bool) (g d w : ℕ) (v : Z) → signed false w ≐ v → metre ⊛ v ≼ d ⊛ signed t g → w * metre ≤ g * d
high_size true g d w v e h = let m : metre * (w + v.1) ≡ metre * (v.0 + 0) = ap (λ (n : ℕ). metre * n) e in
    omega arith
high_size false g d w v e h = let m : metre * (w + v.1) ≡ metre * (v.0 + 0) = ap (λ (n : ℕ). metre * n) e in
    omega arith

pub rounds_finite : {z low high : Float} {num : Z} {den : ℕ} → Rounds z num den → F32 low → F32 high
    → den ⊛ val low ≼ metre ⊛ num → metre ⊛ num ≼ den ⊛ val high → F32 z
rounds_finite {z} {low} {high} {num} {den} rounds low_f32 high_f32 above below =
    by_sign rounds.negative rounds.size rounds.exact (size_finite rounds low_f32) (size_finite rounds high_f32)
  where
    by_sign : (s : Bool) (w : ℕ) → signed s w ≐ num → (w * metre ≤ mag low * den → F32 z)
        → (w * metre ≤ mag high * den → F32 z)
        → F32 z
    by_sign true w e of_low of_high = of_low (low_size (sign low) (mag low) den w num e (rw val_signed at above))
    by_sign false w e of_low of_high = of_high (high_size (sign high) (mag high) den w num e (rw val_signed at below))

-- ---- the operations
module _ {x y r : Float} (x_f32 : F32 x) (y_f32 : F32 y) (r_f32 : F32 r) where
  pub add_below : F32 (add binary32 x y) → val x ⊞ val y ≼ val r → val (add binary32 x y) ≼ val r
  add_below own h = rounds_below (add_rounds x_f32 y_f32) r_f32 own (multiple_mono metre (val x ⊞ val y) (val r) h)

  pub add_above : F32 (add binary32 x y) → val r ≼ val x ⊞ val y → val r ≼ val (add binary32 x y)
  add_above own h = rounds_above (add_rounds x_f32 y_f32) r_f32 own (multiple_mono metre (val r) (val x ⊞ val y) h)

  pub sub_below : F32 (sub binary32 x y) → val x ⊟ val y ≼ val r → val (sub binary32 x y) ≼ val r
  sub_below own h = rounds_below (sub_rounds x_f32 y_f32) r_f32 own (multiple_mono metre (val x ⊟ val y) (val r) h)

  pub sub_above : F32 (sub binary32 x y) → val r ≼ val x ⊟ val y → val r ≼ val (sub binary32 x y)
  sub_above own h = rounds_above (sub_rounds x_f32 y_f32) r_f32 own (multiple_mono metre (val r) (val x ⊟ val y) h)

  pub mul_below : F32 (mul binary32 x y) → val x ⊠ val y ≼ metre ⊛ val r → val (mul binary32 x y) ≼ val r
  mul_below own h =
      rounds_below (mul_rounds x_f32 y_f32) r_f32 own
      (subst (λ (u : Z). metre ⊛ (val x ⊠ val y) ≼ u) (multiple_of_multiple metre metre (val r))
      (multiple_mono metre (val x ⊠ val y) (metre ⊛ val r) h))

  pub mul_above : F32 (mul binary32 x y) → metre ⊛ val r ≼ val x ⊠ val y → val r ≼ val (mul binary32 x y)
  mul_above own h =
      rounds_above (mul_rounds x_f32 y_f32) r_f32 own
      (subst (λ (u : Z). u ≼ metre ⊛ (val x ⊠ val y)) (multiple_of_multiple metre metre (val r))
      (multiple_mono metre (metre ⊛ val r) (val x ⊠ val y) h))

  -- a divisor above 0
  pub div_below : whole 0 ≺ val y → F32 (div binary32 x y) → metre ⊛ val x ≼ val r ⊠ val y
      → val (div binary32 x y) ≼ val r
  div_below y_pos own h =
      let p = positive_sign y y_pos in
      rounds_below (div_rounds x_f32 y_f32 p.mag_pos) r_f32 own
      (rw p.plus (swap (mag y) (val x) (val r) (rw p.is at h)))
    where
      swap : (n : ℕ) (a b : Z) → metre ⊛ a ≼ b ⊠ whole n → metre ⊛ a ≼ n ⊛ b
      swap n a b h = omega arith

  pub div_above : whole 0 ≺ val y → F32 (div binary32 x y) → val r ⊠ val y ≼ metre ⊛ val x
      → val r ≼ val (div binary32 x y)
  div_above y_pos own h =
      let p = positive_sign y y_pos in
      rounds_above (div_rounds x_f32 y_f32 p.mag_pos) r_f32 own
      (rw p.plus (swap (mag y) (val x) (val r) (rw p.is at h)))
    where
      swap : (n : ℕ) (a b : Z) → b ⊠ whole n ≼ metre ⊛ a → n ⊛ b ≼ metre ⊛ a
      swap n a b h = omega arith
