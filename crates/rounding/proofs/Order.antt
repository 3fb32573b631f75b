-- F3: rounding keeps the order of exact results. One law for every rounding, then two sums, differences, products and
-- quotients. Assumes nothing.
use mathlib.Core.Path.{◌≡◌, refl, sym, ap, ◌∙◌, subst}
use Prim.Native.Nat.{ℕ, ◌*◌, ◌^◌, ◌≤◌, ◌<◌}
use native.Mathlib.Nat.{lt_of_not-le, not-le_of_lt, zero-mul, eq_of_mul-eq-mul_right}
use native.Mathlib.Decide.{dec_le}
use native.Mathlib.Omega.{arith}
use mathlib.Core.Bool.{Bool, true, false, cond}
use lib.Dec.{T, ltb, ltb→lt, lit<}
use lib.Ieee.{Float, inf, binary32, odd, units, round, add, sub, mul, div, le}
use lib.Ieee.Fits.{round_is}
use lib.Ieee.Order.{round_mono}
use Rattle.algebra.specs.Integer.{Z, whole, signed, ◌⊞◌, ◌⊟◌, ◌⊠◌, ◌⊛◌, ◌≼◌, ◌≺◌}
use Rattle.algebra.proofs.Integer.{le_resp, same_sym, multiple_same, multiple_mono}
use lib.Ieee.Scale.{overflow}
use Rattle.rounding.specs.Value.{metre, F32, mag, val}
use Rattle.rounding.proofs.Value.{positive_sign, val_of_value, AsFin, as_fin, f32_as_fin}
use Rattle.rounding.proofs.Rounding.{dropped, kept_digits, rounded, rounded_exact, round_f32, round_value}
use Rattle.rounding.proofs.Operations.{Rounds, add_rounds, sub_rounds, mul_rounds, div_rounds}
use Rattle.rounding.proofs.Comparison.{le_val}
use Rattle.rounding.proofs.Rounds.{f32_rounded, rounds_val}

-- ---- sizes
units_infinite : (q k : ℕ) → overflow binary32 ≤ q * 2 ^ k → units binary32 false q k ≡ inf false
unfolding units
units_infinite q k h = by_test (ltb (q * 2 ^ k) (overflow binary32)) (ltb→lt (q * 2 ^ k) (overflow binary32))
  where
    by_test : (b : Bool) → (T b → q * 2 ^ k < overflow binary32) → cond b (odd 25 false q k 149) (inf false) ≡ inf false
    by_test true below = absurd (not-le_of_lt (below tt) h)
    by_test false below = refl

infinity_not_le : {y : Float} → AsFin y → T (le (inf false) y) → ⊥
unfolding le
infinity_not_le (as_fin s m e is) h = h

pub rounded_mono : (a b c d : ℕ) → 0 < b → 0 < d → a * d ≤ c * b → rounded c d < overflow binary32
    → rounded a b ≤ rounded c d
rounded_mono a b c d b_pos d_pos h high =
    let le_rounds = round_mono binary32 a b c d b_pos d_pos h in
    let right = round_f32 false c d high in
    elim (dec_le (overflow binary32) (rounded a b)) [
      | yes over ↦ absurd
          (infinity_not_le (f32_as_fin right)
          (subst (λ (x : Float). T (le x (round binary32 false c d)))
          (round_is binary32 false a b ∙ units_infinite (kept_digits a b) (dropped a b) over) le_rounds))
      | no not_over ↦
          let low = lt_of_not-le not_over in
          positive (rounded a b) (rounded c d) (val (round binary32 false a b)) (val (round binary32 false c d))
          (val_of_value (round binary32 false a b) false (rounded a b) (round_value false a b low))
          (val_of_value (round binary32 false c d) false (rounded c d) (round_value false c d high))
          (le_val (round_f32 false a b low) right le_rounds)
    ]
  where
    positive : (g h : ℕ) (v w : Z) → v ≡ signed false g → w ≡ signed false h → v ≼ w → g ≤ h
    positive g h v w v_is w_is l = let m : signed false g ≼ signed false h = rw (v_is, w_is) at l in omega arith

rounded_zero : (den : ℕ) → 0 < den → rounded 0 den ≡ 0
rounded_zero den den_pos = rounded_exact 0 den 0 0 den_pos (lit< tt) (sym (zero-mul den))

-- ---- one rounding: num / den ≤ num' / den'
signed_mono : (s t : Bool) (w d w' d' : ℕ) → 0 < d → 0 < d' → rounded w d < overflow binary32
    → rounded w' d' < overflow binary32
    → d' ⊛ signed s w ≼ d ⊛ signed t w' → signed s (rounded w d) ≼ signed t (rounded w' d')
signed_mono false false w d w' d' d_pos d'_pos low low' h =
    let l = rounded_mono w d w' d' d_pos d'_pos (omega arith) low' in omega arith
signed_mono true true w d w' d' d_pos d'_pos low low' h =
    let l = rounded_mono w' d' w d d'_pos d_pos (omega arith) low in omega arith
signed_mono true false w d w' d' d_pos d'_pos low low' h = omega arith
signed_mono false true w d w' d' d_pos d'_pos low low' h =
    let w_zero : w ≡ 0 = eq_of_mul-eq-mul_right d' d'_pos w 0 (omega arith) in
    let w'_zero : w' ≡ 0 = eq_of_mul-eq-mul_right d d_pos w' 0 (omega arith) in
    let z : rounded w d ≡ 0 = ap (λ (n : ℕ). rounded n d) w_zero ∙ rounded_zero d d_pos in
    let z' : rounded w' d' ≡ 0 = ap (λ (n : ℕ). rounded n d') w'_zero ∙ rounded_zero d' d'_pos in
    rw (z, z') (omega arith)

module _ {z z' : Float} {num num' : Z} {den den' : ℕ} (r : Rounds z num den) (r' : Rounds z' num' den') where
  pub rounds_mono : F32 z → F32 z' → den' ⊛ num ≼ den ⊛ num' → val z ≼ val z'
  rounds_mono z_f32 z'_f32 h =
      let v = signed r.negative r.size in
      let v' = signed r'.negative r'.size in
      rw (rounds_val r z_f32, rounds_val r' z'_f32)
      (signed_mono r.negative r'.negative r.size den r'.size den' r.den_pos r'.den_pos
      (f32_rounded r z_f32) (f32_rounded r' z'_f32)
      (le_resp (den' ⊛ num) (den' ⊛ v) (den ⊛ num') (den ⊛ v') (multiple_same den' num v (same_sym v num r.exact))
      (multiple_same den num' v' (same_sym v' num' r'.exact)) h))

-- ---- the operations
module _ {x y x' y' : Float} (x_f32 : F32 x) (y_f32 : F32 y) (x'_f32 : F32 x') (y'_f32 : F32 y') where
  pub add_mono : F32 (add binary32 x y) → F32 (add binary32 x' y') → val x ⊞ val y ≼ val x' ⊞ val y'
      → val (add binary32 x y) ≼ val (add binary32 x' y')
  add_mono own own' h =
      rounds_mono (add_rounds x_f32 y_f32) (add_rounds x'_f32 y'_f32) own own'
      (multiple_mono metre (val x ⊞ val y) (val x' ⊞ val y') h)

  pub sub_mono : F32 (sub binary32 x y) → F32 (sub binary32 x' y') → val x ⊟ val y ≼ val x' ⊟ val y'
      → val (sub binary32 x y) ≼ val (sub binary32 x' y')
  sub_mono own own' h =
      rounds_mono (sub_rounds x_f32 y_f32) (sub_rounds x'_f32 y'_f32) own own'
      (multiple_mono metre (val x ⊟ val y) (val x' ⊟ val y') h)

  pub mul_mono : F32 (mul binary32 x y) → F32 (mul binary32 x' y') → val x ⊠ val y ≼ val x' ⊠ val y'
      → val (mul binary32 x y) ≼ val (mul binary32 x' y')
  mul_mono own own' h =
      rounds_mono (mul_rounds x_f32 y_f32) (mul_rounds x'_f32 y'_f32) own own'
      (multiple_mono (metre * metre) (val x ⊠ val y) (val x' ⊠ val y') h)

  -- x / y ≤ x' / y', for divisors above 0
  pub div_mono : F32 (div binary32 x y) → F32 (div binary32 x' y') → whole 0 ≺ val y → whole 0 ≺ val y'
      → val x ⊠ val y' ≼ val x' ⊠ val y → val (div binary32 x y) ≼ val (div binary32 x' y')
  div_mono own own' y_pos y'_pos h =
      let p = positive_sign y y_pos in
      let p' = positive_sign y' y'_pos in
      rounds_mono (div_rounds x_f32 y_f32 p.mag_pos) (div_rounds x'_f32 y'_f32 p'.mag_pos) own own'
      (rw (p.plus, p'.plus) (swap (mag y) (mag y') (val x) (val x') (rw (p.is, p'.is) at h)))
    where
      swap : (m n : ℕ) (a b : Z) → a ⊠ whole n ≼ b ⊠ whole m → n ⊛ a ≼ m ⊛ b
      swap m n a b h = omega arith
