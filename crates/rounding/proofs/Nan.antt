-- NaNs among values and among bit patterns. Assumes nothing.
use mathlib.Core.Path.{◌≡◌, refl, sym, ◌∙◌, subst}
use mathlib.Core.Bool.{Bool, true, false, not}
use Prim.Native.Nat.{ℕ, ◌*◌, ◌^◌, ◌%◌, ◌≤◌, ◌<◌}
use native.Mathlib.Omega.{arith}
use lib.Dec.{T, ltb, ltb→lt, nltb→le, not_T}
use lib.Ieee.{Float, nan, inf, fin, binary32, is_nan, nan_bits, of_bits, ne, div}
use lib.Ieee.Bits.{nan_bits_is, nan_bits_above}
use lib.Ieee.Compare.{differs_from_itself, nan_differs}

nan_of_is_nan : (x : Float) → is_nan x ≡ true → x ≡ nan
unfolding is_nan
nan_of_is_nan nan e = refl
nan_of_is_nan (inf s) e = absurd (subst T (sym e) tt)
nan_of_is_nan (fin s m k) e = absurd (subst T (sym e) tt)

-- x != x at the NaN, and nowhere else
pub nan_of_differs : (x : Float) → ne x x ≡ true → x ≡ nan
nan_of_differs x e = differs_from_itself x (subst T (sym e) tt)

pub not_nan_of_same : (x : Float) → ne x x ≡ false → T (not (is_nan x))
unfolding is_nan
not_nan_of_same nan e = subst T (sym nan_differs ∙ e) tt
not_nan_of_same (inf s) e = tt
not_nan_of_same (fin s m k) e = tt

-- the NaN that the code makes
pub zero_over_zero : div binary32 (of_bits binary32 0) (of_bits binary32 0) ≡ nan
unfolding div of_bits
zero_over_zero = refl

-- ---- patterns
pub nan_pattern : (b : ℕ) → nan_bits binary32 b ≡ true → of_bits binary32 b ≡ nan
nan_pattern b e = nan_of_is_nan (of_bits binary32 b) (sym (nan_bits_is binary32 b) ∙ e)

-- from +0 to infinity there is none
pub not_nan_pattern : (b : ℕ) → b ≤ 255 * 2 ^ 23 → T (not (nan_bits binary32 b))
not_nan_pattern b h =
    subst (λ (c : Bool). T (not c)) (sym (nan_bits_above binary32 b))
    (not_T (ltb (255 * 2 ^ 23) (b % 2 ^ 31))
    (λ (t : T (ltb (255 * 2 ^ 23) (b % 2 ^ 31))). not_above b h (ltb→lt (255 * 2 ^ 23) (b % 2 ^ 31) t)))
  where
    not_above : (b : ℕ) → b ≤ 255 * 2 ^ 23 → 255 * 2 ^ 23 < b % 2 ^ 31 → ⊥
    not_above b h k = omega arith

-- a pattern without the sign that is no NaN's is at most infinity's
pub pattern_le_infinity : (b : ℕ) → b < 2 ^ 31 → T (not (is_nan (of_bits binary32 b))) → b ≤ 255 * 2 ^ 23
pattern_le_infinity b h t =
    let le : b % 2 ^ 31 ≤ 255 * 2 ^ 23 =
    nltb→le (255 * 2 ^ 23) (b % 2 ^ 31)
    (subst (λ (c : Bool). T (not c)) (sym (nan_bits_is binary32 b) ∙ nan_bits_above binary32 b) t) in
    omega arith
