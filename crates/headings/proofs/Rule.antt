-- The rule of the table, by one test that antt computes over the whole of it: each pattern is that of a finite number
-- that is not negative and at most 1, at most the next, and squared, with its mirror squared, within 2^-22 of 1.
-- Exact values, in units of 2^-149 m. Assumes nothing.
use mathlib.Core.Path.{◌≡◌, sym, ◌∙◌, subst}
use mathlib.Core.Bool.{Bool, true, false, not, ◌&&◌, ◌||◌}
use mathlib.Core.List.{List, [], ◌∷◌}
use Prim.Native.Nat.{ℕ, zero, suc, ◌+◌, ◌-◌, ◌*◌, ◌^◌, ◌≤◌, ◌<◌}
use native.Mathlib.Nat.{add-zero, zero-add, add-suc, suc-add, le_of_suc-le-suc, not-suc-le-zero}
use native.Mathlib.Omega.{arith}
use lib.Dec.{T, leb, ltb, eqb, leb→le, ltb→lt, eqb→eq}
use lib.ListN.{length, get_or}
use lib.Ieee.Fits.{and_l, and_r}
use lib.Ieee.Bits.{is_false}
use Rattle.rounding.proofs.Literals.{bits_sign, bits_field, bits_units}
use Rattle.headings.specs.Sines.{sines}
use Rattle.headings.proofs.Table.{sines_length}

-- a² + b² against 1, both in units
abbrev squares : ℕ → ℕ → ℕ
squares a b = 2 ^ 22 * (bits_units a * bits_units a + bits_units b * bits_units b)

abbrev one_squared : ℕ
one_squared = 2 ^ 149 * 2 ^ 149

-- the test of entry b, with the next entry and the mirror: of its pattern, of its size, and of the squares
abbrev usual : ℕ → Bool
usual b = ltb (bits_field b) 255 && not (bits_sign b) && (eqb b 0 || ltb 0 (bits_units b))

abbrev in_order : ℕ → ℕ → Bool
in_order b next = leb (bits_units b) (2 ^ 149) && leb (bits_units b) (bits_units next)

abbrev on_circle : ℕ → ℕ → Bool
on_circle b mirror =
    leb ((2 ^ 22 - 1) * one_squared) (squares b mirror) && leb (squares b mirror) ((2 ^ 22 + 1) * one_squared)

abbrev passes : ℕ → ℕ → ℕ → Bool
passes b next mirror = usual b && in_order b next && on_circle b mirror

-- at each entry and its place
abbrev every : (ℕ → ℕ → Bool) → ℕ → List ℕ → Bool
every f i [] = true
every f i (x ∷ xs) = f i x && every f (suc i) xs

from : (f : ℕ → ℕ → Bool) (xs : List ℕ) (i : ℕ) → T (every f i xs) → (k : ℕ) → k < length xs
    → T (f (i + k) (get_or xs k 0))
from f [] i t k h = absurd (not-suc-le-zero h)
from f (x ∷ xs) i t zero h = subst (λ (m : ℕ). T (f m x)) (sym (add-zero i)) (and_l (f i x) (every f (suc i) xs) t)
from f (x ∷ xs) i t (suc k) h =
    subst (λ (m : ℕ). T (f m (get_or xs k 0))) (suc-add i k ∙ sym (add-suc i k))
    (from f xs (suc i) (and_r (f i x) (every f (suc i) xs) t) k (le_of_suc-le-suc h))

-- the last entry has none after it: 1
tested : ℕ → ℕ → Bool
tested k b = passes b (get_or sines (k + 1) 0x3f80_0000) (get_or sines (1024 - k) 0)

whole_table : T (every tested 0 sines)
unfolding sines tested
whole_table = tt

-- ---- what the test says of an entry
pub record Entry (b next mirror : ℕ) : Type 0 where
  pub finite : T (ltb (bits_field b) 255)
  pub plus : bits_sign b ≡ false
  pub zero_is : bits_units b ≡ 0 → b ≡ 0
  pub small : bits_units b ≤ 2 ^ 149
  pub rises : bits_units b ≤ bits_units next
  pub low : (2 ^ 22 - 1) * one_squared ≤ squares b mirror
  pub high : squares b mirror ≤ (2 ^ 22 + 1) * one_squared

only_zero : (b n : ℕ) → n ≡ 0 → T (eqb b 0 || ltb 0 n) → b ≡ 0
only_zero b n none h = by_test (eqb b 0) (eqb→eq b 0) h
  where
    by_test : (t : Bool) → (T t → b ≡ 0) → T (t || ltb 0 n) → b ≡ 0
    by_test true is h = is tt
    by_test false is h = absurd (let some = ltb→lt 0 n h in omega arith)

entry_of : (b next mirror : ℕ) → T (passes b next mirror) → Entry b next mirror
entry_of b next mirror t =
    let first = and_l (usual b && in_order b next) (on_circle b mirror) t in
    let is_usual = and_l (usual b) (in_order b next) first in
    let plain = and_l (ltb (bits_field b) 255 && not (bits_sign b)) (eqb b 0 || ltb 0 (bits_units b)) is_usual in
    let ordered = and_r (usual b) (in_order b next) first in
    let round = and_r (usual b && in_order b next) (on_circle b mirror) t in
    let low_test = leb ((2 ^ 22 - 1) * one_squared) (squares b mirror) in
    let high_test = leb (squares b mirror) ((2 ^ 22 + 1) * one_squared) in
    record {
      finite = and_l (ltb (bits_field b) 255) (not (bits_sign b)) plain;
      plus = is_false (bits_sign b) (and_r (ltb (bits_field b) 255) (not (bits_sign b)) plain);
      zero_is = λ (none : bits_units b ≡ 0). only_zero b (bits_units b) none
          (and_r (ltb (bits_field b) 255 && not (bits_sign b)) (eqb b 0 || ltb 0 (bits_units b)) is_usual);
      small = leb→le _ _ (and_l (leb (bits_units b) (2 ^ 149)) (leb (bits_units b) (bits_units next)) ordered);
      rises = leb→le _ _ (and_r (leb (bits_units b) (2 ^ 149)) (leb (bits_units b) (bits_units next)) ordered);
      low = leb→le _ _ (and_l low_test high_test round);
      high = leb→le _ _ (and_r low_test high_test round);
    }

abbrev pub pattern : ℕ → ℕ
pattern k = get_or sines k 0

pub entry : (k : ℕ) → k ≤ 1024 → Entry (pattern k) (get_or sines (k + 1) 0x3f80_0000) (pattern (1024 - k))
unfolding tested
entry k k_in =
    entry_of (pattern k) (get_or sines (k + 1) 0x3f80_0000) (pattern (1024 - k))
    (subst (λ (m : ℕ). T (tested m (pattern k))) (zero-add k)
    (from tested sines 0 whole_table k (rw sines_length (omega arith))))
