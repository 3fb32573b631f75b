-- From a comparison with an f32 length l to one with the exact root √t, the only place of demand 3 with square roots:
-- where l is √t within a relative 2^-24, d is at most 63 m l in size and l s is within k ticks l of d, then d / √t is
-- within k + 128 ticks of s; 128 ticks are 2^-18 m, room for a relative 2^-24 of 63 m. Assumes nothing.
use mathlib.Core.Path.{◌≡◌, ap, ◌∙◌}
use Prim.Native.Nat.{ℕ, ◌+◌, ◌-◌, ◌*◌, ◌^◌, ◌≤◌, ◌<◌}
use native.Mathlib.Nat.{mul_assoc, mul-le-mul, mul-le-mul_right, mul-pos, le_of_mul-le-mul_right}
use native.Mathlib.Decide.{dec_le}
use native.Mathlib.Omega.{arith}
use lib.Dec.{lit<}
use Rattle.algebra.specs.Integer.{Z, whole, ◌⊞◌, ◌⊟◌, ◌⊛◌, opp, ◌≼◌, Abs}
use Rattle.algebra.specs.Squares.{above, below, OverRootLe}
use Rattle.algebra.proofs.Magnitude.{abs_opposite}
use Rattle.rounding.specs.Value.{metre, tick}
use Rattle.rounding.proofs.Value.{tick_pos, metre_ticks}
use Rattle.sqrt.specs.Root.{RelativeSquare}

abbrev pub root_ticks : ℕ
root_ticks = 128

-- the largest signed distance, times l
abbrev pub root_reach : ℕ → ℕ
root_reach l = 63 * (metre * l)

-- ---- squares
square_out : (k l p : ℕ) → k * (l * p) * (k * (l * p)) ≡ k * k * (l * l) * (p * p)
square_out k l p = omega arith

-- u ≤ (1 - 2^-24) l p: u² ≤ t p²
root_above : (u p l t : ℕ) → (2 ^ 24 - 1) * (2 ^ 24 - 1) * (l * l) ≤ 2 ^ 48 * t
    → 2 ^ 24 * u ≤ (2 ^ 24 - 1) * (l * p) → u * u ≤ t * (p * p)
root_above u p l t root h =
    let squared : 2 ^ 24 * u * (2 ^ 24 * u) ≤ (2 ^ 24 - 1) * (l * p) * ((2 ^ 24 - 1) * (l * p)) = mul-le-mul h h in
    let scaled : (2 ^ 24 - 1) * (2 ^ 24 - 1) * (l * l) * (p * p) ≤ 2 ^ 48 * t * (p * p) =
    mul-le-mul_right (p * p) root in
    let e = square_out (2 ^ 24 - 1) l p in
    le_of_mul-le-mul_right {k = 2 ^ 48} (omega arith) (lit< tt)

-- (1 + 2^-24) l p ≤ u: t p² ≤ u²
root_below : (u p l t : ℕ) → 2 ^ 48 * t ≤ (2 ^ 24 + 1) * (2 ^ 24 + 1) * (l * l)
    → (2 ^ 24 + 1) * (l * p) ≤ 2 ^ 24 * u → t * (p * p) ≤ u * u
root_below u p l t root h =
    let squared : (2 ^ 24 + 1) * (l * p) * ((2 ^ 24 + 1) * (l * p)) ≤ 2 ^ 24 * u * (2 ^ 24 * u) = mul-le-mul h h in
    let scaled : 2 ^ 48 * t * (p * p) ≤ (2 ^ 24 + 1) * (2 ^ 24 + 1) * (l * l) * (p * p) =
    mul-le-mul_right (p * p) root in
    let e = square_out (2 ^ 24 + 1) l p in
    le_of_mul-le-mul_right {k = 2 ^ 48} (omega arith) (lit< tt)

-- ---- d and root-ticks ticks l are at most q l: d / √t ≤ q
module _ (d q : Z) (l t : ℕ) (root : RelativeSquare t (l * l)) (l_pos : 0 < l) (d_most : Abs d (root_reach l)) where
  at_most_of_length : d ⊞ whole (root_ticks * (tick * l)) ≼ l ⊛ q → OverRootLe d t q 1
  at_most_of_length h = elim (dec_le q.1 q.0) [
    | yes up ↦ not_negative up
    | no down ↦ negative down
  ]
    where
      metre_length : metre * l ≡ 2 ^ 25 * (tick * l)
      metre_length = ap (λ (n : ℕ). n * l) metre_ticks ∙ mul_assoc (2 ^ 25) tick l

      not_negative : q.1 ≤ q.0 → OverRootLe d t q 1
      not_negative up =
          let p = q.0 - q.1 in
          let lq : l * (q.1 + p) ≡ l * q.0 = ap (λ (n : ℕ). l * n) (omega arith) in
          let e = metre_length in
          let k : 2 ^ 24 * above d ≤ (2 ^ 24 - 1) * (l * p) = omega arith in
          let r = root_above (above d) p l t root.0 k in
          let none : q.1 - q.0 ≡ 0 = omega arith in
          let zero_square : t * ((q.1 - q.0) * (q.1 - q.0)) ≡ t * (0 * 0) = ap (λ (n : ℕ). t * (n * n)) none in
          omega arith

      negative : (q.1 ≤ q.0 → ⊥) → OverRootLe d t q 1
      negative down =
          let lt : q.0 < q.1 = omega arith in
          let p = q.1 - q.0 in
          let lq : l * (q.0 + p) ≡ l * q.1 = ap (λ (n : ℕ). l * n) (omega arith) in
          let e = metre_length in
          let tl : 0 < tick * l = mul-pos tick_pos l_pos in
          let k : (2 ^ 24 + 1) * (l * p) ≤ 2 ^ 24 * below d = omega arith in
          let r = root_below (below d) p l t root.1 k in
          let none : above d ≡ 0 = omega arith in
          let zero_square : above d * above d ≡ 0 * 0 = ap (λ (n : ℕ). n * n) none in
          omega arith

-- ---- l s is within k ticks l of d: d / √t is within k + root-ticks ticks of s, from both sides
module _ (d s : Z) (l t k : ℕ) (root : RelativeSquare t (l * l)) (l_pos : 0 < l) (d_most : Abs d (root_reach l))
    (near : Abs (l ⊛ s ⊟ d) (k * (tick * l))) where
  abbrev off : ℕ
  off = (k + root_ticks) * tick

  pub root_at_most : OverRootLe d t (s ⊞ whole off) 1
  root_at_most = at_most_of_length d (s ⊞ whole off) l t root l_pos d_most (omega arith)

  pub root_at_least : OverRootLe (opp d) t (opp (s ⊟ whole off)) 1
  root_at_least =
      at_most_of_length (opp d) (opp (s ⊟ whole off)) l t root l_pos (abs_opposite d (root_reach l) d_most)
      (omega arith)
