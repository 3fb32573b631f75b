-- Normalising a vector of at most 2^49 m that has a length of at least 2^-23 m makes one that obeys the bounds of
-- `NearUnit`. Assumes nothing.
use mathlib.Core.Path.{◌≡◌, sym, subst}
use mathlib.Core.Bool.{Bool, false, not}
use mathlib.Core.Logic.{◌⊎◌, inl, inr}
use Prim.Native.Nat.{ℕ, ◌*◌, ◌^◌, ◌≤◌, ◌<◌}
use native.Mathlib.Omega.{arith}
use lib.Dec.{T}
use lib.Ieee.{binary32, div, lt, le}
use Rattle.algebra.specs.Integer.{Z, whole, ◌⊞◌, ◌⊟◌, ◌⊠◌, ◌⊛◌, ◌≐◌, ◌≼◌, Abs}
use Rattle.algebra.proofs.Booleans.{less_or_not}
use Rattle.rounding.specs.Literals.{one32}
use Rattle.rounding.specs.Value.{metre, tick, mag, val}
use Rattle.rounding.proofs.Value.{metre_pos}
use Rattle.rounding.proofs.Comparison.{not_lt_val, le_val, val_le}
use Rattle.rounding.proofs.Reciprocal.{Reciprocal, reciprocal}
use Rattle.floats.specs.declared.b2_math.B2vec2.{B2vec2}
use Rattle.floats.specs.B2Common.{b2_epsilon}
use Rattle.floats.specs.B2Math.{b2_length, times_reciprocal, b2_normalize, unit_or_same}
use Rattle.floats.specs.NearUnit.{NearUnit}
use Rattle.floats.proofs.Constants.{epsilon_is}
use Rattle.floats.proofs.Scale.{had_length_is, unit_is}
use Rattle.floats.proofs.Length.{Moderate, squared, root, root_law, root_high, no_root, root_own, t, t_is}
use Rattle.floats.proofs.Length.{t_near}
use Rattle.floats.proofs.UnitVector.{coordinate_most, quotient_near, normal_within, length_one, times_near}

module _ {v : B2vec2} (h : Moderate v) where
  -- ---- both coordinates times the reciprocal of the length l
  module _ (some : 0 < mag (squared h)) (long : metre ≤ 2 ^ 23 * mag (root h)) where
    abbrev l : ℕ
    l = mag (root h)

    l_pos : 0 < l
    l_pos = go l long
      where
        go : (n : ℕ) → metre ≤ 2 ^ 23 * n → 0 < n
        go n h = let p = metre_pos in omega arith

    inverse_law : Reciprocal (div binary32 one32 (root h)) (root h)
    inverse_law = reciprocal 23 51 tt tt (root_own h) long (root_high h some)

    reciprocal_is : Abs (l ⊛ val (div binary32 one32 (root h)) ⊟ whole (metre * metre)) (2 * tick * metre)
    reciprocal_is = go (val (div binary32 one32 (root h))) l (rw (root_law h some).is at inverse_law.err)
      where
        go : (i : Z) (l : ℕ) → Abs (i ⊠ whole l ⊟ whole (metre * metre)) (2 * tick * metre)
            → Abs (l ⊛ i ⊟ whole (metre * metre)) (2 * tick * metre)
        go i l h = omega arith

    made_unit : NearUnit (times_reciprocal v (root h))
    made_unit =
        let i = val (div binary32 one32 (root h)) in
        let x = val v.x in
        let y = val v.y in
        let near = t_near h some long in
        let x_most = coordinate_most l (t h) l_pos near x y (t_is h) in
        let y_most = coordinate_most l (t h) l_pos near y x (swap (x ⊠ x) (y ⊠ y) (t_is h)) in
        let a = times_near h.x_own inverse_law x_most in
        let b = times_near h.y_own inverse_law y_most in
        let a_near = quotient_near l (t h) l_pos near x _ i x_most a.err reciprocal_is in
        let b_near = quotient_near l (t h) l_pos near y _ i y_most b.err reciprocal_is in
        record {
          x_own = a.own;
          y_own = b.own;
          x_most = normal_within l (t h) l_pos near x _ x_most a_near;
          y_most = normal_within l (t h) l_pos near y _ y_most b_near;
          unit = length_one l (t h) l_pos near x y _ _ (t_is h) x_most y_most a_near b_near;
        }
      where
        swap : (a b : Z) → a ⊞ b ≐ whole (t h) → b ⊞ a ≐ whole (t h)
        swap a b e = omega arith

  -- ---- where there was a length
  long_enough : T (le b2_epsilon (root h)) → (0 < mag (squared h)) × (metre ≤ 2 ^ 23 * mag (root h))
  long_enough had = go (less_or_not 0 (mag (squared h)))
    where
      least : val b2_epsilon ≼ val (root h)
      least = le_val epsilon_is.own (root_own h) had

      large : (n : ℕ) (r e : Z) → r ≡ whole n → 2 ^ 23 ⊛ e ≐ metre ⊛ whole 1 → e ≼ r → metre ≤ 2 ^ 23 * n
      large n r e r_is e_is h = let k : e ≼ whole n = rw r_is at h in omega arith

      never : (r e : Z) → r ≐ whole 0 → 2 ^ 23 ⊛ e ≐ metre ⊛ whole 1 → e ≼ r → ⊥
      never r e r_is e_is h = let p = metre_pos in omega arith

      go : (0 < mag (squared h)) ⊎ (mag (squared h) ≤ 0) → (0 < mag (squared h)) × (metre ≤ 2 ^ 23 * mag (root h))
      go (inl some) =
          (some, large (mag (root h)) (val (root h)) (val b2_epsilon) (root_law h some).is epsilon_is.is least)
      go (inr none) = absurd (never (val (root h)) (val b2_epsilon) (no_root h none).is epsilon_is.is least)

  pub made_near_unit : T (b2_normalize v).had_length → NearUnit (unit_or_same (b2_normalize v))
  unfolding root
  made_near_unit had =
      let had_is : T (le b2_epsilon (root h)) = subst T (had_length_is v) had in
      let facts = long_enough had_is in
      subst NearUnit (sym (unit_is v had_is)) (made_unit facts.0 facts.1)

  -- a length that is not below 2^-23 is one
  pub not_short : lt (b2_length v) b2_epsilon ≡ false → T (b2_normalize v).had_length
  unfolding root
  not_short long = subst T (sym (had_length_is v))
      (val_le epsilon_is.own (root_own h) (not_lt_val (root_own h) epsilon_is.own
      (subst (λ (t : Bool). T (not t)) (sym long) tt)))
