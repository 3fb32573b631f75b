-- Normalising a vector of at most 2^k m, k ≤ 49, gives one of at most 4 m: where its length is below 2^-23 m it is left
-- as it is, and is at most 1 m; else it is near unit. Assumes nothing.
use Prim.Native.Nat.{ℕ, ◌*◌, ◌^◌, ◌≤◌}
use mathlib.Core.Path.{◌≡◌, sym, subst}
use mathlib.Core.Bool.{true}
use native.Mathlib.Omega.{arith}
use lib.Dec.{T, leb}
use lib.Ieee.{lt}
use Rattle.algebra.specs.Integer.{Z, Abs}
use Rattle.algebra.proofs.Booleans.{by_test}
use Rattle.rounding.specs.Value.{metre, mag, val}
use Rattle.rounding.proofs.Value.{metre_ticks, mag_abs}
use Rattle.floats.specs.declared.b2_math.B2vec2.{B2vec2}
use Rattle.floats.specs.B2Common.{b2_epsilon}
use Rattle.floats.specs.B2Math.{b2_length, b2_normalize, unit_or_same}
use Rattle.floats.specs.NearUnit.{normal_bound, NearUnit}
use Rattle.floats.proofs.Scale.{same_is}
use Rattle.floats.proofs.Length.{Moderate, root, short_x, short_y}
use Rattle.floats.proofs.Normalised.{made_near_unit, not_short}
use Rattle.record_ranges.proofs.Vectors.{Caps, caps_widen}

pub moderate : {v : B2vec2} (k : ℕ) → T (leb k 49) → Caps v k → Moderate v
moderate k low h =
    let wide = caps_widen k 49 low h in
    record {
      x_own = h.x_cap.own;
      y_own = h.y_cap.own;
      x_low = wide.x_cap.size;
      y_low = wide.y_cap.size;
    }

pub unit_caps : {w : B2vec2} → NearUnit w → Caps w 2
unit_caps {w} unit = record {
  x_cap = record { own = unit.x_own; size = mag_abs w.x (2 ^ 2 * metre) (four (val w.x) unit.x_most) };
  y_cap = record { own = unit.y_own; size = mag_abs w.y (2 ^ 2 * metre) (four (val w.y) unit.y_most) };
}
  where
    four : (a : Z) → Abs a normal_bound → Abs a (2 ^ 2 * metre)
    four a g = let e = metre_ticks in omega arith

short_caps : {v : B2vec2} → Moderate v → lt (b2_length v) b2_epsilon ≡ true → Caps v 2
unfolding root
short_caps {v} h short = record {
  x_cap = record { own = h.x_own; size = four (mag v.x) (short_x h (subst T (sym short) tt)) };
  y_cap = record { own = h.y_own; size = four (mag v.y) (short_y h (subst T (sym short) tt)) };
}
  where
    four : (m : ℕ) → m ≤ metre → m ≤ 2 ^ 2 * metre
    four m g = omega arith

pub normalised_caps : (v : B2vec2) (k : ℕ) → T (leb k 49) → Caps v k → Caps (unit_or_same (b2_normalize v)) 2
normalised_caps v k low caps =
    let h = moderate k low caps in
    by_test (lt (b2_length v) b2_epsilon)
    (λ short. subst (λ (w : B2vec2). Caps w 2) (sym (same_is v short)) (short_caps h short))
    (λ long. unit_caps (made_near_unit h (not_short h long)))
