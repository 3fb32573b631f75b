-- Request 01: the whole table obeys its rule; every heading is in range and on the unit circle within 2^-22; the
-- quarter turns are exact. Assumes nothing.
use mathlib.Core.Path.{◌≡◌, refl, sym, ap, ◌∙◌, subst}
use mathlib.Core.Bool.{Bool, true, false, cond}
use Prim.Native.Nat.{ℕ, suc, ◌+◌, ◌-◌, ◌*◌, ◌/◌, ◌%◌, ◌≤◌, ◌<◌}
use native.Mathlib.Nat.{add_comm}
use native.Mathlib.Omega.{arith}
use lib.Dec.{T, eqb}
use native.Mathlib.Numerals.{add-one}
use lib.ListN.{length}
use lib.Ieee.{Float, binary32, neg, eq, of_bits}
use lib.Ieee.Fits.{and_i}
use Rattle.algebra.proofs.Lists.{getD_within}
use Rattle.algebra.specs.Integer.{Z, whole, signed, ◌≼◌, Abs}
use Rattle.rounding.specs.Value.{metre, F32, mag, val}
use Rattle.rounding.specs.Literals.{zero32, one32}
use Rattle.rounding.proofs.Value.{metre_is, abs_mag, neg_f32, mag_neg, mag_same}
use Rattle.rounding.proofs.Comparison.{eq_val}
use Rattle.rounding.proofs.Literals.{zero_f32, bits_units, bits_f32, bits_mag, bits_val}
use Rattle.floats.specs.B2Math.{rot}
use Rattle.floats.specs.Ranges.{within, rotation_in_range}
use Rattle.floats.proofs.RangeValue.{one_limit_is, value_limit}
use Rattle.headings.specs.Sines.{sines}
use Rattle.headings.specs.Headings.{quarter_wave, opposite, in_quarter, heading}
use Rattle.headings.specs.Headings.{UnitCircle, QuarterWave, Component, Heading, QuarterTurns}
use Rattle.headings.proofs.Table.{sines_length}
use Rattle.headings.proofs.Rule.{pattern, entry}

-- ---- the table
module _ (k : ℕ) (k_in : k ≤ 1024) where
  entry_f32 : F32 (quarter_wave k)
  unfolding quarter_wave
  entry_f32 = bits_f32 (pattern k) (entry k k_in).finite

  entry_mag : mag (quarter_wave k) ≡ bits_units (pattern k)
  unfolding quarter_wave
  entry_mag = bits_mag (pattern k) (entry k k_in).finite

  entry_val : val (quarter_wave k) ≡ whole (bits_units (pattern k))
  unfolding quarter_wave
  entry_val =
      bits_val (pattern k) (entry k k_in).finite
      ∙ ap (λ (s : Bool). signed s (bits_units (pattern k))) (entry k k_in).plus

  entry_small : mag (quarter_wave k) ≤ metre
  entry_small = rw (entry_mag, metre_is) (entry k k_in).small

mirrored : (k : ℕ) → k ≤ 1024 → UnitCircle (quarter_wave k) (quarter_wave (1024 - k))
mirrored k k_in =
    let m_in : 1024 - k ≤ 1024 = omega arith in
    record {
      low = rw (entry_mag k k_in, entry_mag (1024 - k) m_in, metre_is) (entry k k_in).low;
      high = rw (entry_mag k k_in, entry_mag (1024 - k) m_in, metre_is) (entry k k_in).high;
    }

whole_mono : (a b : Z) (m n : ℕ) → a ≡ whole m → b ≡ whole n → m ≤ n → a ≼ b
whole_mono a b m n a_is b_is h = rw (a_is, b_is) (omega arith)

rises : (k : ℕ) → k < 1024 → val (quarter_wave k) ≼ val (quarter_wave (suc k))
rises k k_in =
    let k_low : k ≤ 1024 = omega arith in
    let inside : k + 1 < length sines = rw sines_length (omega arith) in
    whole_mono (val (quarter_wave k)) (val (quarter_wave (suc k))) (bits_units (pattern k))
    (bits_units (pattern (suc k))) (entry_val k k_low) (entry_val (suc k) k_in)
    (subst (λ (b : ℕ). bits_units (pattern k) ≤ bits_units b)
    (getD_within sines (k + 1) 0x3f80_0000 0 inside ∙ ap pattern (add-one k)) (entry k k_low).rises)

pub quarter_wave_rule : QuarterWave quarter_wave
unfolding sines quarter_wave
quarter_wave_rule = record {
  own = entry_f32;
  starts = refl;
  ends = refl;
  rises = rises;
  mirrored = mirrored;
}

-- ---- the components of a heading
entry_component : (k : ℕ) → k ≤ 1024 → Component (quarter_wave k)
unfolding quarter_wave
entry_component k k_in = record {
  own = entry_f32 k k_in;
  small = entry_small k k_in;
  plus_zero = λ none. ap (of_bits binary32) ((entry k k_in).zero_is (sym (entry_mag k k_in) ∙ none));
}

opposite_size : {x : Float} → F32 x → mag (opposite x) ≡ mag x
unfolding opposite
opposite_size {x} own =
    by_test (eq x zero32) (λ (same : T (eq x zero32)). sym (mag_same x zero32 (eq_val own zero_f32 same)))
  where
    by_test : (b : Bool) → (T b → mag zero32 ≡ mag x) → mag (cond b zero32 (neg x)) ≡ mag x
    by_test true same = same tt
    by_test false same = mag_neg x

opposite_own : {x : Float} → F32 x → F32 (opposite x)
unfolding opposite
opposite_own {x} own = by_test (eq x zero32)
  where
    by_test : (b : Bool) → F32 (cond b zero32 (neg x))
    by_test true = zero_f32
    by_test false = neg_f32 own

opposite_zero : {x : Float} → x ≡ zero32 → opposite x ≡ zero32
unfolding opposite eq of_bits neg
opposite_zero is = rw is refl

opposite_component : {x : Float} → Component x → Component (opposite x)
opposite_component part = record {
  own = opposite_own part.own;
  small = rw (opposite_size part.own) part.small;
  plus_zero = λ none. opposite_zero (part.plus_zero (sym (opposite_size part.own) ∙ none));
}

-- ---- headings
swapped : {a b : Float} → UnitCircle a b → UnitCircle b a
swapped {a} {b} c = record {
  low = rw (add_comm (mag b * mag b) (mag a * mag a)) c.low;
  high = rw (add_comm (mag b * mag b) (mag a * mag a)) c.high;
}

resized : {a b c d : Float} → mag c ≡ mag a → mag d ≡ mag b → UnitCircle a b → UnitCircle c d
resized c_is d_is circle = record { low = rw (c_is, d_is) circle.low; high = rw (c_is, d_is) circle.high }

by_quarter : (quarter : ℕ) {t m : Float} → Component t → Component m → UnitCircle t m → Heading (in_quarter quarter t m)
by_quarter quarter {t} {m} t_part m_part circle = by_tests (eqb quarter 0) (eqb quarter 1) (eqb quarter 2)
  where
    by_tests : (b0 b1 b2 : Bool) → Heading (cond b0 (rot t m) (cond b1 (rot m (opposite t))
        (cond b2 (rot (opposite t) (opposite m)) (rot (opposite m) t))))
    by_tests true b1 b2 = record { sine = t_part; cosine = m_part; circle = circle }
    by_tests false true b2 = record {
      sine = m_part;
      cosine = opposite_component t_part;
      circle = resized refl (opposite_size t_part.own) (swapped circle);
    }
    by_tests false false true = record {
      sine = opposite_component t_part;
      cosine = opposite_component m_part;
      circle = resized (opposite_size t_part.own) (opposite_size m_part.own) circle;
    }
    by_tests false false false = record {
      sine = opposite_component m_part;
      cosine = t_part;
      circle = resized (opposite_size m_part.own) refl (swapped circle);
    }

pub heading_is : (number : ℕ) → Heading (heading number)
unfolding heading
heading_is number =
    let k_in : number % 1024 ≤ 1024 = omega arith in
    let m_in : 1024 - number % 1024 ≤ 1024 = omega arith in
    by_quarter (number / 1024) (entry_component (number % 1024) k_in) (entry_component (1024 - number % 1024) m_in)
    (mirrored (number % 1024) k_in)

-- so refusal 6 cannot come from the table
pub heading_in_range : (number : ℕ) → T (rotation_in_range (heading number))
unfolding rotation_in_range
heading_in_range number =
    and_i (within one32 (heading number).s) (within one32 (heading number).c) (in_range (heading_is number).sine)
    (in_range (heading_is number).cosine)
  where
    in_range : {x : Float} → Component x → T (within one32 x)
    in_range {x} part = value_limit one_limit_is part.own (sized (val x) (mag x) (abs_mag x) part.small)
      where
        sized : (v : Z) (n : ℕ) → Abs v n → n ≤ metre → Abs v (1 * metre)
        sized v n a h = omega arith

-- ---- the quarter turns
pub quarter_turns : QuarterTurns
unfolding heading quarter_wave sines opposite of_bits neg eq
quarter_turns = record { unturned = refl; to_left = refl; about = refl; to_right = refl }
