-- The searches of the contact calls, through a function of places: its least value, and the first place where it is
-- greatest or least. Each is one `scan`, begun as Box2D begins it. Definitions only.
use Rattle.std.specs.Prelude.{Bool, false, ◌||◌, map, ℕ, zero, suc, Float}
use Rattle.std.specs.Float.Ieee.{neg, lt}
use Rattle.algebra.specs.Loops.{places, scan}
use Rattle.floats.specs.B2Common.{b2_max_float}
use Rattle.contact_definitions.specs.declared.axis.Best.{Best}

-- some place below a count passes a test
unfoldable pub some_below : (ℕ → Bool) → ℕ → Bool
some_below test zero = false
some_below test (suc i) = some_below test i || test i

abbrev pub below_value : Float → Float → Bool
below_value least x = lt x least

-- the least value at the places below count, begun at the largest float
unfoldable pub least : (ℕ → Float) → ℕ → Float
least f count = scan below_value b2_max_float (map f (places 0 count))

abbrev pub valued : (ℕ → Float) → ℕ → Best
valued f i = record { place = i; value = f i }

abbrev pub is_greater : Best → Best → Bool
is_greater best new = lt best.value new.value

abbrev pub is_less : Best → Best → Bool
is_less best new = lt new.value best.value

-- the first place below count with the greatest value, begun at place 0 with the largest float negated
unfoldable pub first_greatest : (ℕ → Float) → ℕ → Best
first_greatest f count =
    scan is_greater (record { place = 0; value = neg b2_max_float }) (map (valued f) (places 0 count))

-- the first place below count with the least value, begun at place 0 with the largest float
unfoldable pub first_least : (ℕ → Float) → ℕ → Best
first_least f count = scan is_less (record { place = 0; value = b2_max_float }) (map (valued f) (places 0 count))
