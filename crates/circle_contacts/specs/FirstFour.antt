-- The first four faces of an outline, side by side; of three, the third stands for the fourth. Definitions only.
use Rattle.std.specs.Prelude.{◌≡◌, Bool, cond, ◌||◌, ◌⊎◌, ℕ, ◌<◌, Float}
use Rattle.std.specs.Float.Ieee.{neg, lt}
use Rattle.floats.specs.B2Common.{b2_max_float}
use Rattle.contact_definitions.specs.declared.axis.Best.{Best}

abbrev pub LastOfFour : ℕ → ℕ → Type 0
LastOfFour count last = ((last ≡ 3) × (3 < count)) ⊎ ((last ≡ 2) × (count ≡ 3))

abbrev pub some_above : Float → Float → Float → Float → Float → Bool
some_above radius s0 s1 s2 s3 = ((lt radius s0 || lt radius s1) || lt radius s2) || lt radius s3

-- the value at a place, where it is greater than the best before
abbrev pub taken : Best → ℕ → Float → Best
taken best place value = cond (lt best.value value) (record { place = place; value = value }) best

abbrev pub no_best : Best
no_best = record { place = 0; value = neg b2_max_float }

abbrev pub best_of_four : Float → Float → Float → Float → Best
best_of_four s0 s1 s2 s3 = taken (taken (taken (taken no_best 0 s0) 1 s1) 2 s2) 3 s3
