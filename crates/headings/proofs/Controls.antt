-- Closed cases, computed by antt: a turn number in each quarter, with the sines of bc, rounded to f32. Assumes nothing.
use mathlib.Core.Path.{◌≡◌, refl}
use lib.Ieee.{neg, eq, of_bits}
use Rattle.floats.specs.B2Math.{rot}
use Rattle.floats.proofs.BitPatterns.{float}
use Rattle.headings.specs.Sines.{sines}
use Rattle.headings.specs.Headings.{quarter_wave, opposite, heading}

-- 26.4 degrees, and the same past one, two and three quarter turns
in_first : heading 300 ≡ rot (float 0x3ee3_63fa) (float 0x3f65_5e0b)
unfolding heading quarter_wave sines opposite of_bits neg eq
in_first = refl

in_second : heading 1324 ≡ rot (float 0x3f65_5e0b) (float 0xbee3_63fa)
unfolding heading quarter_wave sines opposite of_bits neg eq
in_second = refl

in_third : heading 2348 ≡ rot (float 0xbee3_63fa) (float 0xbf65_5e0b)
unfolding heading quarter_wave sines opposite of_bits neg eq
in_third = refl

in_fourth : heading 3372 ≡ rot (float 0xbf65_5e0b) (float 0x3ee3_63fa)
unfolding heading quarter_wave sines opposite of_bits neg eq
in_fourth = refl

-- the last turn number
last_is : heading 4095 ≡ rot (float 0xbac9_0fd5) (float 0x3f7f_ffec)
unfolding heading quarter_wave sines opposite of_bits neg eq
last_is = refl
