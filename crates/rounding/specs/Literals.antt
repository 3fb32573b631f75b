-- The floats 0, 1/2 and 1, by their bit patterns. Definitions only.
use Rattle.std.specs.Prelude.{Float}
use Rattle.std.specs.Float.{binary32}
use Rattle.std.specs.Float.Ieee.{of_bits}

abbrev pub zero32 : Float
zero32 = of_bits binary32 0

abbrev pub half32 : Float
half32 = of_bits binary32 0x3f00_0000

abbrev pub one32 : Float
one32 = of_bits binary32 0x3f80_0000
