-- A finite binary32 number as a whole number of the smallest one, 2^-149 m: `val`. `metre` is 1 m and `tick` 2^-25 m,
-- the largest rounding error of a result of at most 1 m, both in those units. They stay shut: to `omega` each is one
-- unknown (it takes no numeral of more than 38 digits). Definitions only.
use Rattle.std.specs.Prelude.{Bool, false, ℕ, ◌*◌, ◌/◌, ◌^◌, T, Float}
use Rattle.std.specs.Float.{nan, inf, fin, binary32}
use Rattle.std.specs.Float.Ieee.{up, down, fits}
use Rattle.std.specs.Float.Ieee.Scale.{finite}
use Rattle.algebra.specs.Integer.{Z, signed}

unfoldable pub metre : ℕ
metre = 2 ^ 149

unfoldable pub tick : ℕ
tick = 2 ^ 124

-- x is a finite binary32 number
pub record F32 (x : Float) : Type 0 where
  pub in_format : T (fits binary32 x)
  pub is_finite : T (finite x)

-- the sign, true for negative, and the size in units of 2^-149 m
abbrev pub sign : Float → Bool
sign nan = false
sign (inf s) = s
sign (fin s m e) = s

abbrev pub mag : Float → ℕ
mag nan = 0
mag (inf s) = 0
mag (fin s m e) = m * up e * metre / down e

-- the value; both zeros have the value 0
unfoldable pub val : Float → Z
val x = signed (sign x) (mag x)
