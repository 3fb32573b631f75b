-- A signed number of the code as one of `Z`. Definitions only.
use Rattle.std.specs.Prelude.{suc, ℤ, pos, negsuc}
use Rattle.algebra.specs.Integer.{Z, whole, opp}

abbrev pub number : ℤ → Z
number (pos n) = whole n
number (negsuc n) = opp (whole (suc n))
