-- The factor that makes a vector unit: 1 over its length, or 1 where that is below 2^-23; and the same of the length's
-- square. Definitions only.
use Rattle.std.specs.Prelude.{cond, Float}
use Rattle.std.specs.Float.{binary32}
use Rattle.std.specs.Float.Ieee.{div, lt}
use Rattle.floats.specs.declared.b2_math.B2vec2.{B2vec2}
use Rattle.rounding.specs.Literals.{one32}
use Rattle.floats.specs.B2Common.{b2_epsilon}
use Rattle.floats.specs.B2Math.{b2_sqrt, b2_length}

unfoldable pub unit_scale : B2vec2 → Float
unit_scale a = cond (lt (b2_length a) b2_epsilon) one32 (div binary32 one32 (b2_length a))

unfoldable pub inverse_root : Float → Float
inverse_root s = cond (lt (b2_sqrt s) b2_epsilon) one32 (div binary32 one32 (b2_sqrt s))
