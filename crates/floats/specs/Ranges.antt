-- Document 01, "Ranges": which numbers a call takes. A NaN is in no range, and every limit is inside its own.
-- Definitions only.
use Rattle.std.specs.Prelude.{Bool, ◌&&◌, Float}
use Rattle.std.specs.Float.{binary32}
use Rattle.std.specs.Float.Ieee.{neg, le, of_bits}
use Rattle.floats.specs.declared.b2_math.B2vec2.{B2vec2}
use Rattle.floats.specs.declared.b2_math.B2Rot.{B2Rot}
use Rattle.floats.specs.declared.b2_math.B2Transform.{B2Transform}
use Rattle.rounding.specs.Literals.{zero32, one32}

-- |x| ≤ limit
abbrev pub within : Float → Float → Bool
within limit x = le (neg limit) x && le x limit

abbrev pub vec2_within : Float → B2vec2 → Bool
vec2_within limit v = within limit v.x && within limit v.y

-- the limits 2, 8, 2^20 and 2^30
abbrev pub normal_limit : Float
normal_limit = of_bits binary32 0x4000_0000

abbrev pub local_normal_limit : Float
local_normal_limit = of_bits binary32 0x4100_0000

abbrev pub shape_limit : Float
shape_limit = of_bits binary32 0x4980_0000

abbrev pub contact_limit : Float
contact_limit = of_bits binary32 0x4e80_0000

-- shape coordinates, half-widths and positions
unfoldable pub coordinate_in_range : Float → Bool
coordinate_in_range x = within shape_limit x

unfoldable pub point_in_range : B2vec2 → Bool
point_in_range v = vec2_within shape_limit v

-- radii: from 0, either zero, to 2^20
unfoldable pub radius_in_range : Float → Bool
radius_in_range r = le zero32 r && le r shape_limit

-- sine and cosine; a placement
unfoldable pub rotation_in_range : B2Rot → Bool
rotation_in_range q = within one32 q.s && within one32 q.c

unfoldable pub transform_in_range : B2Transform → Bool
transform_in_range t = point_in_range t.p && rotation_in_range t.q

-- a polygon's stored normal; a manifold's local_normal
unfoldable pub normal_in_range : B2vec2 → Bool
normal_in_range v = vec2_within normal_limit v

unfoldable pub local_normal_in_range : B2vec2 → Bool
local_normal_in_range v = vec2_within local_normal_limit v

-- the numbers of clip calls and of a manifold given for world points
unfoldable pub contact_number_in_range : Float → Bool
contact_number_in_range x = within contact_limit x

unfoldable pub contact_point_in_range : B2vec2 → Bool
contact_point_in_range v = vec2_within contact_limit v
