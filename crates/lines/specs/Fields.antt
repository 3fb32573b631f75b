-- The fields of frames and answers: a number is four bytes, highest first, and a float its bits. Read at a place, where
-- every byte past the end is 0, and written. Definitions only.
use Rattle.std.specs.Prelude.{ℕ, zero, suc, ◌+◌, ◌*◌, ◌/◌, ◌%◌, ◌^◌, List, [], ◌∷◌, ◌++◌, get_or, Float}
use Rattle.std.specs.Float.{binary32}
use Rattle.std.specs.Float.Ieee.{of_bits, to_bits}
use Rattle.floats.specs.declared.b2_math.B2vec2.{B2vec2}
use Rattle.floats.specs.declared.b2_math.B2Rot.{B2Rot}
use Rattle.floats.specs.declared.b2_math.B2Transform.{B2Transform}
use Rattle.floats.specs.B2Math.{vec2, rot}

-- ---- reading
abbrev pub byte_at : List ℕ → ℕ → ℕ
byte_at bytes at = get_or bytes at 0

abbrev pub number_at : List ℕ → ℕ → ℕ
number_at bytes at =
    ((byte_at bytes at * 256 + byte_at bytes (at + 1)) * 256 + byte_at bytes (at + 2)) * 256 + byte_at bytes (at + 3)

abbrev pub float_at : List ℕ → ℕ → Float
float_at bytes at = of_bits binary32 (number_at bytes at)

unfoldable pub vector_at : List ℕ → ℕ → B2vec2
vector_at bytes at = vec2 (float_at bytes at) (float_at bytes (at + 4))

-- n points, one behind the other
unfoldable pub points_at : List ℕ → ℕ → ℕ → List B2vec2
points_at bytes at zero = []
points_at bytes at (suc n) = vector_at bytes at ∷ points_at bytes (at + 8) n

-- the sine, then the cosine
unfoldable pub rotation_at : List ℕ → ℕ → B2Rot
rotation_at bytes at = rot (float_at bytes at) (float_at bytes (at + 4))

-- the position, then the rotation
unfoldable pub placement_at : List ℕ → ℕ → B2Transform
placement_at bytes at = record { p = vector_at bytes at; q = rotation_at bytes (at + 8) }

-- ---- writing
abbrev pub number_bytes : ℕ → List ℕ
number_bytes n = n / 256 ^ 3 % 256 ∷ n / 256 ^ 2 % 256 ∷ n / 256 % 256 ∷ n % 256 ∷ []

abbrev pub float_bytes : Float → List ℕ
float_bytes x = number_bytes (to_bits binary32 x)

abbrev pub vector_bytes : B2vec2 → List ℕ
vector_bytes v = float_bytes v.x ++ float_bytes v.y
