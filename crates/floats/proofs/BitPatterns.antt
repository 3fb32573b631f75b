-- Floats and points by their bit patterns: the vocabulary of the closed cases. Definitions only.
use Prim.Native.Nat.{ℕ}
use lib.Ieee.{Float, binary32, of_bits}
use Rattle.floats.specs.declared.b2_math.B2vec2.{B2vec2}
use Rattle.floats.specs.B2Math.{vec2}

abbrev pub float : ℕ → Float
float n = of_bits binary32 n

abbrev pub vector : ℕ → ℕ → B2vec2
vector x y = vec2 (float x) (float y)
