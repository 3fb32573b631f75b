-- A store into a row of eight points keeps their number. Assumes nothing.
use mathlib.Core.Path.{◌≡◌, ◌∙◌, ap}
use mathlib.Core.List.{List}
use Prim.Native.Nat.{ℕ}
use lib.ListN.{length, set, length-set}
use lib.Ieee.{Float}
use Rattle.floats.specs.declared.b2_math.B2vec2.{B2vec2}
use Rattle.floats.specs.Coordinates.{points_in}
use Rattle.shapes.specs.Coordinates.{EightPoints}

pub eight_stored : (xs new : List Float) (i : ℕ) (v : B2vec2) → EightPoints xs
    → points_in new ≡ set (points_in xs) i v → EightPoints new
eight_stored xs new i v eight stored = ap length stored ∙ length-set (points_in xs) i v ∙ eight
