-- The points of a row of coordinates, x before y. Definitions only.
use Rattle.std.specs.Prelude.{List, [], ◌∷◌, Float}
use Rattle.floats.specs.declared.b2_math.B2vec2.{B2vec2}
use Rattle.floats.specs.B2Math.{vec2}

unfoldable pub points_in : List Float → List B2vec2
points_in [] = []
points_in (x ∷ []) = []
points_in (x ∷ y ∷ xs) = vec2 x y ∷ points_in xs
