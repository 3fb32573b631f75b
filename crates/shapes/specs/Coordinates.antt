-- Eight points as a row of coordinates, x before y. Definitions only.
use Rattle.std.specs.Prelude.{◌≡◌, List, length, Float}
unfoldable pub use Rattle.floats.specs.Coordinates.{points_in}

-- a row of eight points
abbrev pub EightPoints : List Float → Type 0
EightPoints xs = length (points_in xs) ≡ 8
