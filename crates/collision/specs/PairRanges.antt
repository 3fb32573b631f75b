-- The corners and normals of an outline that its count takes in. Definitions only.
use Rattle.std.specs.Prelude.{Bool, ◌&&◌, List, ℕ, take}
use Rattle.floats.specs.declared.b2_math.B2vec2.{B2vec2}
use Rattle.floats.specs.Ranges.{point_in_range, normal_in_range}
use Rattle.shape_definitions.specs.Polygon.{all_points}

abbrev pub points_in_range : List B2vec2 → List B2vec2 → ℕ → Bool
points_in_range vs ns count = all_points point_in_range (take count vs) && all_points normal_in_range (take count ns)
