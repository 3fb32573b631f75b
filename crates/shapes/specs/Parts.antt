-- What the steps of the outline builder hand to each other: points over those that stood in their places, with their
-- number, or the word that the step gives up; what then stands in the places is left free. Definitions only.
use Rattle.std.specs.Prelude.{◌≡◌, Bool, true, false, List, map, ℕ, length, Some, None}
use Rattle.std.specs.Prelude.{Option as Answer}
use Rattle.std.proofs.Math.Option.{Option, none, some}
use Rattle.floats.specs.declared.b2_math.B2vec2.{B2vec2}
use Rattle.shape_definitions.specs.Outline.{point_at, normal_of_edge}
use Rattle.shape_definitions.specs.Polygon.{put_first}

-- the corners of a row of places of ps, over the old points: their count, None where there is no row, and the points that
-- result
abbrev pub WalkResult : List B2vec2 → List B2vec2 → Option (List ℕ) → Answer ℕ → List B2vec2 → Type 0
WalkResult ps old none count new = count ≡ None
WalkResult ps old (some places) count new =
    (count ≡ Some (length places)) × (new ≡ put_first (map (point_at ps) places) old)

-- the normals of edges, over the old points, where all are long enough, which is answered
abbrev pub NormalsResult : List B2vec2 → List B2vec2 → Bool → Bool → List B2vec2 → Type 0
NormalsResult es old true answer new = (answer ≡ true) × (new ≡ put_first (map normal_of_edge es) old)
NormalsResult es old false answer new = answer ≡ false
