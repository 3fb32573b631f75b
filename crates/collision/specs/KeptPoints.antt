-- The ends that are near, and their points over the old ones. Definitions only.
use Rattle.std.specs.Prelude.{Bool, List, [], ◌∷◌, ℕ, suc, length, get_or}
use Rattle.algebra.specs.Buffer.{over}
use Rattle.contact_definitions.specs.declared.b2_collision.B2manifoldPoint.{B2manifoldPoint}
use Rattle.contact_definitions.specs.declared.b2_collision.B2clipVertex.{B2clipVertex}
use Rattle.contact_definitions.specs.Manifold.{default_point, with_local_point}
use Rattle.contact_definitions.specs.Clip.{kept_if}
use Rattle.collision.specs.declared.manifolds.Kept.{Kept}

-- an old point with the place and the id of an end
abbrev pub point_at_end : B2manifoldPoint → B2clipVertex → B2manifoldPoint
point_at_end old end = with_local_point old end.v end.id

abbrev pub kept_ends : Bool → Bool → B2clipVertex → B2clipVertex → List B2clipVertex
kept_ends near0 near1 e0 e1 = kept_if near0 e0 (kept_if near1 e1 [])

-- a point made of each end and of the old points from place i on
abbrev pub points_of : (B2manifoldPoint → B2clipVertex → B2manifoldPoint) → List B2manifoldPoint → ℕ
    → List B2clipVertex → List B2manifoldPoint
points_of made old i [] = []
points_of made old i (end ∷ ends) = made (get_or old i default_point) end ∷ points_of made old (suc i) ends

abbrev pub points_kept : (B2manifoldPoint → B2clipVertex → B2manifoldPoint) → List B2manifoldPoint
    → List B2clipVertex → Kept
points_kept made old ends =
    record { points = over (points_of made old 0 ends) old; count = length (points_of made old 0 ends) }
