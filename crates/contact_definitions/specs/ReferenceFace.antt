-- What outlines and walls share once the reference face is known: the incident edge is clipped to the two sides of
-- the face, and each end that is left within the radius becomes a manifold point. Definitions only.
use Rattle.std.specs.Prelude.{Bool, cond, List, [], ◌∷◌, ℕ, suc, length}
use Rattle.algebra.specs.Buffer.{over}
use Rattle.floats.specs.declared.b2_math.B2vec2.{B2vec2}
use Rattle.contact_definitions.specs.declared.b2_collision.B2manifoldPoint.{B2manifoldPoint}
use Rattle.contact_definitions.specs.declared.b2_collision.B2manifold.{B2manifold}
use Rattle.contact_definitions.specs.declared.b2_collision.B2clipVertex.{B2clipVertex}
use Rattle.contact_definitions.specs.declared.b2_collide_edge.B2referenceFace.{B2referenceFace}
use Rattle.contact_definitions.specs.Manifold.{manifold_point}
use Rattle.contact_definitions.specs.Clip.{clipped}

-- an edge clipped to side 1 and then to side 2
unfoldable pub clipped_to_sides : B2referenceFace → List B2clipVertex → List B2clipVertex
clipped_to_sides face edge =
    clipped (clipped edge face.side_normal1 face.side_offset1 face.i1)
    face.side_normal2 face.side_offset2 face.i2

-- the ends that pass a test
unfoldable pub only : (B2clipVertex → Bool) → List B2clipVertex → List B2clipVertex
only test [] = []
only test (end ∷ ends) = cond (test end) (end ∷ only test ends) (only test ends)

-- a point for each end, made of the old ones at the places i, i + 1, ..
unfoldable pub points_from : (B2manifoldPoint → B2clipVertex → B2manifoldPoint) → B2manifold → ℕ → List B2clipVertex
    → List B2manifoldPoint
points_from made m i [] = []
points_from made m i (end ∷ ends) = made (manifold_point m i) end ∷ points_from made m (suc i) ends

unfoldable pub with_points : B2manifold → B2vec2 → B2vec2 → List B2manifoldPoint → B2manifold
with_points m normal point new = record {
  points = over new m.points;
  local_normal = normal;
  local_point = point;
  manifold_type = m.manifold_type;
  point_count = length new;
}

-- the manifold of what the clipping left: of fewer than two ends nothing more is written; else the face's normal and
-- point, and a point `made` of each end that is `near`
unfoldable pub manifold_of_ends : B2manifold → B2vec2 → B2vec2 → (B2clipVertex → Bool)
    → (B2manifoldPoint → B2clipVertex → B2manifoldPoint) → List B2clipVertex → B2manifold
manifold_of_ends m normal point near made [] = m
manifold_of_ends m normal point near made (end ∷ []) = m
manifold_of_ends m normal point near made (end0 ∷ end1 ∷ ends) =
    with_points m normal point (points_from made m 0 (only near (end0 ∷ end1 ∷ ends)))
