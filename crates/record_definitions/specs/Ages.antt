-- Document 02, request 06: the age of a contact point, 32 bits. 0 when the point is added; when it persists, one more
-- than that of the first point, in list order, that had its id in the last contact; held at the largest. The test frame
-- sets it in the manifold, and nothing else does. Definitions only.
use Rattle.std.specs.Prelude.{ℕ, cond, List, [], ◌∷◌}
use Rattle.contact_definitions.specs.declared.b2_collision.B2contactId.{B2contactId}
use Rattle.contact_definitions.specs.declared.b2_collision.B2manifold.{B2manifold}
use Rattle.contact_definitions.specs.declared.b2_collision.B2manifoldPoint.{B2manifoldPoint}
use Rattle.contact_definitions.specs.declared.b2_collision.CountedIds.{CountedIds}
use Rattle.contact_definitions.specs.Manifold.{manifold_point}
use Rattle.contact_definitions.specs.PointStates.{same_id, ids_in}
use Rattle.record_definitions.specs.declared.world.Ages.{Ages}
use Rattle.record_definitions.specs.declared.world.Kept.{Kept}
use Rattle.record_definitions.specs.World.{one_more}

abbrev pub ages_in : Ages → List ℕ
ages_in ages = ages.first ∷ ages.second ∷ []

-- the age of a point of this id, by the ids of the last contact's points, in list order, and their ages
unfoldable pub age_after : B2contactId → List B2contactId → List ℕ → ℕ
age_after id [] ages = 0
age_after id (old ∷ others) [] = 0
age_after id (old ∷ others) (age ∷ ages) = cond (same_id old id) (one_more age) (age_after id others ages)

-- the age that a point of this id has at the next test, and those of both points of its contact, by their ids
unfoldable pub next_age : Kept → B2contactId → ℕ
next_age kept id = age_after id (ids_in kept.ids) (ages_in kept.ages)

unfoldable pub ages_of : Kept → CountedIds → Ages
ages_of kept new = record { first = next_age kept new.first; second = next_age kept new.second }

-- ---- they are set in the manifold
abbrev pub with_age : B2manifoldPoint → ℕ → B2manifoldPoint
with_age p age = record {
  local_point = p.local_point;
  normal_impulse = p.normal_impulse;
  tangent_impulse = p.tangent_impulse;
  id = p.id;
  age = age;
}

unfoldable pub with_ages : B2manifold → Ages → B2manifold
with_ages m ages = record {
  points = with_age (manifold_point m 0) ages.first ∷ with_age (manifold_point m 1) ages.second ∷ [];
  local_normal = m.local_normal;
  local_point = m.local_point;
  manifold_type = m.manifold_type;
  point_count = m.point_count;
}
