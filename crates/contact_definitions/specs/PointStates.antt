-- Point states, b2_get_point_states: a point persists where the other manifold counts one of its id; else an old one
-- is removed and a new one added; places past the count are null. Refusal 7 for a count above 2 of either.
-- Definitions only.
use Rattle.std.specs.Prelude.{Bool, false, cond, ◌&&◌, ◌||◌, List, [], ◌∷◌, map, ℕ, ltb, eqb, length, get_or}
use Rattle.shape_definitions.specs.Refusal.{accepted, count_out_of_range}
use Rattle.contact_definitions.specs.declared.b2_collision.B2contactId.{B2contactId}
use Rattle.contact_definitions.specs.declared.b2_collision.B2manifoldPoint.{B2manifoldPoint}
use Rattle.contact_definitions.specs.declared.b2_collision.CountedIds.{CountedIds}
use Rattle.contact_definitions.specs.declared.b2_collision.B2manifold.{B2manifold}
use Rattle.contact_definitions.specs.declared.b2_collision.B2pointState.{B2pointState}
use Rattle.contact_definitions.specs.declared.b2_collision.B2pointState.TheVariants.{B2NullState, B2AddState}
use Rattle.contact_definitions.specs.declared.b2_collision.B2pointState.TheVariants.{B2PersistState}
use Rattle.contact_definitions.specs.declared.b2_collision.B2pointState.TheVariants.{B2RemoveState}
use Rattle.contact_definitions.specs.declared.b2_collision.PointStates.{PointStates}
use Rattle.contact_definitions.specs.Answers.{PointStatesAnswer}
use Rattle.contact_definitions.specs.Manifold.{as_byte, default_id, manifold_point, counted_points}

-- document 01's number of a state
abbrev pub state_number : B2pointState → ℕ
state_number B2NullState = 0
state_number B2AddState = 1
state_number B2PersistState = 2
state_number B2RemoveState = 3

unfoldable pub same_id : B2contactId → B2contactId → Bool
same_id a b =
    eqb a.cf.index_a b.cf.index_a && eqb a.cf.index_b b.cf.index_b
    && eqb a.cf.type_a b.cf.type_a && eqb a.cf.type_b b.cf.type_b

-- an id is among some
unfoldable pub id_among : B2contactId → List B2contactId → Bool
id_among id [] = false
id_among id (other ∷ others) = same_id other id || id_among id others

-- the ids of the points that a manifold counts
unfoldable pub counted_ids : B2manifold → List B2contactId
counted_ids m = map (λ (p : B2manifoldPoint). p.id) (counted_points m)

-- where the points are not kept: both ids and the count in a byte, and those that they stand for
unfoldable pub ids_of : B2manifold → CountedIds
ids_of m = record {
  count = as_byte m.point_count;
  first = (manifold_point m 0).id;
  second = (manifold_point m 1).id;
}

unfoldable pub ids_in : CountedIds → List B2contactId
ids_in ids = cond (eqb ids.count 0) [] (cond (eqb ids.count 1) (ids.first ∷ []) (ids.first ∷ ids.second ∷ []))

-- the state of the point at a place of the ids `mine`: `alone` where the other manifold has no point of its id
unfoldable pub point_state : B2pointState → List B2contactId → List B2contactId → ℕ → B2pointState
point_state alone mine others i =
    cond (ltb i (length mine)) (cond (id_among (get_or mine i default_id) others) B2PersistState alone) B2NullState

-- the states from the ids alone
unfoldable pub states_of_ids : List B2contactId → List B2contactId → PointStates
states_of_ids old new = record {
  old0 = point_state B2RemoveState old new 0;
  old1 = point_state B2RemoveState old new 1;
  new0 = point_state B2AddState new old 0;
  new1 = point_state B2AddState new old 1;
}

unfoldable pub b2_get_point_states : PointStates → B2manifold → B2manifold → PointStatesAnswer
b2_get_point_states given m1 m2 =
    cond (ltb 2 m1.point_count || ltb 2 m2.point_count)
    (record { states = given; refusal = count_out_of_range })
    (record { states = states_of_ids (counted_ids m1) (counted_ids m2); refusal = accepted })
