-- Point states, a case for each state and refusal, computed by antt from the definitions: the complete answers are
-- those of Box2D 2.4.1 (Debian's library) and of the Rust. Assumes nothing.
use mathlib.Core.Path.{◌≡◌, refl}
use mathlib.Core.List.{[], ◌∷◌}
use Prim.Native.Nat.{ℕ}
use lib.Ieee.{of_bits}
use Rattle.floats.specs.B2Math.{vec2}
use Rattle.shape_definitions.specs.Refusal.{accepted, count_out_of_range}
use Rattle.contact_definitions.specs.declared.b2_collision.B2contactId.{B2contactId}
use Rattle.contact_definitions.specs.declared.b2_collision.B2manifold.{B2manifold}
use Rattle.contact_definitions.specs.declared.b2_collision.B2manifoldType.TheVariants.{ECircles, EFaceA}
use Rattle.contact_definitions.specs.declared.b2_collision.B2manifoldType.TheVariants.{EFaceB}
use Rattle.contact_definitions.specs.declared.b2_collision.B2pointState.{B2pointState}
use Rattle.contact_definitions.specs.declared.b2_collision.B2pointState.TheVariants.{B2AddState, B2NullState}
use Rattle.contact_definitions.specs.declared.b2_collision.B2pointState.TheVariants.{B2PersistState}
use Rattle.contact_definitions.specs.declared.b2_collision.B2pointState.TheVariants.{B2RemoveState}
use Rattle.contact_definitions.specs.declared.b2_collision.PointStates.{PointStates}
use Rattle.contact_definitions.specs.Answers.{PointStatesAnswer}
use Rattle.contact_definitions.specs.Manifold.{counted_points, contact_id, kind_number}
use Rattle.contact_definitions.specs.PointStates.{same_id, id_among, counted_ids, ids_in, point_state}
use Rattle.contact_definitions.specs.PointStates.{states_of_ids, b2_get_point_states, state_number}
use Rattle.contact_definitions.proofs.Numbers.{+1, +10, +17, +18, +19, +2, +20, +9}
use Rattle.contact_definitions.proofs.Given.{after, first, second}

abbrev pub counting : ℕ → B2contactId → B2contactId → B2manifold
counting count id0 id1 =
    after ECircles count (vec2 +17 +18) (vec2 +19 +20) (first (vec2 +1 +2) id0) (second (vec2 +9 +10) id1)

abbrev pub given_states : PointStates
given_states = record { old0 = B2AddState; old1 = B2RemoveState; new0 = B2PersistState; new1 = B2AddState }

abbrev pub states_accepted : B2pointState → B2pointState → B2pointState → B2pointState → PointStatesAnswer
states_accepted old0 old1 new0 new1 =
    record { states = record { old0 = old0; old1 = old1; new0 = new0; new1 = new1 }; refusal = accepted }

abbrev pub states_refused : PointStatesAnswer
states_refused = record { states = given_states; refusal = count_out_of_range }

-- document 01's numbers of the states and of the kinds
pub record PaperNumbers : Type 0 where
  pub null_is_0 : state_number B2NullState ≡ 0
  pub add_is_1 : state_number B2AddState ≡ 1
  pub persist_is_2 : state_number B2PersistState ≡ 2
  pub remove_is_3 : state_number B2RemoveState ≡ 3
  pub circles_are_0 : kind_number ECircles ≡ 0
  pub face_a_is_1 : kind_number EFaceA ≡ 1
  pub face_b_is_2 : kind_number EFaceB ≡ 2

-- the ids that a record counts
pub record IdCases (id0 id1 : B2contactId) : Type 0 where
  pub no_id : ids_in (record { count = 0; first = id0; second = id1 }) ≡ []
  pub one_id : ids_in (record { count = 1; first = id0; second = id1 }) ≡ id0 ∷ []
  pub two_ids : ids_in (record { count = 2; first = id0; second = id1 }) ≡ id0 ∷ id1 ∷ []

pub id_cases : (id0 id1 : B2contactId) → IdCases id0 id1
unfolding ids_in
id_cases id0 id1 = record {
  no_id = refl;
  one_id = refl;
  two_ids = refl;
}

pub paper_numbers : PaperNumbers
paper_numbers = record {
  null_is_0 = refl;
  add_is_1 = refl;
  persist_is_2 = refl;
  remove_is_3 = refl;
  circles_are_0 = refl;
  face_a_is_1 = refl;
  face_b_is_2 = refl;
}

pub record StateCases : Type 0 where
  -- no point on either side
  pub none : b2_get_point_states given_states (counting 0 (contact_id 1 2 0 1) (contact_id 2 1 0 1))
      (counting 0 (contact_id 1 2 0 1) (contact_id 2 1 0 1))
      ≡ states_accepted B2NullState B2NullState B2NullState B2NullState
  -- two new ones
  pub added : b2_get_point_states given_states (counting 0 (contact_id 1 2 0 1) (contact_id 2 1 0 1))
      (counting 2 (contact_id 1 2 0 1) (contact_id 2 1 0 1))
      ≡ states_accepted B2NullState B2NullState B2AddState B2AddState
  -- two that go
  pub removed : b2_get_point_states given_states (counting 2 (contact_id 1 2 0 1) (contact_id 2 1 0 1))
      (counting 0 (contact_id 1 2 0 1) (contact_id 2 1 0 1))
      ≡ states_accepted B2RemoveState B2RemoveState B2NullState B2NullState
  -- both persist, in the other order
  pub persist_swapped : b2_get_point_states given_states (counting 2 (contact_id 1 2 0 1) (contact_id 2 1 0 1))
      (counting 2 (contact_id 2 1 0 1) (contact_id 1 2 0 1))
      ≡ states_accepted B2PersistState B2PersistState B2PersistState B2PersistState
  -- one persists at another place, one goes, one comes; ids that differ in their types alone are two
  pub one_of_each : b2_get_point_states given_states (counting 2 (contact_id 1 2 0 1) (contact_id 2 1 0 1))
      (counting 2 (contact_id 1 2 1 0) (contact_id 1 2 0 1))
      ≡ states_accepted B2PersistState B2RemoveState B2AddState B2PersistState
  -- a second point past the count is no point
  pub uncounted : b2_get_point_states given_states (counting 1 (contact_id 1 2 0 1) (contact_id 2 1 0 1))
      (counting 2 (contact_id 2 1 0 1) (contact_id 1 2 0 1))
      ≡ states_accepted B2PersistState B2NullState B2AddState B2PersistState
  -- ids that differ in index_b, type_a or type_b alone
  pub ids_by_every_part : b2_get_point_states given_states (counting 2 (contact_id 1 2 0 1) (contact_id 1 2 0 0))
      (counting 2 (contact_id 1 3 0 1) (contact_id 1 2 1 1))
      ≡ states_accepted B2RemoveState B2RemoveState B2AddState B2AddState
  -- a count of three, of the old or of the new: the states given come back
  pub old_refused : b2_get_point_states given_states (counting 3 (contact_id 1 2 0 1) (contact_id 2 1 0 1))
      (counting 1 (contact_id 1 2 0 1) (contact_id 2 1 0 1))
      ≡ states_refused
  pub new_refused : b2_get_point_states given_states (counting 1 (contact_id 1 2 0 1) (contact_id 2 1 0 1))
      (counting 3 (contact_id 1 2 0 1) (contact_id 2 1 0 1))
      ≡ states_refused

pub state_cases : StateCases
unfolding counted_points same_id id_among counted_ids ids_in point_state states_of_ids b2_get_point_states of_bits
state_cases = record {
  none = refl;
  added = refl;
  removed = refl;
  persist_swapped = refl;
  one_of_each = refl;
  uncounted = refl;
  ids_by_every_part = refl;
  old_refused = refl;
  new_refused = refl;
}
