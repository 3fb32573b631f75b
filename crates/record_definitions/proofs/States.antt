-- Point states from the ids that a pair keeps. They are those that b2_get_point_states gives of the two manifolds; a
-- counted point is in state persist where its id is among the ids of the pair's last contact, and else in state add.
-- Assumes nothing.
use Prim.Native.Nat.{ℕ, zero, suc, ◌≤◌, ◌<◌}
use mathlib.Core.Path.{◌≡◌, refl}
use mathlib.Core.Bool.{cond}
use mathlib.Core.List.{List, [], ◌∷◌, map}
use native.Mathlib.Omega.{arith}
use lib.Dec.{eqb}
use lib.ListN.{length, take}
use borrow.Author.Tests.{ne_eqb, le-ltb}
use Rattle.shape_definitions.specs.Refusal.{accepted}
use Rattle.contact_definitions.specs.declared.b2_collision.B2contactId.{B2contactId}
use Rattle.contact_definitions.specs.declared.b2_collision.B2manifold.{B2manifold}
use Rattle.contact_definitions.specs.declared.b2_collision.B2manifoldPoint.{B2manifoldPoint}
use Rattle.contact_definitions.specs.declared.b2_collision.B2pointState.TheVariants.{B2NullState, B2AddState}
use Rattle.contact_definitions.specs.declared.b2_collision.B2pointState.TheVariants.{B2PersistState}
use Rattle.contact_definitions.specs.declared.b2_collision.CountedIds.{CountedIds}
use Rattle.contact_definitions.specs.declared.b2_collision.PointStates.{PointStates}
use Rattle.contact_definitions.specs.Manifold.{as_byte, counted_points}
use Rattle.contact_definitions.specs.PointStates.{id_among, counted_ids, ids_of, ids_in, point_state}
use Rattle.contact_definitions.specs.PointStates.{states_of_ids, b2_get_point_states}

-- ---- a count of at most two is the same in a byte
byte_of_count : (m : B2manifold) → m.point_count ≤ 2 → as_byte m.point_count ≡ m.point_count
byte_of_count m few = omega (arith, few)

pub count_of : (m : B2manifold) → m.point_count ≤ 2 → (ids_of m).count ≡ m.point_count
unfolding ids_of
count_of m few = byte_of_count m few

-- ---- the ids of a manifold are those of the points that it counts
ids_by_count : (count : ℕ) (p q : B2manifoldPoint) → count ≤ 2
    → cond (eqb count 0) [] (cond (eqb count 1) (p.id ∷ []) (p.id ∷ q.id ∷ []))
    ≡ map (λ (r : B2manifoldPoint). r.id) (take count (p ∷ q ∷ []))
ids_by_count zero p q few = refl
ids_by_count (suc zero) p q few = refl
ids_by_count (suc (suc zero)) p q few = refl
ids_by_count (suc (suc (suc n))) p q few = absurd (omega arith)

pub ids_of_points : (m : B2manifold) (points : List B2manifoldPoint) → m.points ≡ points → length points ≡ 2
    → m.point_count ≤ 2 → ids_in (ids_of m) ≡ counted_ids m
unfolding ids_in ids_of counted_ids counted_points
ids_of_points m [] is size few = absurd (omega arith)
ids_of_points m (p ∷ []) is size few = absurd (omega arith)
ids_of_points m (p ∷ q ∷ []) is size few =
    rw (is, byte_of_count m few) (ids_by_count m.point_count p q few)
ids_of_points m (p ∷ q ∷ r ∷ rest) is size few = absurd (omega arith)

pub states_are_box2ds : (given : PointStates) (old new : B2manifold)
    → length old.points ≡ 2 → length new.points ≡ 2 → old.point_count ≤ 2 → new.point_count ≤ 2
    → b2_get_point_states given old new
    ≡ record { states = states_of_ids (ids_in (ids_of old)) (ids_in (ids_of new)); refusal = accepted }
unfolding b2_get_point_states
states_are_box2ds given old new old_size new_size old_few new_few =
    rw (
      ids_of_points old old.points refl old_size old_few,
      ids_of_points new new.points refl new_size new_few,
      le-ltb 2 old.point_count old_few,
      le-ltb 2 new.point_count new_few,
    ) refl

-- ---- the ids by their number
two_ids : (n : ℕ) (ids : CountedIds) → ids.count ≡ suc (suc n) → ids_in ids ≡ ids.first ∷ ids.second ∷ []
unfolding ids_in
two_ids n ids is = simp (ne_eqb ids.count 0 (λ none. omega arith), ne_eqb ids.count 1 (λ one. omega arith))

-- ---- a new point's state, by the number of points
module _ (old : List B2contactId) (ids : CountedIds) where
  pub first_state : (n : ℕ) → ids.count ≡ n → 0 < n
      → (states_of_ids old (ids_in ids)).new0 ≡ cond (id_among ids.first old) B2PersistState B2AddState
  unfolding states_of_ids point_state ids_in
  first_state zero is some = absurd (omega arith)
  first_state (suc zero) is some = rw is refl
  first_state (suc (suc n)) is some = rw (two_ids n ids is) refl

  pub second_state : (n : ℕ) → ids.count ≡ n → 1 < n
      → (states_of_ids old (ids_in ids)).new1 ≡ cond (id_among ids.second old) B2PersistState B2AddState
  unfolding states_of_ids point_state
  second_state zero is some = absurd (omega arith)
  second_state (suc zero) is some = absurd (omega arith)
  second_state (suc (suc n)) is some = rw (two_ids n ids is) refl

  pub no_first_state : ids.count ≡ 0 → (states_of_ids old (ids_in ids)).new0 ≡ B2NullState
  unfolding states_of_ids point_state ids_in
  no_first_state is = rw is refl

  pub no_second_state : (n : ℕ) → ids.count ≡ n → n ≤ 1 → (states_of_ids old (ids_in ids)).new1 ≡ B2NullState
  unfolding states_of_ids point_state ids_in
  no_second_state zero is few = rw is refl
  no_second_state (suc zero) is few = rw is refl
  no_second_state (suc (suc n)) is few = absurd (omega arith)
