-- The age of a point, by the ids of the last contact's points and their ages: 0 where its id is none of them, and else
-- one more than that of the first point that has it; it is held (`age_by_request`). Assumes nothing.
use Prim.Native.Nat.{ℕ, zero, suc, ◌≤◌, ◌<◌}
use mathlib.Core.Path.{◌≡◌, refl, sym, ◌∙◌, ap}
use mathlib.Core.Bool.{Bool, true, false, cond, false≢true}
use mathlib.Core.List.{List, [], ◌∷◌}
use native.Mathlib.Omega.{arith}
use lib.Dec.{eqb}
use lib.ListN.{length, get_or}
use Rattle.algebra.proofs.Booleans.{by_test, or_fails}
use Rattle.contact_definitions.specs.declared.b2_collision.B2contactId.{B2contactId}
use Rattle.contact_definitions.specs.declared.b2_collision.B2pointState.{B2pointState}
use Rattle.contact_definitions.specs.declared.b2_collision.B2pointState.TheVariants.{B2AddState, B2PersistState}
use Rattle.contact_definitions.specs.declared.b2_collision.CountedIds.{CountedIds}
use Rattle.contact_definitions.specs.Manifold.{default_id}
use Rattle.contact_definitions.specs.PointStates.{state_number, same_id, id_among, ids_in}
use Rattle.contact_definitions.proofs.Counts.{either}
use Rattle.contact_definitions.proofs.Ids.{same_ids_are_one, id_is_itself}
use Rattle.record_definitions.specs.declared.world.Kept.{Kept}
use Rattle.record_definitions.specs.World.{largest_count, one_more}
use Rattle.record_definitions.specs.Ages.{ages_in, age_after, next_age}
use Rattle.record_definitions.specs.AgeLaws.{FirstMatch, PointAge}

-- ---- a point that was not there
pub added_age : (id : B2contactId) (ids : List B2contactId) (ages : List ℕ) → id_among id ids ≡ false
    → age_after id ids ages ≡ 0
unfolding id_among age_after
added_age id [] ages none = refl
added_age id (old ∷ others) [] none = refl
added_age id (old ∷ others) (age ∷ ages) none =
    let neither = or_fails (same_id old id) (id_among id others) none in
    simp (neither.0, added_age id others ages neither.1)

-- ---- the first match
module _ (id : B2contactId) where
  match_here : (old : B2contactId) (others : List B2contactId) → same_id old id ≡ true → FirstMatch id (old ∷ others) 0
  match_here old others same = record {
    within = omega arith;
    same = same_ids_are_one old id same;
    first = λ j below. absurd (omega arith);
  }

  other_before : (old : B2contactId) (others : List B2contactId) (k : ℕ) → same_id old id ≡ false
      → ((j : ℕ) → j < k → get_or others j default_id ≡ id → ⊥)
      → (j : ℕ) → j < suc k → get_or (old ∷ others) j default_id ≡ id → ⊥
  other_before old others k other rest zero below is =
      false≢true (sym other ∙ ap (λ (x : B2contactId). same_id x id) is ∙ id_is_itself id)
  other_before old others k other rest (suc j) below is = rest j (omega arith) is

  match_later : (old : B2contactId) (others : List B2contactId) (k : ℕ) → same_id old id ≡ false
      → FirstMatch id others k → FirstMatch id (old ∷ others) (suc k)
  match_later old others k other match = record {
    within = let within = match.within in omega arith;
    same = match.same;
    first = other_before old others k other match.first;
  }

  -- some age at each place
  matched : (ids : List B2contactId) (ages : List ℕ) → length ids ≤ length ages → id_among id ids ≡ true
      → (k : ℕ) × FirstMatch id ids k × (age_after id ids ages ≡ one_more (get_or ages k 0))
  unfolding id_among age_after
  matched [] ages fits there = absurd (false≢true there)
  matched (old ∷ others) [] fits there = absurd (omega arith)
  matched (old ∷ others) (age ∷ ages) fits there =
      by_test (same_id old id)
      (λ same. (0, match_here old others same, rw same refl))
      (λ other. let later = matched others ages (omega arith) (rw other at there) in
      (suc later.0, match_later old others later.0 other later.1, rw other later.2))

-- ---- an age is held
pub age_held : (id : B2contactId) (ids : List B2contactId) (ages : List ℕ) → age_after id ids ages ≤ largest_count
unfolding age_after
age_held id [] ages = omega arith
age_held id (old ∷ others) [] = omega arith
age_held id (old ∷ others) (age ∷ ages) =
    by_test (same_id old id) (λ same. rw same (omega arith)) (λ other. rw other (age_held id others ages))

-- ---- a point in the state that it has
two_at_most : (ids : CountedIds) → length (ids_in ids) ≤ 2
unfolding ids_in
two_at_most ids =
    either Few (eqb ids.count 0) _ _ (omega arith) (either Few (eqb ids.count 1) _ _ (omega arith) (omega arith))
  where
    Few : List B2contactId → Type 0
    Few l = length l ≤ 2

-- a point is not added and persisting at once
clash : (there : Bool) (state : B2pointState) → state ≡ cond there B2PersistState B2AddState
    → state ≡ cond there B2AddState B2PersistState → ⊥
clash true state is other = let numbers : ◌≡◌ {A = ℕ} 2 1 = ap state_number (sym is ∙ other) in omega arith
clash false state is other = let numbers : ◌≡◌ {A = ℕ} 1 2 = ap state_number (sym is ∙ other) in omega arith

pub age_by_request : (old : Kept) (id : B2contactId) (state : B2pointState)
    → state ≡ cond (id_among id (ids_in old.ids)) B2PersistState B2AddState
    → PointAge old id state (next_age old id)
unfolding next_age
age_by_request old id state is =
    let ids = ids_in old.ids in
    let ages = ages_in old.ages in
    let there = id_among id ids in
    record {
      added = λ add. by_test there (λ yes. absurd (clash there state is (rw yes add))) (added_age id ids ages);
      persists = λ persist. by_test there (matched id ids ages (two_at_most old.ids))
          (λ not. absurd (clash there state is (rw not persist)));
      held = age_held id ids ages;
    }
