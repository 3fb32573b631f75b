-- Over a heat a point's age is the number of tests in a row, up to the one before, at which there was a point of its id
-- (`pressed`), and one more test makes it that of one more (`row_goes_on`). Assumes nothing.
use Prim.Native.Nat.{ℕ, zero, suc, ◌+◌, ◌≤◌, ◌<◌, min}
use mathlib.Core.Path.{◌≡◌, refl, ◌∙◌, ap₂}
use mathlib.Core.Bool.{Bool, true, false, cond, false≢true}
use mathlib.Core.List.{List, [], ◌∷◌, map}
use native.Mathlib.Omega.{arith}
use lib.Dec.{eqb}
use lib.ListN.{length}
use Rattle.algebra.proofs.Booleans.{by_test}
use Rattle.contact_definitions.specs.declared.b2_collision.B2contactId.{B2contactId}
use Rattle.contact_definitions.specs.declared.b2_collision.B2manifold.{B2manifold}
use Rattle.contact_definitions.specs.declared.b2_collision.CountedIds.{CountedIds}
use Rattle.contact_definitions.specs.Manifold.{counted_points}
use Rattle.contact_definitions.specs.PointStates.{same_id, id_among, counted_ids, ids_of, ids_in}
use Rattle.contact_definitions.proofs.Counts.{either}
use Rattle.contact_definitions.proofs.Ids.{same_ids_are_one}
use Rattle.record_definitions.specs.declared.world.Ages.{Ages}
use Rattle.record_definitions.specs.declared.world.Kept.{Kept}
use Rattle.record_definitions.specs.World.{largest_count, one_more}
use Rattle.record_definitions.specs.Ages.{ages_in, age_after, next_age, ages_of}
use Rattle.record_definitions.specs.AgeLaws.{there_at, tests_in_a_row, age_by, PressedFor}

-- ---- the row
module _ (id : B2contactId) where
  row_at_least : (n : ℕ) (earlier : List B2manifold) → ((k : ℕ) → k < n → there_at id earlier k ≡ true)
      → n ≤ tests_in_a_row id earlier
  unfolding tests_in_a_row id_among counted_ids counted_points
  row_at_least zero earlier there = omega arith
  row_at_least (suc n) [] there = absurd (false≢true (there 0 (omega arith)))
  row_at_least (suc n) (contact ∷ earlier) there =
      let rest = row_at_least n earlier (λ k below. there (suc k) (omega arith)) in
      rw (there 0 (omega arith)) (omega arith)

  row_begins : (earlier : List B2manifold) → there_at id earlier 0 ≡ false → tests_in_a_row id earlier ≡ 0
  unfolding tests_in_a_row
  row_begins [] not = refl
  row_begins (contact ∷ earlier) not = rw not refl

  row_at_most : (earlier : List B2manifold) → tests_in_a_row id earlier ≤ length earlier
  unfolding tests_in_a_row
  row_at_most [] = omega arith
  row_at_most (contact ∷ earlier) =
      let rest = row_at_most earlier in
      by_test (id_among id (counted_ids contact)) (λ there. rw there (omega arith)) (λ not. rw not (omega arith))

  pub pressed : (earlier : List B2manifold) (age : ℕ) → age ≡ age_by id earlier → PressedFor id earlier age
  pressed earlier age is = record {
    in_a_row = is;
    at_least = λ n there. omega (arith, is, row_at_least n earlier there);
    anew = λ not. omega (arith, is, row_begins earlier not);
    at_most = omega (arith, is, row_at_most earlier);
  }

-- ---- one more test
-- where each old point of an id x has age f x
module _ (f : B2contactId → ℕ) (id : B2contactId) where
  all_older : (ids : List B2contactId) → age_after id ids (map f ids) ≡ cond (id_among id ids) (one_more (f id)) 0
  unfolding age_after id_among
  all_older [] = refl
  all_older (old ∷ others) =
      by_test (same_id old id)
      (λ same. rw (same, same_ids_are_one old id same) refl)
      (λ other. rw other (all_older others))

  by_place : (ids : CountedIds)
      → age_after id (ids_in ids) (f ids.first ∷ f ids.second ∷ [])
      ≡ age_after id (ids_in ids) (map f (ids_in ids))
  unfolding age_after ids_in
  by_place ids = either Same (eqb ids.count 0) _ _ refl (either Same (eqb ids.count 1) _ _ refl refl)
    where
      Same : List B2contactId → Type 0
      Same l = age_after id l (f ids.first ∷ f ids.second ∷ []) ≡ age_after id l (map f l)

held_row : (there : Bool) (row limit : ℕ)
    → cond there (min (min row limit + 1) limit) 0 ≡ min (cond there (suc row) 0) limit
held_row true row limit = omega arith
held_row false row limit = omega arith

pub row_goes_on : (old new : Kept) (earlier : List B2manifold)
    → ((id : B2contactId) → next_age old id ≡ age_by id earlier)
    → (contact : B2manifold) → new.ids ≡ ids_of contact → new.ages ≡ ages_of old (ids_of contact)
    → ids_in (ids_of contact) ≡ counted_ids contact → (id : B2contactId)
    → next_age new id ≡ age_by id (contact ∷ earlier)
unfolding next_age ages_of tests_in_a_row
row_goes_on old new earlier before contact ids_are ages_are counted id =
    ap₂ (λ (ids : CountedIds) (ages : Ages). age_after id (ids_in ids) (ages_in ages)) ids_are ages_are
    ∙ by_place (next_age old) id (ids_of contact) ∙ all_older (next_age old) id (ids_in (ids_of contact))
    ∙ rw (before id, counted) (held_row (id_among id (counted_ids contact)) (tests_in_a_row id earlier) largest_count)
