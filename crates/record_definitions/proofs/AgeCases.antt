-- Closed cases of ages: by the ids and ages of the last contact, the first match in list order among them; and a test's
-- whole result, printed and kept. What they give is read off document 02, request 06. Heats with ages stand with the
-- others. Assumes nothing.
use Prim.Native.Nat.{ℕ, ◌-◌}
use mathlib.Core.Path.{◌≡◌, refl}
use mathlib.Core.List.{List, [], ◌∷◌, map}
use lib.Ieee.{of_bits, to_bits}
use Rattle.contact_definitions.specs.declared.b2_collision.B2contactId.{B2contactId}
use Rattle.contact_definitions.specs.declared.b2_collision.B2manifold.{B2manifold}
use Rattle.contact_definitions.specs.Manifold.{contact_id, default_id, default_manifold}
use Rattle.contact_definitions.specs.PointStates.{same_id, id_among, ids_of, ids_in, point_state, states_of_ids}
use Rattle.contact_definitions.proofs.StateCases.{counting}
use Rattle.record_definitions.specs.World.{largest_count}
use Rattle.record_definitions.specs.Ages.{age_after, next_age, ages_of, with_ages}
use Rattle.record_definitions.specs.Touch.{touches_after, states_of, touch_of, tested_as}
use Rattle.record_definitions.specs.Answer.{point_bytes}
use Rattle.record_definitions.proofs.TableCases.{one_point, tested_after}

-- corner 1 of an outline on the face of a wall, and its corner 2
abbrev this : B2contactId
this = contact_id 0 1 1 0

abbrev other : B2contactId
other = contact_id 0 2 1 0

-- two points
abbrev both : B2contactId → B2contactId → B2manifold
both id0 id1 = counting 2 id0 id1

-- the ages of both points, as a test prints them and as it keeps them, after a contact whose points were 3 and 7 old
abbrev ages_printed : B2manifold → B2manifold → List ℕ
ages_printed kept contact =
    let t = tested_after kept contact in
    t.touch.first.age ∷ t.touch.second.age ∷ t.kept.ages.first ∷ t.kept.ages.second ∷ []

pub record AgeCases : Type 0 where
  -- a point that was the first, the second, neither; the first of two matches; no point before
  pub was_first : age_after this (this ∷ other ∷ []) (3 ∷ 7 ∷ []) ≡ 4
  pub was_second : age_after this (other ∷ this ∷ []) (3 ∷ 7 ∷ []) ≡ 8
  pub was_neither : age_after this (other ∷ default_id ∷ []) (3 ∷ 7 ∷ []) ≡ 0
  pub first_of_two : age_after this (this ∷ this ∷ []) (3 ∷ 7 ∷ []) ≡ 4
  pub none_before : age_after this [] (3 ∷ 7 ∷ []) ≡ 0
  -- each of the four numbers of an id counts
  pub other_numbers : map (λ (id : B2contactId). age_after this (id ∷ []) (3 ∷ []))
      (contact_id 1 1 1 0 ∷ contact_id 0 0 1 0 ∷ contact_id 0 1 0 0 ∷ contact_id 0 1 1 1 ∷ []) ≡ 0 ∷ 0 ∷ 0 ∷ 0 ∷ []
  -- the age holds at 2^32 - 1
  pub last_but_one : age_after this (this ∷ []) ((largest_count - 1) ∷ []) ≡ largest_count
  pub held : age_after this (this ∷ []) (largest_count ∷ []) ≡ largest_count
  -- both persist; they change places; one is new; both share an id; the second was not counted
  pub both_persist : ages_printed (both this other) (both this other) ≡ 4 ∷ 8 ∷ 4 ∷ 8 ∷ []
  pub places_changed : ages_printed (both this other) (both other this) ≡ 8 ∷ 4 ∷ 8 ∷ 4 ∷ []
  pub one_is_new : ages_printed (both other default_id) (both this other) ≡ 0 ∷ 4 ∷ 0 ∷ 4 ∷ []
  pub one_id_shared : ages_printed (both this this) (both this this) ≡ 4 ∷ 4 ∷ 4 ∷ 4 ∷ []
  pub not_counted : ages_printed (counting 1 other this) (both this other) ≡ 0 ∷ 4 ∷ 0 ∷ 4 ∷ []
  -- a corner that rests, and a first test, whose contact gave its points the ages 5 and 13: the test sets them anew
  pub corner_rests : (tested_after (one_point 1) (one_point 1)).touch.first.age ≡ 4
  pub first_test : ages_printed default_manifold (both this other) ≡ 0 ∷ 0 ∷ 0 ∷ 0 ∷ []
  -- the age stands behind the separation
  pub printed_last : point_bytes (tested_after (one_point 1) (one_point 1)).touch.first
      ≡ 0 ∷ 0 ∷ 0 ∷ 0 ∷ 0 ∷ 0 ∷ 0 ∷ 0 ∷ 0 ∷ 0 ∷ 0 ∷ 0 ∷ 0 ∷ 0 ∷ 0 ∷ 4 ∷ []

pub age_cases : AgeCases
unfolding of_bits to_bits same_id id_among ids_of ids_in point_state states_of_ids age_after next_age ages_of with_ages
    touches_after states_of touch_of tested_as point_bytes
age_cases = record {
  was_first = refl;
  was_second = refl;
  was_neither = refl;
  first_of_two = refl;
  none_before = refl;
  other_numbers = refl;
  last_but_one = refl;
  held = refl;
  both_persist = refl;
  places_changed = refl;
  one_is_new = refl;
  one_id_shared = refl;
  not_counted = refl;
  corner_rests = refl;
  first_test = refl;
  printed_last = refl;
}
