-- A test of a pair that answers, of a piece of the first body, after tests that met some contacts (`Remembers`): its
-- states, its ages and its count are those of these contacts and its own, and the pair then remembers its own.
-- Assumes nothing.
use Prim.Native.Nat.{ℕ, ◌≤◌, ◌<◌}
use mathlib.Core.Path.{◌≡◌, refl, sym, ◌∙◌, ap, ap₂, subst}
use mathlib.Core.Bool.{true}
use mathlib.Core.List.{List, [], ◌∷◌}
use native.Mathlib.Omega.{arith}
use lib.ListN.{length}
use Rattle.lines.specs.Fields.{byte_at}
use Rattle.shape_definitions.specs.Refusal.{accepted}
use Rattle.contact_definitions.specs.declared.b2_collision.B2contactId.{B2contactId}
use Rattle.contact_definitions.specs.declared.b2_collision.B2manifold.{B2manifold}
use Rattle.contact_definitions.specs.declared.b2_collision.B2pointState.TheVariants.{B2PersistState}
use Rattle.contact_definitions.specs.declared.b2_collision.CountedIds.{CountedIds}
use Rattle.contact_definitions.specs.declared.b2_collision.PointStates.{PointStates}
use Rattle.contact_definitions.specs.Manifold.{manifold_point}
use Rattle.contact_definitions.specs.PointStates.{counted_ids, id_among, ids_of, ids_in, states_of_ids}
use Rattle.record_definitions.specs.declared.world.Body.{Body}
use Rattle.record_definitions.specs.declared.world.Kept.{Kept}
use Rattle.record_definitions.specs.declared.world.World.{World}
use Rattle.record_definitions.specs.declared.touch.Touch.{Touch}
use Rattle.record_definitions.specs.declared.frame.Answer.TheVariants.{Tested}
use Rattle.record_definitions.specs.World.{fresh_kept, pieces_of, piece_of, kept_of, body_at, pair_at}
use Rattle.record_definitions.specs.Ages.{age_after, next_age, ages_of}
use Rattle.record_definitions.specs.Touch.{touches_after, states_of, tested, piece_tested}
use Rattle.record_definitions.specs.Answer.{result_of}
use Rattle.record_definitions.specs.OneFrame.{change_in, after_frame, said_of_frame}
use Rattle.record_definitions.specs.Rulebook.{Rulebook}
use Rattle.record_definitions.specs.AgeLaws.{tests_in_a_row, age_by}
use Rattle.record_definitions.specs.Heat.{contact_in, last_contact, touches_begun, touches_of, NextTest}
use Rattle.record_definitions.proofs.Changes.{WasTested}
use Rattle.record_definitions.proofs.Pairs.{test_seen}
use Rattle.record_definitions.proofs.PieceTests.{each_accepted}
use Rattle.record_definitions.proofs.States.{count_of, ids_of_points, states_are_box2ds, first_state}
use Rattle.record_definitions.proofs.States.{second_state}
use Rattle.record_definitions.proofs.Counting.{states_printed, touches_printed, contact_taken, met_few}
use Rattle.record_definitions.proofs.Counting.{ids_kept, touches_kept, ages_printed, ages_kept}
use Rattle.record_definitions.proofs.Pressed.{pressed, row_goes_on}
use Rattle.record_definitions.proofs.Rulebook.{counted_by_rulebook, held_begun}
use Rattle.record_definitions.proofs.MetPlaces.{met_two}
use Rattle.record_definitions.proofs.Sound.{Sound}
use Rattle.record_definitions.proofs.SoundKept.{frame_keeps_sound}
use Rattle.record_definitions.proofs.TestTheorem.{tested_by_itself, kept_by_itself}

-- ---- a contact as tests meet it: two places for points, and at most two of them
pub record Whole (contact : B2manifold) : Type 0 where
  pub two : length contact.points ≡ 2
  pub few : contact.point_count ≤ 2

pub record Remembers (a b i : ℕ) (w : World) (contacts : List B2manifold) : Type 0 where
  pub sound : Sound w
  pub whole : Whole (last_contact contacts)
  pub ids : (kept_of (pair_at w a b) i).ids ≡ ids_of (last_contact contacts)
  pub touches : (kept_of (pair_at w a b) i).touches ≡ touches_of contacts
  pub ages : (id : B2contactId) → next_age (kept_of (pair_at w a b) i) id ≡ age_by id contacts

-- a fresh pair remembers none
pub nothing_remembered : (a b i : ℕ) (w : World) → Sound w → kept_of (pair_at w a b) i ≡ fresh_kept
    → Remembers a b i w []
unfolding ids_of touches_begun next_age ids_in age_after tests_in_a_row
nothing_remembered a b i w sound fresh = record {
  sound = sound;
  whole = record { two = refl; few = omega arith };
  ids = ap (λ (kept : Kept). kept.ids) fresh;
  touches = ap (λ (kept : Kept). kept.touches) fresh;
  ages = λ id. ap (λ (kept : Kept). next_age kept id) fresh;
}

-- ---- the test, of a piece that the first body has
module _ (a b i : ℕ) (w : World) (contacts : List B2manifold) (before : Remembers a b i w contacts) (frame : List ℕ)
    (t : Touch) (is : (said_of_frame w frame).answer ≡ Tested t) (a_is : byte_at frame 1 ≡ a)
    (b_is : byte_at frame 2 ≡ b) (within : i < pieces_of (body_at w a)) where
  abbrev piece : Body
  piece = piece_of (body_at w a) i

  abbrev kept : Kept
  kept = kept_of (pair_at w a b) i

  abbrev met : B2manifold
  met = contact_in a b i w

  shown : result_of (said_of_frame w frame) i ≡ (tested a b piece (body_at w b) kept).touch
  shown =
      rw (a_is, b_is) at (tested_by_itself w frame t is i (rw a_is within))

  kept_after : kept_of (pair_at (after_frame w frame) a b) i ≡ (tested a b piece (body_at w b) kept).kept
  kept_after =
      rw (a_is, b_is) at (kept_by_itself w frame t is i (rw a_is within) before.sound.pairs_size)

  seen : WasTested a b (body_at w a) (body_at w b) (pair_at w a b) t (change_in w frame)
  seen = rw (a_is, b_is) at (test_seen w frame t is)

  taken : (tested a b piece (body_at w b) kept).refusal ≡ accepted
  unfolding piece_tested
  taken = each_accepted a b (body_at w a) (body_at w b) (pair_at w a b) seen.not_refused i within

  whole : Whole met
  whole =
      let contact = contact_taken piece (body_at w b) a b kept taken in
      record {
        two = met_two piece (body_at w b);
        few = (met_few piece (body_at w b) contact).at_most_two;
      }

  ids_counted : (m : B2manifold) → Whole m → ids_in (ids_of m) ≡ counted_ids m
  ids_counted m h = ids_of_points m m.points refl h.two h.few

  abbrev result : Touch
  result = result_of (said_of_frame w frame) i

  against_last : states_of kept met ≡ states_of_ids (counted_ids (last_contact contacts)) (counted_ids met)
  unfolding states_of
  against_last = rw (before.ids, ids_counted (last_contact contacts) before.whole, ids_counted met whole) refl

  states_are : result.states ≡ states_of_ids (counted_ids (last_contact contacts)) (counted_ids met)
  states_are = ap (λ (s : Touch). s.states) shown ∙ states_printed piece (body_at w b) a b kept ∙ against_last

  points_before : kept.ids.count ≡ (last_contact contacts).point_count
  points_before =
      ap (λ (ids : CountedIds). ids.count) before.ids ∙ count_of (last_contact contacts) before.whole.few

  counted : result.touches
      ≡ touches_after (touches_of contacts) (last_contact contacts).point_count met.point_count
  counted =
      ap (λ (s : Touch). s.touches) shown ∙ touches_printed piece (body_at w b) a b kept
      ∙ ap₂ (λ (touches points : ℕ). touches_after touches points met.point_count) before.touches points_before

  touches_are : result.touches ≡ touches_of (met ∷ contacts)
  unfolding touches_begun
  touches_are = counted ∙ held_begun (touches_begun contacts) _ _

  -- the pair remembers it
  pub test_remembered : Remembers a b i (after_frame w frame) (met ∷ contacts)
  test_remembered = record {
    sound = frame_keeps_sound w frame before.sound;
    whole = whole;
    ids = ap (λ (k : Kept). k.ids) kept_after ∙ ids_kept piece (body_at w b) a b kept;
    touches = ap (λ (k : Kept). k.touches) kept_after ∙ touches_kept piece (body_at w b) a b kept
        ∙ ap (λ (s : Touch). s.touches) (sym shown) ∙ touches_are;
    ages = λ id. ap (λ (k : Kept). next_age k id) kept_after
        ∙ row_goes_on kept (tested a b piece (body_at w b) kept).kept contacts before.ages met
        (ids_kept piece (body_at w b) a b kept) (ages_kept piece (body_at w b) a b kept) (ids_counted met whole) id;
  }

  -- a point's state, from its id
  abbrev old : List B2contactId
  old = counted_ids (last_contact contacts)

  from_ids : result.states ≡ states_of_ids old (ids_in (ids_of met))
  from_ids = states_are ∙ ap (states_of_ids old) (sym (ids_counted met whole))

  first_resting : 0 < met.point_count → id_among (manifold_point met 0).id old ≡ true
      → result.states.new0 ≡ B2PersistState
  unfolding ids_of
  first_resting some rests =
      ap (λ (s : PointStates). s.new0) from_ids
      ∙ first_state old (ids_of met) met.point_count (count_of met whole.few) some ∙ rw rests refl

  second_resting : 1 < met.point_count → id_among (manifold_point met 1).id old ≡ true
      → result.states.new1 ≡ B2PersistState
  unfolding ids_of
  second_resting some rests =
      ap (λ (s : PointStates). s.new1) from_ids
      ∙ second_state old (ids_of met) met.point_count (count_of met whole.few) some ∙ rw rests refl

  -- a point's age, from its id
  first_aged : result.first.age ≡ age_by (manifold_point met 0).id contacts
  unfolding ages_of ids_of
  first_aged =
      ap (λ (s : Touch). s.first.age) shown ∙ (ages_printed piece (body_at w b) a b kept).0
      ∙ before.ages (manifold_point met 0).id

  second_aged : result.second.age ≡ age_by (manifold_point met 1).id contacts
  unfolding ages_of ids_of
  second_aged =
      ap (λ (s : Touch). s.second.age) shown ∙ (ages_printed piece (body_at w b) a b kept).1
      ∙ before.ages (manifold_point met 1).id

  -- and prints it
  pub test_printed : NextTest contacts met result
  test_printed = record {
    states = λ given. states_are_box2ds given (last_contact contacts) met before.whole.two whole.two
        before.whole.few whole.few
        ∙ ap (λ (states : PointStates). record { states = states; refusal = accepted })
        (ap₂ states_of_ids (ids_counted (last_contact contacts) before.whole) (ids_counted met whole)
        ∙ sym states_are);
    first_rests = first_resting;
    second_rests = second_resting;
    count = touches_are;
    rulebook = subst (Rulebook (last_contact contacts).point_count met.point_count (touches_of contacts))
        (sym counted) (counted_by_rulebook (touches_of contacts) _ _);
    first_age = pressed (manifold_point met 0).id contacts result.first.age first_aged;
    second_age = pressed (manifold_point met 1).id contacts result.second.age second_aged;
  }
