-- The headline laws of a test that answers: a result and a line for each piece, in order; what is said and kept of a
-- piece is a test of that piece alone, its touch counted by the rulebook, its states those of Box2D; sent again it
-- counts nothing. Bodies only cite. Assumes nothing.
use Prim.Native.Nat.{ℕ, ◌≤◌, ◌<◌}
use mathlib.Core.Path.{◌≡◌, sym, ◌∙◌, ap, subst}
use mathlib.Core.Bool.{cond}
use mathlib.Core.List.{List, ◌++◌}
use lib.ListN.{length, get_or}
use lib.Seq.{take-append_seam}
use Rattle.lines.specs.Fields.{byte_at}
use Rattle.lines.specs.Hex.{line_of}
use Rattle.shape_definitions.specs.Refusal.{accepted}
use Rattle.contact_definitions.specs.declared.b2_collision.B2manifold.{B2manifold}
use Rattle.contact_definitions.specs.declared.b2_collision.B2pointState.TheVariants.{B2NullState, B2AddState}
use Rattle.contact_definitions.specs.declared.b2_collision.B2pointState.TheVariants.{B2PersistState}
use Rattle.contact_definitions.specs.declared.b2_collision.PointStates.{PointStates}
use Rattle.contact_definitions.specs.PointStates.{id_among, ids_of, ids_in, b2_get_point_states}
use Rattle.record_definitions.specs.declared.world.Body.{Body}
use Rattle.record_definitions.specs.declared.world.Kept.{Kept}
use Rattle.record_definitions.specs.declared.world.Pair.{Pair}
use Rattle.record_definitions.specs.declared.world.World.{World}
use Rattle.record_definitions.specs.declared.touch.TestAnswer.{TestAnswer}
use Rattle.record_definitions.specs.declared.touch.Touch.{Touch}
use Rattle.record_definitions.specs.declared.frame.Answer.TheVariants.{Tested}
use Rattle.record_definitions.specs.declared.frame.Said.{Said}
use Rattle.record_definitions.specs.World.{pair_place, blank_body, body_at, pair_at}
use Rattle.record_definitions.specs.World.{pieces_of, piece_of, kept_of}
use Rattle.record_definitions.specs.Touch.{meet, touches_after, states_of, tested, piece_tested}
use Rattle.record_definitions.specs.Rulebook.{Rulebook}
use Rattle.record_definitions.specs.Frame.{largest_id, further_tests, all_tests, results_of, change}
use Rattle.record_definitions.specs.Answer.{touch_bytes, said_line, blank_touch, touch_lines, touches_said}
use Rattle.record_definitions.specs.Answer.{result_of}
use Rattle.record_definitions.specs.OneFrame.{after_frame, said_of_frame}
use Rattle.record_definitions.proofs.PieceTests.{nth_test, each_accepted, piece_kept, past_kept, all_said}
use Rattle.record_definitions.proofs.Pairs.{test_seen, said_at, test_keeps_bodies}
use Rattle.record_definitions.proofs.Pairs.{test_keeps_other_pairs, test_writes_its_pair}
use Rattle.record_definitions.proofs.States.{count_of, states_are_box2ds, first_state, second_state, no_first_state}
use Rattle.record_definitions.proofs.States.{no_second_state}
use Rattle.record_definitions.proofs.Counting.{states_printed, touches_printed, count_printed, ids_kept}
use Rattle.record_definitions.proofs.Counting.{touches_kept, first_printed, second_printed, contact_taken}
use Rattle.record_definitions.proofs.Counting.{met_few}
use Rattle.record_definitions.proofs.Rulebook.{counted_by_rulebook}
use Rattle.record_definitions.proofs.MetPlaces.{met_two}
use Rattle.record_definitions.proofs.Again.{change_again, counts_no_more}
use Rattle.record_definitions.proofs.Sound.{Sound, some_piece}

-- ---- a test that answers
module _ (w : World) (frame : List ℕ) (t : Touch) (is : (said_of_frame w frame).answer ≡ Tested t) where
  abbrev a : ℕ
  a = byte_at frame 1

  abbrev b : ℕ
  b = byte_at frame 2

  -- it changes no body and no other pair
  pub test_changes_no_body : (after_frame w frame).bodies ≡ w.bodies
  test_changes_no_body = test_keeps_bodies w frame t is

  pub test_changes_no_other_pair : (x y : ℕ) → x ≤ largest_id → y ≤ largest_id → (x ≡ a → y ≡ b → ⊥)
      → pair_at (after_frame w frame) x y ≡ pair_at w x y
  test_changes_no_other_pair x y x_small y_small other = test_keeps_other_pairs w frame t is x y x_small y_small other

  -- the ids of the two bodies are printed, for every piece (`names_printed`) and so for the first
  pub ids_printed : (t.a ≡ a) × (t.b ≡ b)
  unfolding piece_tested
  ids_printed =
      let first = (test_seen w frame t is).touch_is in
      let piece = piece_of (body_at w a) 0 in (
        ap (λ (s : Touch). s.a) first ∙ first_printed piece (body_at w b) a b (kept_of (pair_at w a b) 0),
        ap (λ (s : Touch). s.b) first ∙ second_printed piece (body_at w b) a b (kept_of (pair_at w a b) 0),
      )

  -- what the pair keeps of pieces that the body has not stays
  pub other_pieces_kept : Sound w → (i : ℕ) → pieces_of (body_at w a) ≤ i
      → kept_of (pair_at (after_frame w frame) a b) i ≡ kept_of (pair_at w a b) i
  other_pieces_kept sound i past =
      ap (λ (pair : Pair). kept_of pair i) (test_writes_its_pair w frame t is sound.pairs_size)
      ∙ past_kept a b (body_at w a) (body_at w b) (pair_at w a b) i (some_piece (body_at w a) (sound.each a)).0 past

  -- it says a result for each piece, in order
  pub a_result_a_piece : touches_said (said_of_frame w frame)
      ≡ results_of (all_tests a b (body_at w a) (body_at w b) (pair_at w a b))
  unfolding said_of_frame
  a_result_a_piece =
      ap touches_said (test_seen w frame t is).said_is
      ∙ all_said a b (body_at w a) (body_at w b) (pair_at w a b)

  -- and prints a line for each
  pub a_line_a_piece : said_line (said_of_frame w frame)
      ≡ touch_lines (results_of (all_tests a b (body_at w a) (body_at w b) (pair_at w a b)))
  unfolding said_of_frame touch_lines
  a_line_a_piece =
      let first = (piece_tested a b (body_at w a) (body_at w b) (pair_at w a b) 0).touch in
      ap said_line (test_seen w frame t is).said_is
      ∙ ap (λ (l : List Touch). line_of (touch_bytes first) ++ touch_lines l)
      (take-append_seam (results_of (further_tests a b (body_at w a) (body_at w b) (pair_at w a b))) _)

  -- ---- each piece, by itself: a body that is no chain is its own only piece
  module _ (i : ℕ) (within : i < pieces_of (body_at w a)) where
    abbrev piece : Body
    piece = piece_of (body_at w a) i

    -- what the pair keeps of it, before and after
    abbrev before : Kept
    before = kept_of (pair_at w a b) i

    abbrev later : Kept
    later = kept_of (pair_at (after_frame w frame) a b) i

    -- the result that is said of it
    abbrev shown : Touch
    shown = result_of (said_of_frame w frame) i

    -- its contact with the other body
    abbrev contact : B2manifold
    contact = (meet piece (body_at w b)).manifold

    -- what is said and kept is that of a test of the piece alone
    pub tested_by_itself : shown ≡ (tested a b piece (body_at w b) before).touch
    unfolding piece_tested
    tested_by_itself =
        ap (λ (l : List Touch). get_or l i blank_touch) a_result_a_piece
        ∙ nth_test a b (body_at w a) (body_at w b) (pair_at w a b) (λ (answer : TestAnswer). answer.touch) blank_touch
        i within

    pub kept_by_itself : length w.pairs ≡ 64 → later ≡ (tested a b piece (body_at w b) before).kept
    unfolding piece_tested
    kept_by_itself size =
        ap (λ (pair : Pair). kept_of pair i) (test_writes_its_pair w frame t is size)
        ∙ piece_kept a b (body_at w a) (body_at w b) (pair_at w a b) i within

    not_refused : (tested a b piece (body_at w b) before).refusal ≡ accepted
    unfolding piece_tested
    not_refused =
        each_accepted a b (body_at w a) (body_at w b) (pair_at w a b) (test_seen w frame t is).not_refused i within

    -- the ids that are kept are those of this contact
    pub test_keeps_ids : length w.pairs ≡ 64 → later.ids ≡ ids_of contact
    test_keeps_ids size = rw (kept_by_itself size) (ids_kept piece (body_at w b) a b before)

    -- the count is the rulebook's, from the points and the count that were kept and the points of this contact; the
    -- count that is printed is kept
    touches_so : shown.touches ≡ touches_after before.touches before.ids.count contact.point_count
    touches_so = ap (λ (s : Touch). s.touches) tested_by_itself ∙ touches_printed piece (body_at w b) a b before

    pub touch_by_rulebook : Rulebook before.ids.count contact.point_count before.touches shown.touches
    touch_by_rulebook =
        subst (Rulebook before.ids.count contact.point_count before.touches) (sym touches_so)
        (counted_by_rulebook before.touches before.ids.count contact.point_count)

    pub test_keeps_touches : length w.pairs ≡ 64 → later.touches ≡ shown.touches
    test_keeps_touches size =
        ap (λ (k : Kept). k.touches) (kept_by_itself size)
        ∙ touches_kept piece (body_at w b) a b before ∙ ap (λ (s : Touch). s.touches) (sym tested_by_itself)

    -- the ids of the two bodies are printed, and as many points as the contact counts, at most two
    pub names_printed : (shown.a ≡ a) × (shown.b ≡ b)
    names_printed = (
      ap (λ (s : Touch). s.a) tested_by_itself ∙ first_printed piece (body_at w b) a b before,
      ap (λ (s : Touch). s.b) tested_by_itself ∙ second_printed piece (body_at w b) a b before,
    )

    pub points_printed : (shown.count ≡ contact.point_count) × (contact.point_count ≤ 2)
    points_printed =
        let printed = count_printed piece (body_at w b) a b before not_refused in
        (ap (λ (s : Touch). s.count) tested_by_itself ∙ printed.0, printed.1)

    -- a point's state: persist where its id is among those of the last contact, else add
    states_so : shown.states ≡ states_of before contact
    states_so = ap (λ (s : Touch). s.states) tested_by_itself ∙ states_printed piece (body_at w b) a b before

    pub first_point_state : 0 < contact.point_count
        → shown.states.new0
        ≡ cond (id_among (ids_of contact).first (ids_in before.ids)) B2PersistState B2AddState
    unfolding states_of
    first_point_state some =
        ap (λ (s : PointStates). s.new0) states_so
        ∙ first_state (ids_in before.ids) (ids_of contact) contact.point_count (count_of contact points_printed.1) some

    pub second_point_state : 1 < contact.point_count
        → shown.states.new1
        ≡ cond (id_among (ids_of contact).second (ids_in before.ids)) B2PersistState B2AddState
    unfolding states_of
    second_point_state some =
        ap (λ (s : PointStates). s.new1) states_so
        ∙ second_state (ids_in before.ids) (ids_of contact) contact.point_count (count_of contact points_printed.1) some

    -- a place past the points is in state null
    pub no_point_states : (contact.point_count ≡ 0 → shown.states.new0 ≡ B2NullState)
        × (contact.point_count ≤ 1 → shown.states.new1 ≡ B2NullState)
    unfolding states_of
    no_point_states =
        let old = ids_in before.ids in (
          λ none. ap (λ (s : PointStates). s.new0) states_so
              ∙ no_first_state old (ids_of contact) (count_of contact points_printed.1 ∙ none),
          λ few. ap (λ (s : PointStates). s.new1) states_so
              ∙ no_second_state old (ids_of contact) contact.point_count
              (count_of contact points_printed.1) few,
        )

    -- the states are those of b2_get_point_states on the last contact, a default manifold at first, and this one
    pub states_as_box2d : (given : PointStates) (sound : Sound w)
        → b2_get_point_states given ((sound.each_pair (pair_place a b)).piece i).last contact
        ≡ record { states = shown.states; refusal = accepted }
    unfolding states_of
    states_as_box2d given sound =
        let met = contact_taken piece (body_at w b) a b before not_refused in
        let kept = (sound.each_pair (pair_place a b)).piece i in
        states_are_box2ds given kept.last contact kept.two_places
        (met_two piece (body_at w b)) kept.few
        (met_few piece (body_at w b) met).at_most_two
        ∙ ap (λ (states : PointStates). record { states = states; refusal = accepted })
        (rw (← kept.ids_are) (sym states_so))

  -- sent again at once, the test answers again and counts nothing more
  again : Touch
  again = (piece_tested a b (body_at w a) (body_at w b) (pair_at (after_frame w frame) a b) 0).touch

  answers_again : (said_of_frame (after_frame w frame) frame).answer ≡ Tested again
  unfolding again
  answers_again =
      let next = pair_at (after_frame w frame) a b in
      ap (λ (said : Said). said.answer) (said_at w frame t is (after_frame w frame))
      ∙ ap (λ (l : List Body). (change (get_or l a blank_body) (get_or l b blank_body) next frame).said.answer)
      (test_keeps_bodies w frame t is)
      ∙ change_again (body_at w a) (body_at w b) (pair_at w a b) next frame t
      (sym (ap (λ (said : Said). said.answer) (said_at w frame t is w)) ∙ is)

pub repeated_test_counts_nothing : (w : World) (frame : List ℕ) (t : Touch)
    → (said_of_frame w frame).answer ≡ Tested t → length w.pairs ≡ 64
    → (u : Touch) × ((said_of_frame (after_frame w frame) frame).answer ≡ Tested u)
    × ((i : ℕ) → i < pieces_of (body_at w (byte_at frame 1))
    → (result_of (said_of_frame (after_frame w frame) frame) i).touches ≡ (result_of (said_of_frame w frame) i).touches)
repeated_test_counts_nothing w frame t is size =
    (again w frame t is, answers_again w frame t is, λ i within. counts_no_more_again i within)
  where
    first : ℕ
    first = byte_at frame 1

    second : ℕ
    second = byte_at frame 2

    counts_no_more_again : (i : ℕ) → i < pieces_of (body_at w first)
        → (result_of (said_of_frame (after_frame w frame) frame) i).touches
        ≡ (result_of (said_of_frame w frame) i).touches
    counts_no_more_again i within =
        let bodies = test_keeps_bodies w frame t is in
        let same : body_at (after_frame w frame) first ≡ body_at w first =
        ap (λ (l : List Body). get_or l first blank_body) bodies in
        let other : body_at (after_frame w frame) second ≡ body_at w second =
        ap (λ (l : List Body). get_or l second blank_body) bodies in
        let piece = piece_of (body_at w first) i in
        ap (λ (s : Touch). s.touches)
        (tested_by_itself (after_frame w frame) frame (again w frame t is) (answers_again w frame t is) i
        (rw same within))
        ∙ ap (λ (body : Body). (tested first second (piece_of body i) (body_at (after_frame w frame) second)
        (kept_of (pair_at (after_frame w frame) first second) i)).touch.touches) same
        ∙ ap (λ (body : Body). (tested first second piece body
        (kept_of (pair_at (after_frame w frame) first second) i)).touch.touches) other
        ∙ ap (λ (kept : Kept). (tested first second piece (body_at w second) kept).touch.touches)
        (kept_by_itself w frame t is i within size)
        ∙ counts_no_more first second piece (body_at w second) (kept_of (pair_at w first second) i)
        (points_printed w frame t is i within).1
        ∙ ap (λ (s : Touch). s.touches) (sym (tested_by_itself w frame t is i within))
