-- What one frame does to what a pair remembers of a piece (`Remembers`): an accepted shape of either id leaves a fresh
-- pair, an accepted test of the pair leaves the contact and the count of each piece that the first body has, and no
-- other frame changes the pair. Assumes nothing.
use Prim.Native.Nat.{ℕ, ◌≤◌}
use mathlib.Core.Path.{◌≡◌, refl, sym, ◌∙◌, ap}
use mathlib.Core.Bool.{Bool, true, false, ◌&&◌, ◌||◌, false≢true}
use mathlib.Core.List.{List, [], ◌∷◌}
use mathlib.Core.Logic.{◌⊎◌, inl, inr}
use native.Mathlib.Omega.{arith}
use lib.Dec.{eqb}
use lib.ListN.{get_or}
use borrow.Author.Tests.{eqb-true, eqb-false, eq-eqb, ltb-true, ltb-false}
use Rattle.algebra.proofs.Booleans.{both, by_test, or_holds, or_fails}
use Rattle.lines.specs.Fields.{byte_at}
use Rattle.shape_definitions.specs.Refusal.{accepted}
use Rattle.contact_definitions.specs.declared.b2_collision.B2manifold.{B2manifold}
use Rattle.contact_definitions.proofs.Counts.{either}
use Rattle.record_definitions.specs.declared.world.Body.{Body}
use Rattle.record_definitions.specs.declared.world.Kept.{Kept}
use Rattle.record_definitions.specs.declared.world.Pair.{Pair}
use Rattle.record_definitions.specs.declared.world.World.{World}
use Rattle.record_definitions.specs.declared.touch.Touch.{Touch}
use Rattle.record_definitions.specs.declared.frame.Answer.{Answer}
use Rattle.record_definitions.specs.declared.frame.Answer.TheVariants.{Accepted, Refused, Tested}
use Rattle.record_definitions.specs.declared.frame.Change.{Change}
use Rattle.record_definitions.specs.World.{fresh_pair, body_at, pair_at, pair_place, pieces_of}
use Rattle.record_definitions.specs.World.{kept_of}
use Rattle.record_definitions.specs.Ages.{next_age}
use Rattle.record_definitions.specs.Touch.{piece_tested, first_refusal}
use Rattle.record_definitions.specs.Frame.{largest_id, test_refusal, all_tests, test_change, change_of_kind}
use Rattle.record_definitions.specs.OneFrame.{first_place, second_place, change_in, after_frame, said_of_frame}
use Rattle.record_definitions.specs.Export.{answer_refusal}
use Rattle.record_definitions.specs.Heat.{defines_shape, with_answer, piece_there, contact_in}
use Rattle.record_definitions.proofs.HeatTests.{Remembers, nothing_remembered, test_remembered}
use Rattle.record_definitions.proofs.Refusing.{after_refused}
use Rattle.record_definitions.proofs.Changes.{NewShape, Placing, by_choice, is_of_kind}
use Rattle.record_definitions.proofs.SoundKept.{frame_keeps_sound}
use Rattle.record_definitions.proofs.Theorem.{new_shape_forgets, new_shape_keeps_others, placing_changes_no_pair}
use Rattle.record_definitions.proofs.TestTheorem.{test_changes_no_other_pair, ids_printed, other_pieces_kept}
use Rattle.record_definitions.proofs.Sound.{kept_of_fresh}

-- ---- an accepted frame defines a shape or places a body
NotAccepted : Change → Type 0
NotAccepted c = c.said.answer ≡ Accepted → ⊥

refused_not : (c : Change) (n : ℕ) → c.said.answer ≡ Refused n → NotAccepted c
unfolding NotAccepted
refused_not c n is taken = let never : ◌≡◌ {A = ℕ} 0 1 = cc in omega arith

tested_not : (c : Change) (t : Touch) → c.said.answer ≡ Tested t → NotAccepted c
unfolding NotAccepted
tested_not c t is taken = let never : ◌≡◌ {A = ℕ} 0 1 = cc in omega arith

test_not : (ida idb : ℕ) (a b : Body) (pair : Pair) → NotAccepted (test_change ida idb a b pair)
unfolding test_change
test_not ida idb a b pair =
    let number = test_refusal ida idb a.kind b.kind in
    let refusal = first_refusal (all_tests ida idb a b pair) in
    either NotAccepted (eqb number accepted) _ _
    (either NotAccepted (eqb refusal accepted) _ _ (tested_not _ (piece_tested ida idb a b pair 0).touch refl)
    (refused_not _ refusal refl))
    (refused_not _ number refl)

Kinds : ℕ → Type 0
Kinds kind = NewShape kind ⊎ Placing kind

kind_accepted : (kind : ℕ) (a b : Body) (pair : Pair) (bytes : List ℕ)
    → (change_of_kind kind a b pair bytes).said.answer ≡ Accepted → Kinds kind
unfolding change_of_kind Kinds NotAccepted
kind_accepted kind a b pair bytes =
    by_choice Says (eqb kind 1) _ _ (λ one taken. inl (inl (eqb-true kind 1 one)))
    (λ no_1. by_choice Says (eqb kind 2) _ _ (λ two taken. inl (inr (inl (eqb-true kind 2 two))))
    (λ no_2. by_choice Says (eqb kind 3) _ _ (λ three taken. inl (inr (inr (inl (eqb-true kind 3 three)))))
    (λ no_3. by_choice Says (eqb kind 4) _ _ (λ four taken. inr (inl (eqb-true kind 4 four)))
    (λ no_4. by_choice Says (eqb kind 6) _ _ (λ six taken. inr (inr (eqb-true kind 6 six)))
    (λ no_6. by_choice Says (eqb kind 7) _ _ (λ seven taken. inl (inr (inr (inr (eqb-true kind 7 seven)))))
    (λ no_7 taken. absurd (test_not (byte_at bytes 1) (byte_at bytes 2) a b pair taken)))))))
  where
    Says : Change → Type 0
    Says c = c.said.answer ≡ Accepted → Kinds kind

accepted_kind : (w : World) (frame : List ℕ) → (said_of_frame w frame).answer ≡ Accepted → Kinds (byte_at frame 0)
unfolding said_of_frame change_in
accepted_kind w frame taken =
    let a = body_at w (first_place frame) in
    let b = body_at w (second_place frame) in
    let pair = pair_at w (first_place frame) (second_place frame) in
    kind_accepted (byte_at frame 0) a b pair frame
    (ap (λ (c : Change). c.said.answer) (sym (is_of_kind a b pair frame (ap answer_refusal taken))) ∙ taken)

-- ---- the tests of `with_answer`
first_two : (kind : ℕ) → (eqb kind 1 ≡ true) ⊎ (eqb kind 2 ≡ true) → NewShape kind
first_two kind (inl one) = inl (eqb-true kind 1 one)
first_two kind (inr two) = inr (inl (eqb-true kind 2 two))

all_three : (kind : ℕ) → (eqb kind 1 || eqb kind 2 ≡ true) ⊎ (eqb kind 3 ≡ true) → NewShape kind
all_three kind (inl earlier) = first_two kind (or_holds (eqb kind 1) (eqb kind 2) earlier)
all_three kind (inr three) = inr (inr (inl (eqb-true kind 3 three)))

all_four : (kind : ℕ) → (eqb kind 1 || eqb kind 2 || eqb kind 3 ≡ true) ⊎ (eqb kind 7 ≡ true) → NewShape kind
all_four kind (inl earlier) = all_three kind (or_holds (eqb kind 1 || eqb kind 2) (eqb kind 3) earlier)
all_four kind (inr seven) = inr (inr (inr (eqb-true kind 7 seven)))

shape_defined : (frame : List ℕ) → defines_shape frame ≡ true → NewShape (byte_at frame 0)
shape_defined frame is =
    let kind = byte_at frame 0 in
    all_four kind (or_holds (eqb kind 1 || eqb kind 2 || eqb kind 3) (eqb kind 7) is)

defined_shape : (frame : List ℕ) → NewShape (byte_at frame 0) → defines_shape frame ≡ true
defined_shape frame (inl one) = rw one refl
defined_shape frame (inr (inl two)) = rw two refl
defined_shape frame (inr (inr (inl three))) = rw three refl
defined_shape frame (inr (inr (inr seven))) = rw seven refl

-- ---- one frame
module _ (a b i : ℕ) (a_small : a ≤ largest_id) (b_small : b ≤ largest_id) (w : World) (frame : List ℕ)
    (contacts : List B2manifold) (before : Remembers a b i w contacts) where
  abbrev After : List B2manifold → Type 0
  After later = Remembers a b i (after_frame w frame) later

  -- where what is kept of the piece is as it was
  kept_same : kept_of (pair_at (after_frame w frame) a b) i ≡ kept_of (pair_at w a b) i → After contacts
  kept_same same = record {
    sound = frame_keeps_sound w frame before.sound;
    whole = before.whole;
    ids = ap (λ (kept : Kept). kept.ids) same ∙ before.ids;
    touches = ap (λ (kept : Kept). kept.touches) same ∙ before.touches;
    ages = λ id. ap (λ (kept : Kept). next_age kept id) same ∙ before.ages id;
  }

  unchanged : pair_at (after_frame w frame) a b ≡ pair_at w a b → After contacts
  unchanged same = kept_same (ap (λ (pair : Pair). kept_of pair i) same)

  -- a new shape of either id
  forgotten : pair_at (after_frame w frame) a b ≡ fresh_pair → After []
  forgotten fresh =
      nothing_remembered a b i (after_frame w frame) (frame_keeps_sound w frame before.sound)
      (ap (λ (pair : Pair). kept_of pair i) fresh ∙ kept_of_fresh i)

  module _ (taken : (said_of_frame w frame).answer ≡ Accepted) where
    either_id : NewShape (byte_at frame 0) → (eqb (byte_at frame 1) a ≡ true) ⊎ (eqb (byte_at frame 1) b ≡ true)
        → pair_at (after_frame w frame) a b ≡ fresh_pair
    either_id new (inl first) =
        rw (← eqb-true (byte_at frame 1) a first) (new_shape_forgets w frame new taken b b_small).0
    either_id new (inr second) =
        rw (← eqb-true (byte_at frame 1) b second) (new_shape_forgets w frame new taken a a_small).1

    shape_there : defines_shape frame && (eqb (byte_at frame 1) a || eqb (byte_at frame 1) b) ≡ true → After []
    shape_there is =
        let each = both (defines_shape frame) (eqb (byte_at frame 1) a || eqb (byte_at frame 1) b) is in
        forgotten (either_id (shape_defined frame each.0)
        (or_holds (eqb (byte_at frame 1) a) (eqb (byte_at frame 1) b) each.1))

    no_shape_there : defines_shape frame && (eqb (byte_at frame 1) a || eqb (byte_at frame 1) b) ≡ false
        → Kinds (byte_at frame 0) → pair_at (after_frame w frame) a b ≡ pair_at w a b
    unfolding Kinds
    no_shape_there not_both (inl new) =
        let neither = or_fails (eqb (byte_at frame 1) a) (eqb (byte_at frame 1) b)
        (rw (defined_shape frame new) at not_both) in
        new_shape_keeps_others w frame new taken a b a_small b_small
        (λ same. eqb-false (byte_at frame 1) a neither.0 (sym same))
        (λ same. eqb-false (byte_at frame 1) b neither.1 (sym same))
    no_shape_there not_both (inr placing) =
        ap (λ (pairs : List Pair). get_or pairs (pair_place a b) fresh_pair) (placing_changes_no_pair w frame placing)

    after_accepted : (there : Bool) (contact : B2manifold)
        → After (with_answer a b i Accepted frame there contact contacts)
    after_accepted there contact =
        by_choice After (defines_shape frame && (eqb (byte_at frame 1) a || eqb (byte_at frame 1) b)) _ _ shape_there
        (λ not_both. unchanged (no_shape_there not_both (accepted_kind w frame taken)))

  after_refusal : (n : ℕ) → (said_of_frame w frame).answer ≡ Refused n → After contacts
  after_refusal n is = unchanged (ap (λ (v : World). pair_at v a b) (after_refused w frame n is))

  -- a test that answers
  module _ (t : Touch) (is : (said_of_frame w frame).answer ≡ Tested t) where
    other_test : eqb t.a a && eqb t.b b ≡ false → After contacts
    other_test not_both =
        unchanged (test_changes_no_other_pair w frame t is a b a_small b_small
        (λ first second. false≢true (sym not_both ∙ simp (
          eq-eqb t.a a ((ids_printed w frame t is).0 ∙ sym first),
          eq-eqb t.b b ((ids_printed w frame t is).1 ∙ sym second),
        ))))

    module _ (is_both : eqb t.a a && eqb t.b b ≡ true) where
      first_is : byte_at frame 1 ≡ a
      first_is =
          sym (ids_printed w frame t is).0 ∙ eqb-true t.a a (both (eqb t.a a) (eqb t.b b) is_both).0

      second_is : byte_at frame 2 ≡ b
      second_is =
          sym (ids_printed w frame t is).1 ∙ eqb-true t.b b (both (eqb t.a a) (eqb t.b b) is_both).1

      this_test : piece_there a b i w ≡ true → After (contact_in a b i w ∷ contacts)
      this_test there =
          test_remembered a b i w contacts before frame t is first_is second_is
          (ltb-true i (pieces_of (body_at w a)) there)

      -- a piece that the first body does not have
      no_piece : piece_there a b i w ≡ false → After contacts
      no_piece not_there =
          kept_same (rw (first_is, second_is) at (other_pieces_kept w frame t is before.sound i
          (rw first_is (ltb-false i (pieces_of (body_at w a)) not_there))))

    after_test : After (with_answer a b i (Tested t) frame (piece_there a b i w) (contact_in a b i w) contacts)
    after_test =
        by_choice After (eqb t.a a && eqb t.b b && piece_there a b i w) _ _
        (λ all. let each = both (eqb t.a a && eqb t.b b) (piece_there a b i w) all in
        this_test each.0 each.1)
        (λ not_all. by_test (eqb t.a a && eqb t.b b)
        (λ is_both. no_piece is_both (rw is_both at not_all))
        other_test)

  -- any frame, by its answer
  pub frame_remembered : (answer : Answer) → (said_of_frame w frame).answer ≡ answer
      → After (with_answer a b i answer frame (piece_there a b i w) (contact_in a b i w) contacts)
  frame_remembered Accepted taken = after_accepted taken (piece_there a b i w) (contact_in a b i w)
  frame_remembered (Refused n) is = after_refusal n is
  frame_remembered (Tested t) is = after_test t is
