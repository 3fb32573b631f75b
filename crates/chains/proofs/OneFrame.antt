-- One frame whose first body is a chain in the one world and its piece i, a wall, in the other: it makes the same new
-- shape of both (`Renewed`), or leaves the one a chain and the other its piece, and says of a test that piece's result
-- (`StillSeen`). Assumes nothing.
use Prim.Native.Nat.{ℕ, ◌≤◌, ◌<◌}
use mathlib.Core.Path.{◌≡◌, refl, sym, ◌∙◌, ap, subst}
use mathlib.Core.Bool.{Bool, true, false, cond, false≢true}
use mathlib.Core.List.{List, [], ◌∷◌}
use mathlib.Core.Logic.{◌⊎◌, inl, inr, ⊎_elim}
use lib.Dec.{eqb}
use lib.ListN.{get_or, replicate}
use borrow.Author.Tests.{eqb-true}
use Rattle.algebra.proofs.Booleans.{by_test}
use Rattle.lines.specs.Fields.{byte_at, points_at}
use Rattle.shape_definitions.specs.Circle.{circle_in_range}
use Rattle.shape_definitions.specs.Polygon.{b2_polygon_shape_set}
use Rattle.shape_definitions.specs.Refusal.{accepted, shape_out_of_range}
use Rattle.record_definitions.specs.declared.world.Body.{Body}
use Rattle.record_definitions.specs.declared.world.Kept.{Kept}
use Rattle.record_definitions.specs.declared.world.Pair.{Pair}
use Rattle.record_definitions.specs.declared.touch.TestAnswer.{TestAnswer}
use Rattle.record_definitions.specs.declared.touch.Touch.{Touch}
use Rattle.record_definitions.specs.declared.frame.Change.{Change}
use Rattle.record_definitions.specs.World.{wall_kind, chain_kind, blank_outline, wall_body, placed, piece_wall}
use Rattle.record_definitions.specs.World.{pieces_of, fresh_kept, kept_of}
use Rattle.record_definitions.specs.Touch.{tested, piece_tested, pieces_tested, first_refusal}
use Rattle.record_definitions.specs.Answer.{blank_touch, said_of_touches, result_of}
use Rattle.record_definitions.specs.Frame.{largest_id, frame_refusal, refused, circle_at}
use Rattle.record_definitions.specs.Frame.{circle_change, outline_change, wall_at, wall_change, chain_refusal}
use Rattle.record_definitions.specs.Frame.{chain_change}
use Rattle.record_definitions.specs.Frame.{listed, test_refusal, further_tests, all_tests}
use Rattle.record_definitions.specs.Frame.{results_of, keep, test_answered, test_change, change_of_kind, change}
use Rattle.record_definitions.proofs.FrameRefusals.{last_kind, known_kind, first_known}
use Rattle.record_definitions.proofs.PieceTests.{nth_test, piece_kept, all_said}
use Rattle.record_definitions.proofs.Sound.{SoundBody}
use Rattle.record_definitions.proofs.SoundFrames.{listed_by}
use Rattle.record_ranges.proofs.Bodies.{CappedBody}
use Rattle.chains.specs.ChainAsWalls.{piece_alone}
use Rattle.chains.proofs.Refusals.{refusal_by, refused_alike, all_refused_alike}
use Rattle.chains.proofs.Outcomes.{piece_pair, StillSeen, Outcome, both_ways, refused_as_wall, refused_as_own}
use Rattle.chains.proofs.Outcomes.{piece_of_piece}
use Rattle.chains.proofs.ShapeFrames.{piece_is, refused_seen, shape_seen, place_seen, turn_seen}

-- ---- the first body: a chain, and its piece
module _ (a : Body) (chain : a.kind ≡ chain_kind) (i : ℕ) (within : i < pieces_of a) (pair : Pair) where
  abbrev piece : Body
  piece = placed (wall_body (piece_wall a.chain i)) a.xf

  module _ (bytes : List ℕ) (test : Bool) where
    -- ---- a test, of the body whose id is named second: the same in both worlds, or the chain and the piece themselves
    module _ (b b' : Body) (second : (b' ≡ b) ⊎ ((b.kind ≡ chain_kind) × (b'.kind ≡ wall_kind))) (ida idb : ℕ) where
      same_number : test_refusal ida idb a.kind b.kind ≡ test_refusal ida idb piece.kind b'.kind
      unfolding placed wall_body
      same_number =
          ap (λ (kind : ℕ). test_refusal ida idb kind b.kind) chain ∙ ⊎_elim as_same as_own second
        where
          as_same : b' ≡ b → test_refusal ida idb chain_kind b.kind ≡ test_refusal ida idb wall_kind b'.kind
          as_same same =
              refused_as_wall ida idb b.kind
              ∙ ap (λ (body : Body). test_refusal ida idb wall_kind body.kind) (sym same)

          as_own : (b.kind ≡ chain_kind) × (b'.kind ≡ wall_kind)
              → test_refusal ida idb chain_kind b.kind ≡ test_refusal ida idb wall_kind b'.kind
          as_own own =
              ap (test_refusal ida idb chain_kind) own.0 ∙ refused_as_own ida idb
              ∙ ap (test_refusal ida idb wall_kind) (sym own.1)

    -- the two tests where nothing speaks against them
    module _ (b : Body) (a_sound : SoundBody a) (b_sound : SoundBody b) (a_caps : CappedBody a) (b_caps : CappedBody b)
        (is_listed : listed a.kind b.kind ≡ true) (ida idb : ℕ) where
      alone : piece_tested ida idb piece b (piece_pair i pair) 0 ≡ piece_tested ida idb a b pair i
      unfolding piece_tested
      alone =
          ap (λ (body : Body). tested ida idb body b (kept_of pair i))
          (piece_of_piece a.chain i a.xf ∙ sym (piece_is a chain i within pair))

      first_of_one : (n : ℕ) → n ≡ refusal_by b → cond (eqb n accepted) accepted n ≡ refusal_by b
      first_of_one n is =
          by_test (eqb n accepted) (λ taken. rw taken (sym (eqb-true n accepted taken) ∙ is)) (λ other. rw other is)

      chain_number : first_refusal (all_tests ida idb a b pair) ≡ refusal_by b
      chain_number = all_refused_alike a b chain a_sound b_sound a_caps b_caps is_listed ida idb pair

      wall_number : first_refusal (all_tests ida idb piece b (piece_pair i pair)) ≡ refusal_by b
      unfolding first_refusal pieces_tested placed wall_body
      wall_number =
          first_of_one (piece_tested ida idb piece b (piece_pair i pair) 0).refusal
          (ap (λ (t : TestAnswer). t.refusal) alone
          ∙ refused_alike a b chain a_sound b_sound a_caps b_caps is_listed i within ida idb pair)

      chain_answers : Change
      chain_answers = record {
        said = said_of_touches (piece_tested ida idb a b pair 0).touch (results_of (further_tests ida idb a b pair));
        body = a;
        pair = keep (all_tests ida idb a b pair) pair;
        forget = false;
      }

      wall_answers : Change
      wall_answers = record {
        said = said_of_touches (piece_tested ida idb piece b (piece_pair i pair) 0).touch [];
        body = piece;
        pair = keep (piece_tested ida idb piece b (piece_pair i pair) 0 ∷ []) (piece_pair i pair);
        forget = false;
      }

      shown : (piece_tested ida idb piece b (piece_pair i pair) 0).touch
          ≡ result_of chain_answers.said i
      unfolding chain_answers
      shown =
          ap (λ (t : TestAnswer). t.touch) alone
          ∙ sym (nth_test ida idb a b pair (λ (t : TestAnswer). t.touch) blank_touch i within)
          ∙ ap (λ (l : List Touch). get_or l i blank_touch) (sym (all_said ida idb a b pair))

      answers_seen : byte_at bytes 0 ≡ 5 → test ≡ true → StillSeen bytes i test chain_answers wall_answers
      unfolding chain_answers wall_answers piece_alone
      answers_seen five is_test = record {
        not_new = rw five refl;
        said = rw is_test (ap (λ (t : Touch). said_of_touches t []) shown);
        body = sym (piece_is a chain i within pair);
        chain = chain;
        piece = within;
        pair =
            ap (λ (k : Kept). record { pieces = k ∷ replicate 6 fresh_kept })
            (ap (λ (t : TestAnswer). t.kept) alone ∙ sym (piece_kept ida idb a b pair i within));
        keeps = refl;
        keeps' = refl;
      }

      answered_seen : byte_at bytes 0 ≡ 5 → test ≡ true
          → Outcome bytes i test
          (test_answered a pair (piece_tested ida idb a b pair 0) (further_tests ida idb a b pair))
          (test_answered piece (piece_pair i pair) (piece_tested ida idb piece b (piece_pair i pair) 0)
          (further_tests ida idb piece b (piece_pair i pair)))
      unfolding chain_answers wall_answers pieces_tested placed wall_body
      answered_seen five is_test =
          rw (chain_number, wall_number)
          (both_ways bytes i test (eqb (refusal_by b) accepted) chain_answers (refused (refusal_by b) a pair)
          wall_answers (refused (refusal_by b) piece (piece_pair i pair)) (λ taken. inr (answers_seen five is_test))
          (λ other. refused_seen a chain i within pair bytes test (refusal_by b) other))

    -- ---- any frame
    module _ (b b' : Body) (second : (b' ≡ b) ⊎ ((b.kind ≡ chain_kind) × (b'.kind ≡ wall_kind)))
        (a_sound : SoundBody a) (b_sound : SoundBody b) (a_caps : CappedBody a) (b_caps : CappedBody b)
        (is_test : byte_at bytes 0 ≡ 5 → byte_at bytes 1 ≤ largest_id → test ≡ true) where
      -- a chain is tested with another body alone
      other_body : (b' ≡ b) ⊎ ((b.kind ≡ chain_kind) × (b'.kind ≡ wall_kind)) → listed a.kind b.kind ≡ true
          → b' ≡ b
      unfolding listed
      other_body (inl same) is_listed = same
      other_body (inr own) is_listed =
          let never : listed chain_kind chain_kind ≡ true = rw (chain, own.0) at is_listed in
          absurd (false≢true never)

      test_seen : (ida idb : ℕ) → byte_at bytes 0 ≡ 5 → test ≡ true
          → Outcome bytes i test (test_change ida idb a b pair) (test_change ida idb piece b' (piece_pair i pair))
      unfolding test_change
      test_seen ida idb five is =
          let number = test_refusal ida idb a.kind b.kind in
          let wall_test : Body → Change = λ body. test_answered piece (piece_pair i pair)
          (piece_tested ida idb piece body (piece_pair i pair) 0)
          (further_tests ida idb piece body (piece_pair i pair)) in
          subst (λ (n : ℕ). Outcome bytes i test (test_change ida idb a b pair)
          (cond (eqb n accepted) (wall_test b') (refused n piece (piece_pair i pair))))
          (same_number b b' second ida idb)
          (both_ways bytes i test (eqb number accepted) _ _ (wall_test b') (refused number piece (piece_pair i pair))
          (λ none. let is_listed = listed_by ida idb a.kind b.kind _ _ _ refl refl refl
          (eqb-true number accepted none) in
          subst (λ (body : Body). Outcome bytes i test
          (test_answered a pair (piece_tested ida idb a b pair 0) (further_tests ida idb a b pair)) (wall_test body))
          (sym (other_body second is_listed))
          (answered_seen b a_sound b_sound a_caps b_caps is_listed ida idb five is))
          (λ against. refused_seen a chain i within pair bytes test number against))

      kind_seen : frame_refusal bytes ≡ accepted
          → Outcome bytes i test (change_of_kind (byte_at bytes 0) a b pair bytes)
          (change_of_kind (byte_at bytes 0) piece b' (piece_pair i pair) bytes)
      unfolding change_of_kind circle_change outline_change wall_change chain_change
      kind_seen taken =
          let kind = byte_at bytes 0 in
          let named = first_known bytes taken in
          let outline = b2_polygon_shape_set blank_outline (points_at bytes 3 (byte_at bytes 2)) in
          both_ways bytes i test (eqb kind 1) _ _ _ _
          (λ one. shape_seen a chain i within pair bytes test (circle_in_range (circle_at bytes)) _ shape_out_of_range named (rw one refl) (λ out. refl))
          (λ no_1. both_ways bytes i test (eqb kind 2) _ _ _ _
          (λ two. shape_seen a chain i within pair bytes test (eqb outline.refusal accepted) _ outline.refusal named (rw (no_1, two) refl)
          (λ out. out))
          (λ no_2. both_ways bytes i test (eqb kind 3) _ _ _ _
          (λ three. shape_seen a chain i within pair bytes test (eqb (wall_at bytes).refusal accepted) _ (wall_at bytes).refusal named
          (rw (no_1, no_2, three) refl) (λ out. out))
          (λ no_3. both_ways bytes i test (eqb kind 4) _ _ _ _ (λ four. place_seen a chain i within pair bytes test (rw (eqb-true kind 4 four) refl))
          (λ no_4. both_ways bytes i test (eqb kind 6) _ _ _ _ (λ six. turn_seen a chain i within pair bytes test (rw (eqb-true kind 6 six) refl))
          (λ no_6. both_ways bytes i test (eqb kind 7) _ _ _ _
          (λ seven. shape_seen a chain i within pair bytes test (eqb (chain_refusal bytes) accepted) _ (chain_refusal bytes) named
          (rw (no_1, no_2, no_3, seven) refl) (λ out. out))
          (λ no_7. let five = last_kind kind (byte_at bytes 2) (known_kind bytes taken) no_1 no_2 no_3 no_4 no_6 no_7 in
          test_seen (byte_at bytes 1) (byte_at bytes 2) five (is_test five named)))))))

      pub change_seen : Outcome bytes i test (change a b pair bytes) (change piece b' (piece_pair i pair) bytes)
      unfolding change
      change_seen =
          let number = frame_refusal bytes in
          both_ways bytes i test (eqb number accepted) _ _ _ _
          (λ taken. kind_seen (eqb-true number accepted taken)) (λ refused. refused_seen a chain i within pair bytes test number refused)
