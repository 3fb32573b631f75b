-- The headline law of this crate, document 02, request 03: each line of a chain equals that of frame 03 with the same
-- four points under the same id, where all other frames are the same (`each_line_as_its_wall`). Assumes nothing.
use Prim.Native.Nat.{ℕ, ◌<◌}
use mathlib.Core.Path.{◌≡◌, refl, sym, ◌∙◌, ap}
use mathlib.Core.Bool.{Bool, true, false, cond, false≢true}
use mathlib.Core.List.{List, [], ◌∷◌, ◌++◌, map, append_assoc, append-nil}
use mathlib.Core.Logic.{◌⊎◌, inl, inr, ⊎_elim}
use lib.Dec.{eqb}
use lib.ListN.{length}
use borrow.Author.Tests.{eqb-true}
use Rattle.algebra.proofs.Booleans.{both}
use Rattle.lines.specs.Fields.{byte_at}
use Rattle.lines.specs.Hex.{frame_of, line_of}
use Rattle.record_definitions.specs.declared.server.Server.{Server}
use Rattle.record_definitions.specs.declared.touch.Touch.{Touch}
use Rattle.record_definitions.specs.declared.frame.Answer.{Answer}
use Rattle.record_definitions.specs.declared.frame.Answer.TheVariants.{Refused, Tested}
use Rattle.record_definitions.specs.declared.frame.Said.{Said}
use Rattle.record_definitions.specs.World.{pieces_of, body_at}
use Rattle.record_definitions.specs.Answer.{touch_bytes, touches_said, touch_lines, said_line, result_of}
use Rattle.record_definitions.specs.OneFrame.{said_of_frame}
use Rattle.record_definitions.specs.Server.{fresh_server, after_line, Reply, Framed, reply_to, reply_line, after_lines}
use Rattle.record_definitions.specs.Touches.{printed_lines, touches}
use Rattle.record_definitions.specs.Reading.{joined}
use Rattle.record_definitions.proofs.Replies.{said_framed}
use Rattle.record_definitions.proofs.Theorem.{reached_worlds_sound}
use Rattle.record_ranges.proofs.Theorem.{reached_worlds_capped}
use Rattle.chains.specs.ChainAsWalls.{wall_line, MakesPiece, piece_of_answer, piece_alone, piece_reply}
use Rattle.chains.specs.ChainAsWalls.{tests_first, seen, renews, replies, seen_replies, NeverRenewed}
use Rattle.chains.specs.ChainAsWalls.{chain_id, there}
use Rattle.chains.specs.ChainAsWalls.{with_chain, with_wall, EachLineAsItsWall}
use Rattle.chains.proofs.SeenWorlds.{SeenServers}
use Rattle.chains.proofs.SeenLines.{one_line}
use Rattle.chains.proofs.Laws.{a_result_for_each}
use Rattle.chains.proofs.Start.{begun, wall_taken}

-- ---- some lines
module _ (k i : ℕ) where
  rest_seen : (s s' : Server) → SeenServers k i s s' → (lines : List (List ℕ))
      → replies s' lines ≡ seen_replies k i s lines
  unfolding replies seen_replies
  rest_seen s s' same [] = refl
  rest_seen s s' same (line ∷ lines) =
      ⊎_elim
      (λ new. rw new.0
      (ap (λ (reply : Reply). reply ∷ replies (after_line s' line) lines) new.1
      ∙ ap (λ (v : Server). reply_to s line ∷ replies v lines) new.2))
      (λ old. rw old.0
      (ap (λ (reply : Reply). reply ∷ replies (after_line s' line) lines) old.1
      ∙ ap (◌∷◌ (seen k i s line)) (rest_seen (after_line s line) (after_line s' line) old.2 lines)))
      (one_line k i s s' same line)

  still_seen : (s s' : Server) (lines : List (List ℕ)) → SeenServers k i s s' → NeverRenewed k s lines
      → SeenServers k i (after_lines s lines) (after_lines s' lines)
  unfolding NeverRenewed
  still_seen s s' [] same never = same
  still_seen s s' (line ∷ lines) same never =
      still_seen (after_line s line) (after_line s' line) lines
      (⊎_elim (λ new. absurd (false≢true (sym never.0 ∙ new.0))) (λ old. old.2) (one_line k i s s' same line))
      never.1

  -- what is said of a line, and the world after one that makes a new shape
  said_seen : (s s' : Server) → SeenServers k i s s' → (line : List ℕ)
      → (reply_to s' line ≡ reply_to s line) ⊎ (reply_to s' line ≡ seen k i s line)
  said_seen s s' same line = ⊎_elim (λ new. inl new.1) (λ old. inr old.1) (one_line k i s s' same line)

  renewed_same : (s s' : Server) → SeenServers k i s s' → (line : List ℕ) → renews k s line ≡ true
      → after_line s' line ≡ after_line s line
  renewed_same s s' same line is =
      ⊎_elim (λ new. new.2) (λ old. absurd (false≢true (sym old.0 ∙ is))) (one_line k i s s' same line)

  other_same : (s s' : Server) → SeenServers k i s s' → (line : List ℕ) → tests_first k line ≡ false
      → reply_to s' line ≡ reply_to s line
  unfolding seen
  other_same s s' same line no_test =
      ⊎_elim (λ new. new) (λ old. old ∙ rw no_test refl) (said_seen s s' same line)

  refused_same : (s s' : Server) → SeenServers k i s s' → (line : List ℕ) (said : Said) (n : ℕ)
      → reply_to s line ≡ Framed said → said.answer ≡ Refused n → reply_to s' line ≡ reply_to s line
  unfolding seen piece_alone
  refused_same s s' same line said n replied is =
      ⊎_elim (λ new. new) (λ old. old ∙ rw replied (as_refused (tests_first k line))) (said_seen s s' same line)
    where
      as_refused : (t : Bool) → cond t (Framed (piece_of_answer i said.answer said)) (Framed said) ≡ Framed said
      as_refused true = ap (λ (answer : Answer). Framed (piece_of_answer i answer said)) is
      as_refused false = refl

  -- a test makes no shape
  test_renews_nothing : (s : Server) (line : List ℕ) → tests_first k line ≡ true → renews k s line ≡ false
  unfolding renews
  test_renews_nothing s line is =
      let five = eqb-true (byte_at (frame_of line) 0) 5
      (both (eqb (byte_at (frame_of line) 0) 5) (eqb (byte_at (frame_of line) 1) k) is).0 in
      rw five refl

  alone_line : (said : Said) (t : Touch) → said.answer ≡ Tested t
      → said_line (piece_alone i said) ≡ line_of (touch_bytes (result_of said i))
  unfolding piece_alone touch_lines
  alone_line said t is =
      ap (λ (answer : Answer). said_line (piece_of_answer i answer said)) is
      ∙ append-nil (line_of (touch_bytes (result_of said i)))

  test_line : (s s' : Server) → SeenServers k i s s' → (line : List ℕ) (said : Said) (t : Touch)
      → tests_first k line ≡ true → reply_to s line ≡ Framed said → said.answer ≡ Tested t
      → reply_line (reply_to s' line) ≡ line_of (touch_bytes (result_of said i))
  unfolding seen
  test_line s s' same line said t is_test replied is =
      ⊎_elim
      (λ new. absurd (false≢true (sym (test_renews_nothing s line is_test) ∙ new.0)))
      (λ old. let alone : reply_to s' line ≡ Framed (piece_alone i said) =
      old.1 ∙ ap (λ (b : Bool). cond b (piece_reply i (reply_to s line)) (reply_to s line)) is_test
      ∙ ap (piece_reply i) replied in
      ap reply_line alone ∙ alone_line said t is)
      (one_line k i s s' same line)

  has_line : (s s' : Server) → SeenServers k i s s' → (line : List ℕ) (said : Said) (t : Touch)
      → tests_first k line ≡ true → reply_to s line ≡ Framed said → said.answer ≡ Tested t
      → i < length (touches_said said)
  has_line s s' same line said t is_test replied is =
      let w = s.world in
      let named : byte_at (frame_of line) 1 ≡ k = eqb-true (byte_at (frame_of line) 1) k
      (both (eqb (byte_at (frame_of line) 0) 5) (eqb (byte_at (frame_of line) 1) k) is_test).1 in
      let framed : said ≡ said_of_frame w (frame_of line) = (said_framed s line said replied).0 in
      let tested : (said_of_frame w (frame_of line)).answer ≡ Tested t =
      ap (λ (of : Said). of.answer) (sym framed) ∙ is in
      let size : length (touches_said said) ≡ pieces_of (body_at w k) =
      ap (λ (of : Said). length (touches_said of)) framed
      ∙ a_result_for_each w (frame_of line) t same.worlds.sound tested
      ∙ ap (λ (id : ℕ). pieces_of (body_at w id)) named in
      rw size same.worlds.piece

-- ---- one list of lines after another
said_append : (s : Server) (lines rest : List (List ℕ))
    → replies s (lines ++ rest) ≡ replies s lines ++ replies (after_lines s lines) rest
unfolding replies
said_append s [] rest = refl
said_append s (line ∷ lines) rest = ap (◌∷◌ (reply_to s line)) (said_append (after_line s line) lines rest)

-- what is printed is what is said, line by line
printed_said : (print : Reply → List ℕ) (s : Server) (lines : List (List ℕ))
    → printed_lines print s lines ≡ joined (map print (replies s lines))
unfolding printed_lines replies
printed_said print s [] = refl
printed_said print s (line ∷ lines) =
    ap (◌++◌ (print (reply_to s line))) (printed_said print (after_line s line) lines)

joined_append : (print : Reply → List ℕ) (first rest : List Reply)
    → joined (map print (first ++ rest)) ≡ joined (map print first) ++ joined (map print rest)
joined_append print [] rest = refl
joined_append print (reply ∷ first) rest =
    ap (◌++◌ (print reply)) (joined_append print first rest)
    ∙ sym (append_assoc (print reply) (joined (map print first)) (joined (map print rest)))

-- ---- each line equals that of frame 03 with the same four points under the same id
module _ (before : List (List ℕ)) (chain : List ℕ) (i : ℕ) (makes : MakesPiece (there before chain i) chain i) where
  abbrev id : ℕ
  id = chain_id before chain i

  abbrev s : Server
  s = there before chain i

  start : SeenServers id i (after_line s chain) (after_line s (wall_line chain i))
  start = begun s (reached_worlds_sound before) (reached_worlds_capped before) chain i makes

  taken_both : reply_to s (wall_line chain i) ≡ reply_to s chain
  taken_both = wall_taken s (reached_worlds_sound before) (reached_worlds_capped before) chain i makes

  seen_after : (between : List (List ℕ)) → NeverRenewed id (with_chain before chain i []) between
      → SeenServers id i (with_chain before chain i between) (with_wall before chain i between)
  seen_after between never =
      still_seen id i (after_line s chain) (after_line s (wall_line chain i)) between start never

  whole : (rest : List (List ℕ))
      → replies fresh_server (before ++ wall_line chain i ∷ rest)
      ≡ replies fresh_server before
      ++ reply_to s chain ∷ seen_replies id i (with_chain before chain i []) rest
  unfolding replies
  whole rest =
      said_append fresh_server before (wall_line chain i ∷ rest)
      ∙ ap (λ (l : List Reply). replies fresh_server before ++ l)
      (ap (λ (reply : Reply). reply ∷ replies (after_line s (wall_line chain i)) rest) taken_both
      ∙ ap (◌∷◌ (reply_to s chain))
      (rest_seen id i (after_line s chain) (after_line s (wall_line chain i)) start rest))

  pub each_line_as_its_wall : EachLineAsItsWall before chain i
  unfolding touches
  each_line_as_its_wall = record {
    both_taken = taken_both;
    line_there = λ between never test said t is_test replied is.
        has_line id i (with_chain before chain i between) (with_wall before chain i between) (seen_after between never)
        test said t is_test replied is;
    each_line = λ between never test said t is_test replied is.
        test_line id i (with_chain before chain i between) (with_wall before chain i between) (seen_after between never)
        test said t is_test replied is;
    each_refusal = λ between never line said n replied is.
        refused_same id i (with_chain before chain i between) (with_wall before chain i between)
        (seen_after between never) line said n replied is;
    each_other = λ between never line no_test.
        other_same id i (with_chain before chain i between) (with_wall before chain i between)
        (seen_after between never) line no_test;
    same_after = λ between never line is.
        renewed_same id i (with_chain before chain i between) (with_wall before chain i between)
        (seen_after between never) line is;
    all_lines = whole;
    all_printed = λ rest input lines.
        ap (printed_lines reply_line fresh_server) lines
        ∙ printed_said reply_line fresh_server (before ++ wall_line chain i ∷ rest)
        ∙ ap (λ (l : List Reply). joined (map reply_line l)) (whole rest)
        ∙ joined_append reply_line (replies fresh_server before)
        (reply_to s chain ∷ seen_replies id i (with_chain before chain i []) rest)
        ∙ ap (λ (l : List ℕ). l ++ (reply_line (reply_to s chain)
        ++ joined (map reply_line (seen_replies id i (with_chain before chain i []) rest))))
        (sym (printed_said reply_line fresh_server before));
  }
