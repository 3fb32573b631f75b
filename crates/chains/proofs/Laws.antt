-- Chains in the referee's words: a chain of n points has n - 1 pieces, in order, and a test that answers says a result
-- for each (where each begins and what its ghost points are, record_definitions' ChainPieces says); what is said and
-- counted of one piece does not hang on another; no test of a chain is refused with 8; and no line of another kind has
-- more than 134 digits. Assumes nothing.
use Prim.Native.Nat.{ℕ, ◌*◌, ◌-◌, ◌≤◌, ◌<◌, min}
use mathlib.Core.Path.{◌≡◌, refl, sym, ◌∙◌, ap, subst}
use mathlib.Core.Bool.{Bool, true, false, not, ◌&&◌, ◌||◌}
use mathlib.Core.List.{List, [], ◌++◌}
use mathlib.Core.Logic.{◌⊎◌, inl, inr}
use mathlib.Core.Option.{Option, none, some}
use native.Mathlib.Omega.{arith}
use lib.Dec.{eqb, ltb, leb}
use lib.ListN.{length, get_or, take}
use borrow.Author.Tests.{eqb-true, ne_eqb, leb-true}
use Rattle.lines.specs.Fields.{byte_at}
use Rattle.lines.specs.Hex.{unhex, bytes_or_none, frame_of, line_limit, line_of}
use Rattle.lines.proofs.Theorem.{unhex_length}
use Rattle.shape_definitions.specs.Refusal.{accepted, malformed_frame, wall_too_short}
use Rattle.shape_definitions.specs.Validate.{polygon_in_range}
use Rattle.contact_definitions.proofs.Counts.{either}
use Rattle.record_definitions.specs.declared.world.Body.{Body}
use Rattle.record_definitions.specs.declared.world.Pair.{Pair}
use Rattle.record_definitions.specs.declared.world.World.{World}
use Rattle.record_definitions.specs.declared.touch.TestAnswer.{TestAnswer}
use Rattle.record_definitions.specs.declared.touch.Touch.{Touch}
use Rattle.record_definitions.specs.declared.frame.Answer.TheVariants.{Refused, Tested}
use Rattle.record_definitions.specs.declared.frame.Change.{Change}
use Rattle.record_definitions.specs.declared.frame.Said.{Said}
use Rattle.record_definitions.specs.declared.server.Server.{Server}
use Rattle.record_definitions.specs.World.{no_body, blank_body, circle_kind, chain_kind, chain_body}
use Rattle.record_definitions.specs.World.{piece_of, pieces_of, kept_of, body_at, pair_at}
use Rattle.record_definitions.specs.Touch.{tested, piece_tested, first_refusal}
use Rattle.record_definitions.specs.Answer.{answer_bytes, answer_touches, touches_said, touch_lines, said_line}
use Rattle.record_definitions.specs.Answer.{said_alone, result_of}
use Rattle.record_definitions.specs.declared.frame.Answer.{Answer}
use Rattle.record_definitions.specs.Frame.{outline_length, wall_length, frame_length, well_formed, frame_refusal}
use Rattle.record_definitions.specs.Frame.{refused}
use Rattle.record_definitions.specs.Frame.{listed, chain_at, test_refusal, all_tests, test_change, change_of_kind}
use Rattle.record_definitions.specs.Frame.{change}
use Rattle.record_definitions.specs.OneFrame.{first_place, second_place, change_in, after_frame, said_of_frame}
use Rattle.record_definitions.specs.Server.{after_line, Framed, reply_to, reached}
use Rattle.record_definitions.proofs.Replies.{reply_framed, said_framed}
use Rattle.record_definitions.proofs.Changes.{by_choice}
use Rattle.record_definitions.proofs.FrameRefusals.{of_bytes_alone}
use Rattle.record_definitions.proofs.PieceTests.{all_size}
use Rattle.record_definitions.proofs.Sound.{Sound, SoundBody, some_piece}
use Rattle.record_definitions.proofs.SoundFrames.{listed_by}
use Rattle.record_definitions.proofs.Theorem.{reached_worlds_sound}
use Rattle.record_definitions.proofs.TestTheorem.{a_result_a_piece, tested_by_itself, kept_by_itself}
use Rattle.record_ranges.proofs.Bodies.{CappedBody}
use Rattle.record_ranges.proofs.Theorem.{reached_worlds_capped}
use Rattle.chains.specs.ChainAsWalls.{MakesPiece}
use Rattle.chains.proofs.Refusals.{refusal_by, all_refused_alike}
use Rattle.chains.proofs.Start.{points_few, chain_k, chain_after}

-- ---- pieces: one less than points
pieces_made : (bytes : List ℕ) → byte_at bytes 2 ≤ 8 → pieces_of (chain_body (chain_at bytes)) ≡ byte_at bytes 2 - 1
unfolding chain_body chain_at
pieces_made bytes few = let held : min (byte_at bytes 2 - 1) 7 ≡ byte_at bytes 2 - 1 = omega arith in held

pub one_less_than_points : (lines : List (List ℕ)) (line : List ℕ) (i : ℕ) → MakesPiece (reached lines) line i
    → pieces_of (body_at (after_line (reached lines) line).world (byte_at (frame_of line) 1))
    ≡ byte_at (frame_of line) 2 - 1
one_less_than_points lines line i makes =
    let sound = reached_worlds_sound lines in
    let capped = reached_worlds_capped lines in
    ap (λ (s : Server). pieces_of (body_at s.world (byte_at (frame_of line) 1)))
    (chain_after (reached lines) sound capped line i makes)
    ∙ ap pieces_of (chain_k (reached lines) sound capped line i makes)
    ∙ pieces_made (frame_of line) (points_few (reached lines) sound capped line i makes)

-- a test that answers says a result for each
pub a_result_for_each : (w : World) (frame : List ℕ) (t : Touch) → Sound w → (said_of_frame w frame).answer ≡ Tested t
    → length (touches_said (said_of_frame w frame)) ≡ pieces_of (body_at w (byte_at frame 1))
a_result_for_each w frame t sound is =
    let a = byte_at frame 1 in
    let b = byte_at frame 2 in
    ap length (a_result_a_piece w frame t is)
    ∙ all_size a b (body_at w a) (body_at w b) (pair_at w a b) (λ (answer : TestAnswer). answer.touch)
    (some_piece (body_at w a) (sound.each a)).0

-- and prints a line for each, in order
pub lines_in_order : (said : Said) (t : Touch) → said.answer ≡ Tested t
    → said_line said ≡ touch_lines (touches_said said)
unfolding touch_lines
lines_in_order said t is =
    let more = take said.further said.more in
    ap (λ (answer : Answer). line_of (answer_bytes answer) ++ touch_lines more) is
    ∙ ap (λ (answer : Answer). touch_lines (answer_touches answer ++ more)) (sym is)

-- ---- one piece and another: of two worlds with the same bodies whose pair keeps the same of piece i, whatever it
-- keeps of the others, a test says and keeps the same of piece i
pub pieces_apart : (w v : World) (frame : List ℕ) (t u : Touch) (i : ℕ) → (said_of_frame w frame).answer ≡ Tested t
    → (said_of_frame v frame).answer ≡ Tested u → length w.pairs ≡ 64 → length v.pairs ≡ 64
    → v.bodies ≡ w.bodies → i < pieces_of (body_at w (byte_at frame 1))
    → kept_of (pair_at v (byte_at frame 1) (byte_at frame 2)) i
    ≡ kept_of (pair_at w (byte_at frame 1) (byte_at frame 2)) i
    → (result_of (said_of_frame v frame) i ≡ result_of (said_of_frame w frame) i)
    × (kept_of (pair_at (after_frame v frame) (byte_at frame 1) (byte_at frame 2)) i
    ≡ kept_of (pair_at (after_frame w frame) (byte_at frame 1) (byte_at frame 2)) i)
pieces_apart w v frame t u i w_is v_is w_size v_size bodies within kept =
    let a = byte_at frame 1 in
    let b = byte_at frame 2 in
    let first : body_at v a ≡ body_at w a = ap (λ (l : List Body). get_or l a blank_body) bodies in
    let second : body_at v b ≡ body_at w b = ap (λ (l : List Body). get_or l b blank_body) bodies in
    let there : i < pieces_of (body_at v a) = rw first within in
    let tests : tested a b (piece_of (body_at v a) i) (body_at v b) (kept_of (pair_at v a b) i)
    ≡ tested a b (piece_of (body_at w a) i) (body_at w b) (kept_of (pair_at w a b) i) =
    rw (first, second, kept) refl in (
      tested_by_itself v frame u v_is i there ∙ ap (λ (answer : TestAnswer). answer.touch) tests
          ∙ sym (tested_by_itself w frame t w_is i within),
      kept_by_itself v frame u v_is i there v_size ∙ ap (λ (answer : TestAnswer). answer.kept) tests
          ∙ sym (kept_by_itself w frame t w_is i within w_size),
    )

-- ---- no test of a chain is refused with 8
NotEight : ℕ → Type 0
NotEight n = n ≡ wall_too_short → ⊥

number_not_eight : (ida idb kinda kindb : ℕ) → NotEight (test_refusal ida idb kinda kindb)
unfolding test_refusal NotEight
number_not_eight ida idb kinda kindb =
    either NotEight (eqb kinda no_body || eqb kindb no_body) _ _ (λ e. absurd (omega arith))
    (either NotEight (eqb ida idb || not (listed kinda kindb)) _ _ (λ e. absurd (omega arith))
    (λ e. absurd (omega arith)))

by_not_eight : (b : Body) → NotEight (refusal_by b)
unfolding NotEight
by_not_eight b =
    either NotEight (eqb b.kind circle_kind) _ _ (λ e. absurd (omega arith))
    (either NotEight (polygon_in_range b.outline) _ _ (λ e. absurd (omega arith)) (λ e. absurd (omega arith)))

module _ (a b : Body) (pair : Pair) (chain : a.kind ≡ chain_kind) (a_sound : SoundBody a) (b_sound : SoundBody b)
    (a_caps : CappedBody a) (b_caps : CappedBody b) where
  Says : Change → Type 0
  Says c = (n : ℕ) → c.said.answer ≡ Refused n → NotEight n

  refused_says : (m : ℕ) → NotEight m → Says (refused m a pair)
  unfolding Says
  refused_says m fine n e =
      let same : m ≡ n = cc in
      subst NotEight same fine

  tested_says : (c : Change) (t : Touch) → c.said.answer ≡ Tested t → Says c
  unfolding Says
  tested_says c t is n e =
      let never : ◌≡◌ {A = ℕ} 0 1 = cc in
      absurd (omega arith)

  test_says : (ida idb : ℕ) → Says (test_change ida idb a b pair)
  unfolding test_change
  test_says ida idb =
      let number = test_refusal ida idb a.kind b.kind in
      let refusal = first_refusal (all_tests ida idb a b pair) in
      by_choice Says (eqb number accepted) _ _
      (λ none. let is_listed = listed_by ida idb a.kind b.kind _ _ _ refl refl refl
      (eqb-true number accepted none) in
      either Says (eqb refusal accepted) _ _ (tested_says _ (piece_tested ida idb a b pair 0).touch refl)
      (refused_says refusal (subst NotEight
      (sym (all_refused_alike a b chain a_sound b_sound a_caps b_caps is_listed ida idb pair)) (by_not_eight b))))
      (λ against. refused_says number (number_not_eight ida idb a.kind b.kind))

  frame_says : (bytes : List ℕ) → byte_at bytes 0 ≡ 5 → (n : ℕ) → (change a b pair bytes).said.answer ≡ Refused n
      → (n ≡ wall_too_short → ⊥)
  unfolding change change_of_kind Says NotEight
  frame_says bytes five =
      either Says (eqb (frame_refusal bytes) accepted) _ _ (rw five (test_says (byte_at bytes 1) (byte_at bytes 2)))
      (refused_says (frame_refusal bytes) (of_bytes_alone bytes NotEight (λ e. absurd (omega arith))
      (λ e. absurd (omega arith)) (λ e. absurd (omega arith))))

-- with the laws of 6, 7 and 9 (record_ranges): what refuses a test of a chain is the frame, or 2 of the other body
pub chain_never_too_short : (lines : List (List ℕ)) (line : List ℕ) (said : Said) (n : ℕ)
    → byte_at (frame_of line) 0 ≡ 5 → (body_at (reached lines).world (first_place (frame_of line))).kind ≡ chain_kind
    → reply_to (reached lines) line ≡ Framed said → said.answer ≡ Refused n → (n ≡ wall_too_short → ⊥)
unfolding said_of_frame change_in
chain_never_too_short lines line said n five chain replied is =
    let w = (reached lines).world in
    let a = first_place (frame_of line) in
    let b = second_place (frame_of line) in
    let sound = reached_worlds_sound lines in
    let capped = reached_worlds_capped lines in
    let same : said ≡ said_of_frame w (frame_of line) = (said_framed (reached lines) line said replied).0 in
    frame_says (body_at w a) (body_at w b) (pair_at w a b) chain (sound.each a) (sound.each b) (capped.each a)
    (capped.each b) (frame_of line) five n (ap (λ (of : Said). of.answer) (sym same) ∙ is)

-- ---- lines of more than 134 characters are chains, or refused with 10
outline_short : (third : ℕ) → outline_length third ≤ 67
outline_short third =
    by_choice (λ (n : ℕ). n ≤ 67) (leb third 8) _ _ (λ few. omega (arith, leb-true third 8 few)) (λ many. omega arith)

wall_short : (third : ℕ) → wall_length third ≤ 67
wall_short third =
    either (λ (n : ℕ). n ≤ 67) (eqb third 0) _ _ (omega arith)
    (either (λ (n : ℕ). n ≤ 67) (eqb third 1) _ _ (omega arith) (omega arith))

other_short : (kind third : ℕ) → (kind ≡ 7 → ⊥) → frame_length kind third ≤ 67
unfolding frame_length
other_short kind third other =
    either Short (eqb kind 1) _ _ (omega arith)
    (either Short (eqb kind 2) _ _ (outline_short third)
    (either Short (eqb kind 3) _ _ (wall_short third)
    (either Short (eqb kind 4) _ _ (omega arith)
    (either Short (eqb kind 5) _ _ (omega arith)
    (either Short (eqb kind 6) _ _ (omega arith) (rw (ne_eqb kind 7 other) none_short))))))
  where
    Short : ℕ → Type 0
    Short n = n ≤ 67

    none_short : 0 ≤ 67
    none_short = omega arith

-- a line that says bytes has two characters for each
said_size : (line : List ℕ) (said : Option (List ℕ)) → unhex line ≡ said
    → (bytes_or_none said ≡ []) ⊎ (length line ≡ 2 * length (bytes_or_none said))
said_size line none e = inl refl
said_size line (some bytes) e = inr (unhex_length line bytes e)

frame_size : (line : List ℕ) → (frame_of line ≡ []) ⊎ (length line ≡ 2 * length (frame_of line))
unfolding frame_of
frame_size line =
    either (λ (bytes : List ℕ). (bytes ≡ []) ⊎ (length line ≡ 2 * length bytes)) (ltb line_limit (length line)) []
    (bytes_or_none (unhex line)) (inl refl) (said_size line (unhex line) refl)

not_formed : (line : List ℕ) → 134 < length line → (byte_at (frame_of line) 0 ≡ 7 → ⊥)
    → (frame_of line ≡ []) ⊎ (length line ≡ 2 * length (frame_of line)) → well_formed (frame_of line) ≡ false
unfolding well_formed frame_length
not_formed line long other (inl nothing) = rw nothing refl
not_formed line long other (inr size) =
    let bytes = frame_of line in
    rw (ne_eqb (length bytes) (frame_length (byte_at bytes 0) (byte_at bytes 2))
    (λ same. absurd (omega (arith, other_short (byte_at bytes 0) (byte_at bytes 2) other))))
    (second_fails (not (eqb (frame_length (byte_at bytes 0) (byte_at bytes 2)) 0)))
  where
    second_fails : (t : Bool) → t && false ≡ false
    second_fails true = refl
    second_fails false = refl

malformed_number : (bytes : List ℕ) → well_formed bytes ≡ false → frame_refusal bytes ≡ malformed_frame
unfolding frame_refusal
malformed_number bytes malformed = rw malformed refl

malformed_says : (a b : Body) (pair : Pair) (bytes : List ℕ) → well_formed bytes ≡ false
    → (change a b pair bytes).said ≡ said_alone (Refused malformed_frame)
unfolding change
malformed_says a b pair bytes malformed = rw (malformed_number bytes malformed) refl

malformed_reply : (s : Server) (line : List ℕ) → (length line ≡ 0 → ⊥) → well_formed (frame_of line) ≡ false
    → reply_to s line ≡ Framed (said_alone (Refused malformed_frame))
unfolding said_of_frame change_in
malformed_reply s line begun malformed =
    reply_framed s line begun ∙ ap Framed (malformed_says _ _ _ (frame_of line) malformed)

pub longer_lines_are_chains : (s : Server) (line : List ℕ) → 134 < length line → (byte_at (frame_of line) 0 ≡ 7 → ⊥)
    → reply_to s line ≡ Framed (said_alone (Refused malformed_frame))
longer_lines_are_chains s line long other =
    malformed_reply s line (λ none. omega arith) (not_formed line long other (frame_size line))
