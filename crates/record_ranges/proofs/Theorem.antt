-- The headline law of this crate: after any lines, no test is refused with 9, and with neither 6 nor 7
-- (`test_refusals`). Assumes nothing.
use Prim.Native.Nat.{ℕ}
use mathlib.Core.Path.{◌≡◌, refl, sym, ◌∙◌, ap, subst}
use mathlib.Core.Bool.{not, ◌||◌}
use mathlib.Core.List.{List, [], ◌∷◌}
use native.Mathlib.Omega.{arith}
use lib.Dec.{eqb}
use Rattle.lines.specs.Fields.{byte_at}
use Rattle.lines.specs.Hex.{frame_of}
use Rattle.shape_definitions.specs.Refusal.{accepted, contact_out_of_range}
use Rattle.contact_definitions.proofs.Counts.{either}
use Rattle.record_definitions.specs.declared.world.Body.{Body}
use Rattle.record_definitions.specs.declared.world.Pair.{Pair}
use Rattle.record_definitions.specs.declared.server.Server.{Server}
use Rattle.record_definitions.specs.declared.touch.Touch.{Touch}
use Rattle.record_definitions.specs.declared.frame.Answer.TheVariants.{Refused, Tested}
use Rattle.record_definitions.specs.declared.frame.Change.{Change}
use Rattle.record_definitions.specs.declared.frame.Said.{Said}
use Rattle.record_definitions.specs.World.{no_body, body_at, pair_at}
use Rattle.record_definitions.specs.Touch.{piece_tested, first_refusal}
use Rattle.record_definitions.specs.Frame.{frame_refusal, refused, listed, test_refusal, all_tests, test_change}
use Rattle.record_definitions.specs.Frame.{change_of_kind, change}
use Rattle.record_definitions.specs.OneFrame.{first_place, second_place, change_in, said_of_frame}
use Rattle.record_definitions.specs.Server.{fresh_server, after_line, Framed, reply_to, after_lines, reached}
use Rattle.record_definitions.proofs.Replies.{said_framed}
use Rattle.record_definitions.proofs.FrameRefusals.{of_bytes_alone}
use Rattle.record_definitions.proofs.SoundTests.{NotOfHost}
use Rattle.record_definitions.proofs.Theorem.{reached_worlds_sound, test_not_of_host}
use Rattle.record_ranges.proofs.Bodies.{CappedBody}
use Rattle.record_ranges.proofs.Kept.{CappedWorld, fresh_capped, frame_keeps_capped}
use Rattle.record_ranges.proofs.Contacts.{all_not_nine}

-- ---- every world that lines reach
lines_keep_capped : (s : Server) (lines : List (List ℕ)) → CappedWorld s.world
    → CappedWorld (after_lines s lines).world
lines_keep_capped s [] capped = capped
lines_keep_capped s ([] ∷ lines) capped = lines_keep_capped (after_line s []) lines capped
lines_keep_capped s ((c ∷ line) ∷ lines) capped =
    lines_keep_capped (after_line s (c ∷ line)) lines (frame_keeps_capped s.world (frame_of (c ∷ line)) capped)

pub reached_worlds_capped : (lines : List (List ℕ)) → CappedWorld (reached lines).world
reached_worlds_capped lines = lines_keep_capped fresh_server lines fresh_capped

-- ---- the frame of a test
NotNine : ℕ → Type 0
NotNine n = n ≡ contact_out_of_range → ⊥

number_not_nine : (ida idb kinda kindb : ℕ) → NotNine (test_refusal ida idb kinda kindb)
unfolding test_refusal NotNine
number_not_nine ida idb kinda kindb =
    either NotNine (eqb kinda no_body || eqb kindb no_body) _ _ (λ e. absurd (omega arith))
    (either NotNine (eqb ida idb || not (listed kinda kindb)) _ _ (λ e. absurd (omega arith))
    (λ e. absurd (omega arith)))

module _ (a b : Body) (pair : Pair) (bytes : List ℕ) (a_caps : CappedBody a) (b_caps : CappedBody b) where
  Says : Change → Type 0
  Says c = (n : ℕ) → c.said.answer ≡ Refused n → NotNine n

  refused_says : (m : ℕ) → NotNine m → Says (refused m a pair)
  unfolding Says
  refused_says m fine n e =
      let same : m ≡ n = cc in
      subst NotNine same fine

  tested_says : (c : Change) (t : Touch) → c.said.answer ≡ Tested t → Says c
  unfolding Says
  tested_says c t is n e =
      let never : ◌≡◌ {A = ℕ} 0 1 = cc in
      absurd (omega arith)

  test_says : (ida idb : ℕ) → Says (test_change ida idb a b pair)
  unfolding test_change NotNine
  test_says ida idb =
      let number = test_refusal ida idb a.kind b.kind in
      let t = piece_tested ida idb a b pair 0 in
      let refusal = first_refusal (all_tests ida idb a b pair) in
      either Says (eqb number accepted) _ _
      (either Says (eqb refusal accepted) _ _ (tested_says _ t.touch refl)
      (refused_says refusal (all_not_nine a b a_caps b_caps ida idb pair)))
      (refused_says number (number_not_nine ida idb a.kind b.kind))

  frame_says : byte_at bytes 0 ≡ 5 → (n : ℕ) → (change a b pair bytes).said.answer ≡ Refused n
      → (n ≡ contact_out_of_range → ⊥)
  unfolding change change_of_kind Says NotNine
  frame_says five =
      either Says (eqb (frame_refusal bytes) accepted) _ _ (rw five (test_says (byte_at bytes 1) (byte_at bytes 2)))
      (refused_says (frame_refusal bytes)
      (of_bytes_alone bytes NotNine (λ e. absurd (omega arith)) (λ e. absurd (omega arith))
      (λ e. absurd (omega arith))))

-- ---- after any lines, a test's refusal is neither 6 nor 7 nor 9
pub test_refusals : (lines : List (List ℕ)) (line : List ℕ) (said : Said) (n : ℕ) → byte_at (frame_of line) 0 ≡ 5
    → reply_to (reached lines) line ≡ Framed said → said.answer ≡ Refused n
    → NotOfHost n × (n ≡ contact_out_of_range → ⊥)
unfolding said_of_frame change_in
test_refusals lines line said n five replied is =
    let w = (reached lines).world in
    let frame = frame_of line in
    let same : said ≡ said_of_frame w frame = (said_framed (reached lines) line said replied).0 in
    let refused : (said_of_frame w frame).answer ≡ Refused n = ap (λ (of : Said). of.answer) (sym same) ∙ is in
    let capped = reached_worlds_capped lines in (
      test_not_of_host w frame n (reached_worlds_sound lines) five refused,
      frame_says (body_at w (first_place frame)) (body_at w (second_place frame))
          (pair_at w (first_place frame) (second_place frame)) frame (capped.each (first_place frame))
          (capped.each (second_place frame)) five n refused,
    )
