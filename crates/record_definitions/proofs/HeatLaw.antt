-- The law of a heat (`heat_law`): over any lines from a fresh start, what an ordered pair of ids remembers, counts and
-- prints of a piece of its first body is that of the piece's contacts at its accepted tests since the last accepted new
-- shape under either id. Assumes nothing.
use Prim.Native.Nat.{ℕ, ◌≤◌, ◌<◌}
use mathlib.Core.Path.{◌≡◌, refl, sym, ◌∙◌, ap}
use mathlib.Core.List.{List, [], ◌∷◌}
use Rattle.lines.specs.Hex.{frame_of}
use Rattle.contact_definitions.specs.declared.b2_collision.B2manifold.{B2manifold}
use Rattle.record_definitions.specs.declared.world.Pair.{Pair}
use Rattle.record_definitions.specs.declared.server.Server.{Server}
use Rattle.record_definitions.specs.declared.touch.Touch.{Touch}
use Rattle.record_definitions.specs.declared.frame.Answer.TheVariants.{Tested}
use Rattle.record_definitions.specs.declared.frame.Said.{Said}
use Rattle.record_definitions.specs.World.{fresh_kept, fresh_pair, fresh_world, pair_at, pair_place}
use Rattle.record_definitions.specs.World.{kept_of, pieces_of, body_at}
use Rattle.record_definitions.specs.Answer.{result_of}
use Rattle.record_definitions.specs.Frame.{largest_id}
use Rattle.record_definitions.specs.OneFrame.{said_of_frame}
use Rattle.record_definitions.specs.Server.{fresh_server, after_line, Framed, reply_to, after_lines, reached}
use Rattle.record_definitions.specs.Heat.{with_line, contacts_after, contacts_of, contact_in}
use Rattle.record_definitions.specs.Heat.{NextTest}
use Rattle.record_definitions.specs.Heat.{HeatLaw}
use Rattle.record_definitions.proofs.Replies.{said_framed}
use Rattle.record_definitions.proofs.FreshPairs.{get_same}
use Rattle.record_definitions.proofs.SoundKept.{fresh_sound}
use Rattle.record_definitions.proofs.TestTheorem.{ids_printed}
use Rattle.record_definitions.proofs.Sound.{kept_of_fresh}
use Rattle.record_definitions.proofs.HeatTests.{Remembers, nothing_remembered, test_printed}
use Rattle.record_definitions.proofs.HeatSteps.{frame_remembered}

module _ (a b i : ℕ) (a_small : a ≤ largest_id) (b_small : b ≤ largest_id) where
  -- ---- the whole heat
  lines_remembered : (lines : List (List ℕ)) (s : Server) (contacts : List B2manifold)
      → Remembers a b i s.world contacts
      → Remembers a b i (after_lines s lines).world (contacts_after a b i s contacts lines)
  unfolding contacts_after
  lines_remembered [] s contacts before = before
  lines_remembered ([] ∷ lines) s contacts before = lines_remembered lines (after_line s []) contacts before
  lines_remembered ((c ∷ line) ∷ lines) s contacts before =
      let frame = frame_of (c ∷ line) in
      lines_remembered lines (after_line s (c ∷ line)) (with_line a b i s (c ∷ line) contacts)
      (frame_remembered a b i a_small b_small s.world frame contacts before (said_of_frame s.world frame).answer
      refl)

  fresh_at : kept_of (pair_at fresh_world a b) i ≡ fresh_kept
  unfolding fresh_world
  fresh_at = ap (λ (pair : Pair). kept_of pair i) (get_same fresh_pair 64 (pair_place a b)) ∙ kept_of_fresh i

  pub fresh_remembered : Remembers a b i fresh_world []
  fresh_remembered = nothing_remembered a b i fresh_world fresh_sound fresh_at

  -- a test that answers, whatever line it is
  next_printed : (s : Server) (contacts : List B2manifold) → Remembers a b i s.world contacts → (line : List ℕ)
      (said : Said) (t : Touch) → reply_to s line ≡ Framed said → said.answer ≡ Tested t → t.a ≡ a → t.b ≡ b
      → i < pieces_of (body_at s.world a) → NextTest contacts (contact_in a b i s.world) (result_of said i)
  next_printed s contacts heat line said t replied is a_is b_is within =
      let w = s.world in
      let frame = frame_of line in
      let same : said ≡ said_of_frame w frame = (said_framed s line said replied).0 in
      let tested : (said_of_frame w frame).answer ≡ Tested t = ap (λ (of : Said). of.answer) (sym same) ∙ is in
      rw same (test_printed a b i w contacts heat frame t tested (sym (ids_printed w frame t tested).0 ∙ a_is)
      (sym (ids_printed w frame t tested).1 ∙ b_is) within)

  pub heat_law : (lines : List (List ℕ)) → HeatLaw a b i lines
  heat_law lines =
      let heat : Remembers a b i (reached lines).world (contacts_of a b i lines) =
      lines_remembered lines fresh_server [] fresh_remembered in
      record {
        remembered = heat.ids;
        counted = heat.touches;
        aged = heat.ages;
        next_test = next_printed (reached lines) (contacts_of a b i lines) heat;
      }
