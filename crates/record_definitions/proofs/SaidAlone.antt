-- A frame that is no test that answers is answered in one line: what is said of it is said alone. Assumes nothing.
use Prim.Native.Nat.{ℕ}
use mathlib.Core.Path.{◌≡◌, refl, sym, ◌∙◌, ap}
use mathlib.Core.Bool.{Bool, cond}
use mathlib.Core.List.{List, append-nil}
use lib.Dec.{eqb}
use Rattle.lines.specs.Fields.{byte_at, points_at}
use Rattle.lines.specs.Hex.{line_of}
use Rattle.shape_definitions.specs.Circle.{circle_in_range}
use Rattle.shape_definitions.specs.Polygon.{b2_polygon_shape_set}
use Rattle.shape_definitions.specs.Refusal.{accepted}
use Rattle.contact_definitions.proofs.Counts.{either}
use Rattle.record_definitions.specs.declared.world.Body.{Body}
use Rattle.record_definitions.specs.declared.world.Pair.{Pair}
use Rattle.record_definitions.specs.declared.world.World.{World}
use Rattle.record_definitions.specs.declared.touch.Touch.{Touch}
use Rattle.record_definitions.specs.declared.frame.Answer.{Answer}
use Rattle.record_definitions.specs.declared.frame.Answer.TheVariants.{Tested}
use Rattle.record_definitions.specs.declared.frame.Change.{Change}
use Rattle.record_definitions.specs.World.{blank_outline, body_at, pair_at}
use Rattle.record_definitions.specs.Touch.{piece_tested, first_refusal}
use Rattle.record_definitions.specs.Answer.{answer_bytes, said_alone, touch_lines, said_line}
use Rattle.record_definitions.specs.Frame.{frame_refusal, refused, defined, circle_at, circle_change}
use Rattle.record_definitions.specs.Frame.{outline_change, wall_at, wall_change, chain_refusal, chain_change}
use Rattle.record_definitions.specs.Frame.{test_refusal, all_tests, test_change, change_of_kind, change}
use Rattle.record_definitions.specs.OneFrame.{first_place, second_place, change_in, said_of_frame}
use Rattle.record_definitions.proofs.Placements.{place_cases, turn_cases}

NoResult : Answer → Type 0
NoResult answer = (t : Touch) → answer ≡ Tested t → ⊥

Alone : Change → Type 0
Alone c = NoResult c.said.answer → c.said ≡ said_alone c.said.answer

module _ (a b : Body) (pair : Pair) (bytes : List ℕ) where
  built_alone : (t : Bool) (n : ℕ) (made : Body) → Alone (cond t (defined made pair) (refused n a pair))
  unfolding Alone
  built_alone t n made = either Alone t _ _ (λ none. refl) (λ none. refl)

  test_alone : (ida idb : ℕ) → Alone (test_change ida idb a b pair)
  unfolding test_change Alone NoResult
  test_alone ida idb =
      either Alone (eqb (test_refusal ida idb a.kind b.kind) accepted) _ _
      (either Alone (eqb (first_refusal (all_tests ida idb a b pair)) accepted) _ _
      (λ none. absurd (none (piece_tested ida idb a b pair 0).touch refl)) (λ none. refl))
      (λ none. refl)

  kind_alone : (kind : ℕ) → Alone (change_of_kind kind a b pair bytes)
  unfolding change_of_kind circle_change outline_change wall_change chain_change Alone
  kind_alone kind =
      let built = b2_polygon_shape_set blank_outline (points_at bytes 3 (byte_at bytes 2)) in
      either Alone (eqb kind 1) _ _ (built_alone (circle_in_range (circle_at bytes)) _ _)
      (either Alone (eqb kind 2) _ _ (built_alone (eqb built.refusal accepted) _ _)
      (either Alone (eqb kind 3) _ _ (built_alone (eqb (wall_at bytes).refusal accepted) _ _)
      (either Alone (eqb kind 4) _ _ (place_cases a pair bytes Alone (λ n none. refl) (λ xf inside none. refl))
      (either Alone (eqb kind 6) _ _ (turn_cases a pair bytes Alone (λ n none. refl) (λ xf inside none. refl))
      (either Alone (eqb kind 7) _ _ (built_alone (eqb (chain_refusal bytes) accepted) _ _)
      (test_alone (byte_at bytes 1) (byte_at bytes 2)))))))

  change_alone : Alone (change a b pair bytes)
  unfolding change Alone
  change_alone =
      either Alone (eqb (frame_refusal bytes) accepted) _ _ (kind_alone (byte_at bytes 0)) (λ none. refl)

module _ (w : World) (frame : List ℕ) (answer : Answer) (is : (said_of_frame w frame).answer ≡ answer)
    (none : (t : Touch) → answer ≡ Tested t → ⊥) where
  pub without_result : said_of_frame w frame ≡ said_alone answer
  unfolding said_of_frame change_in Alone NoResult
  without_result =
      let a = first_place frame in
      let b = second_place frame in
      change_alone (body_at w a) (body_at w b) (pair_at w a b) frame (λ t same. none t (sym is ∙ same))
      ∙ ap said_alone is

  pub one_line : said_line (said_of_frame w frame) ≡ line_of (answer_bytes answer)
  unfolding touch_lines
  one_line = ap said_line without_result ∙ append-nil (line_of (answer_bytes answer))
