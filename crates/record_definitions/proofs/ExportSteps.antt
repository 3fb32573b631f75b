-- The frames of the export in a program: an outline is accepted or refused with 1 to 5, a placement of it accepted or
-- refused with 6, and the test of two outlines answers or is refused by the contact or its world points.
-- Assumes nothing.
use Prim.Native.Nat.{ℕ, ◌%◌, ◌≤◌}
use mathlib.Core.Path.{◌≡◌, refl, sym, ◌∙◌, ap, ap₂, subst}
use mathlib.Core.Bool.{true, false, not, cond, ◌&&◌, ◌||◌}
use mathlib.Core.List.{List, [], append-nil}
use mathlib.Core.Option.{Option, none, some}
use native.Mathlib.Omega.{arith}
use lib.Dec.{eqb, ltb}
use lib.Ieee.{lt}
use lib.ListN.{length, get_or, set}
use lib.Seq.{get_or-set_same, get_or-set_other}
use borrow.Author.Tests.{eqb-false}
use Rattle.algebra.proofs.Booleans.{by_test}
use Rattle.floats.specs.declared.b2_math.B2vec2.{B2vec2}
use Rattle.floats.specs.B2Common.{b2_epsilon}
use Rattle.floats.specs.Ranges.{point_in_range, transform_in_range}
use Rattle.lines.specs.Hex.{line_of}
use Rattle.lines.specs.Fields.{byte_at, points_at, placement_at}
use Rattle.shape_definitions.specs.declared.b2_polygon_shape.B2polygonShape.{B2polygonShape}
use Rattle.shape_definitions.specs.declared.b2_polygon_shape.PolygonAnswer.{PolygonAnswer}
use Rattle.shape_definitions.specs.Outline.{welded, row, edges, long_enough, fan}
use Rattle.shape_definitions.specs.Polygon.{b2_polygon_shape_set, outline_of_welded, outline_of_row, outline_of_corners}
use Rattle.shape_definitions.specs.Polygon.{all_points}
use Rattle.shape_definitions.specs.Refusal.{accepted, placement_out_of_range}
use Rattle.contact_definitions.proofs.Counts.{either}
use Rattle.record_definitions.specs.declared.world.Body.{Body}
use Rattle.record_definitions.specs.declared.world.Pair.{Pair}
use Rattle.record_definitions.specs.declared.world.World.{World}
use Rattle.record_definitions.specs.declared.touch.TestAnswer.{TestAnswer}
use Rattle.record_definitions.specs.declared.touch.Touch.{Touch}
use Rattle.record_definitions.specs.declared.frame.Answer.{Answer}
use Rattle.record_definitions.specs.declared.frame.Answer.TheVariants.{Accepted, Refused, Tested}
use Rattle.record_definitions.specs.declared.frame.Change.{Change}
use Rattle.record_definitions.specs.declared.frame.Said.{Said}
use Rattle.record_definitions.specs.World.{outline_kind, blank_outline, outline_body, placed, blank_body, body_at}
use Rattle.record_definitions.specs.World.{pair_at, chain_kind, kept_of}
use Rattle.record_definitions.specs.Touch.{tested, piece_tested, first_refusal}
use Rattle.record_definitions.specs.Answer.{touch_bytes, said_alone, said_bytes, touch_lines}
use Rattle.record_definitions.specs.Answer.{said_line}
use Rattle.record_definitions.specs.Frame.{frame_length, well_formed, largest_id, frame_refusal, outline_change}
use Rattle.record_definitions.specs.Frame.{place_change, listed, test_refusal, test_answered, test_change}
use Rattle.record_definitions.specs.Frame.{change_of_kind, change, further_tests}
use Rattle.record_definitions.specs.OneFrame.{first_place, second_place, changed, change_in, after_frame}
use Rattle.record_definitions.specs.OneFrame.{said_of_frame}
use Rattle.record_definitions.specs.Export.{test_frame}
use Rattle.record_definitions.proofs.FrameRefusals.{not_refused_alone}
use Rattle.record_definitions.proofs.Pairs.{within_place}
use Rattle.record_definitions.proofs.Sound.{Sound}
use Rattle.record_definitions.proofs.PieceTests.{no_further_tests, only_test}
use Rattle.record_definitions.proofs.ExportFrames.{ExportFrame}

-- ---- the builder's refusals
AtMostFive : PolygonAnswer → Type 0
AtMostFive answer = answer.refusal ≤ 5

of_row : (old : B2polygonShape) (ps : List B2vec2) (walked : Option (List ℕ))
    → AtMostFive (outline_of_row old ps walked)
unfolding AtMostFive outline_of_corners
of_row old ps none = omega arith
of_row old ps (some places) =
    either AtMostFive (ltb (length places) 3) _ _ (omega arith)
    (either AtMostFive (long_enough (edges _) && lt b2_epsilon (fan _).area) _ _ (omega arith) (omega arith))

builder_refusal : (old : B2polygonShape) (points : List B2vec2) → (b2_polygon_shape_set old points).refusal ≤ 5
unfolding b2_polygon_shape_set outline_of_welded AtMostFive
builder_refusal old points =
    let ps = welded points in
    either AtMostFive (ltb (length points) 3 || ltb 8 (length points)) _ _ (omega arith)
    (either AtMostFive (not (all_points point_in_range points)) _ _ (omega arith)
    (either AtMostFive (ltb (length ps) 3) _ _ (omega arith) (of_row old ps (row ps))))

-- ---- what such a frame makes of its body: it is accepted and there is an outline, or it is refused with such a number
pub data OutlineOr (Number : ℕ → Type 0) (answer : Answer) (body : Body) : Type 0 where
  taken : answer ≡ Accepted → body.kind ≡ outline_kind → OutlineOr Number answer body
  refused : (n : ℕ) → answer ≡ Refused n → (n ≡ 0 → ⊥) → Number n → OutlineOr Number answer body

abbrev Made : (ℕ → Type 0) → Change → Type 0
Made Number c = OutlineOr Number c.said.answer c.body

module _ (a b : Body) (pair : Pair) (frame : List ℕ) where
  of_its_kind : (kind : ℕ) → byte_at frame 0 ≡ kind → (kind ≡ 5 → ⊥) → byte_at frame 1 ≤ largest_id
      → well_formed frame ≡ true → change a b pair frame ≡ change_of_kind kind a b pair frame
  unfolding change
  of_its_kind kind kind_is no_test known formed =
      rw (not_refused_alone frame formed known (λ five. no_test (sym kind_is ∙ five)))
      (ap (λ (k : ℕ). change_of_kind k a b pair frame) kind_is)

  outline_made : Made (λ (n : ℕ). n ≤ 5) (outline_change a pair frame)
  unfolding outline_change outline_body
  outline_made =
      let built = b2_polygon_shape_set blank_outline (points_at frame 3 (byte_at frame 2)) in
      by_test (eqb built.refusal accepted)
      (λ is. taken (rw is refl) (rw is refl))
      (λ not. refused built.refusal (rw not refl) (eqb-false built.refusal accepted not) (builder_refusal _ _))

  placed_or_not : a.kind ≡ outline_kind → Made (λ (n : ℕ). n ≡ placement_out_of_range) (place_change a pair frame)
  unfolding place_change placed
  placed_or_not is =
      by_test (transform_in_range (placement_at frame 2))
      (λ inside. taken (rw (is, inside) refl) (rw (is, inside) refl))
      (λ out. refused placement_out_of_range (rw (is, out) refl) (λ e. omega arith) refl)

-- ---- the test of two outlines: it answers in one line, or is refused with the number of their test
pub data TestedOr (number : ℕ) (said : Said) : Type 0 where
  answers : (t : Touch) → said.answer ≡ Tested t → said_line said ≡ line_of (said_bytes said) → TestedOr number said
  refused_so : said.answer ≡ Refused number → (number ≡ 0 → ⊥) → TestedOr number said

module _ (a b : Body) (pair : Pair) (a_is : a.kind ≡ outline_kind) (b_is : b.kind ≡ outline_kind) where
  abbrev only : TestAnswer
  only = tested 0 1 a b (kept_of pair 0)

  no_chain : eqb a.kind chain_kind ≡ false
  no_chain = ap (λ (kind : ℕ). eqb kind chain_kind) a_is

  test_is : change a b pair test_frame ≡ test_answered a pair only []
  unfolding change change_of_kind frame_refusal well_formed frame_length test_change test_refusal listed
  test_is =
      ap₂ (λ (kinda kindb : ℕ). cond (eqb (test_refusal 0 1 kinda kindb) accepted)
      (test_answered a pair (piece_tested 0 1 a b pair 0) (further_tests 0 1 a b pair))
      (record {
        said = said_alone (Refused (test_refusal 0 1 kinda kindb));
        body = a;
        pair = pair;
        forget = false;
      })) a_is b_is
      ∙ ap₂ (test_answered a pair) (only_test a no_chain 0 1 b pair) (no_further_tests a no_chain 0 1 b pair)

  answered : TestedOr only.refusal (test_answered a pair only []).said
  unfolding first_refusal touch_lines
  answered =
      by_test (eqb only.refusal accepted)
      (λ is. answers only.touch (rw is refl) (rw is (append-nil (line_of (touch_bytes only.touch)))))
      (λ not. refused_so (rw (not, not) refl) (eqb-false only.refusal accepted not))

-- ---- in a world
module _ (w : World) (sound : Sound w) (id : ℕ) (known : id ≤ largest_id) (frame : List ℕ) where
  -- the body that the frame names
  module _ (kind : ℕ) (given : ExportFrame kind id frame) where
    abbrev pair : Pair
    pair = pair_at w id (second_place frame)

    abbrev other : Body
    other = body_at w (second_place frame)

    there : first_place frame ≡ id
    there = ap (λ (n : ℕ). n % 8) given.id_is ∙ within_place id known

    in_world : (kind ≡ 5 → ⊥) → change_in w frame ≡ change_of_kind kind (body_at w id) other pair frame
    unfolding change_in
    in_world no_test =
        ap (λ (i : ℕ). change (body_at w i) other (pair_at w i (second_place frame)) frame) there
        ∙ of_its_kind (body_at w id) other pair frame kind given.kind_is no_test (rw given.id_is known)
        given.formed

    said_there : (kind ≡ 5 → ⊥)
        → (said_of_frame w frame).answer ≡ (change_of_kind kind (body_at w id) other pair frame).said.answer
    unfolding said_of_frame
    said_there no_test = ap (λ (c : Change). c.said.answer) (in_world no_test)

    body_there : (kind ≡ 5 → ⊥)
        → body_at (after_frame w frame) id ≡ (change_of_kind kind (body_at w id) other pair frame).body
    unfolding after_frame changed
    body_there no_test =
        ap (λ (i : ℕ). get_or (set w.bodies i (change_in w frame).body) id blank_body) there
        ∙ get_or-set_same w.bodies id (change_in w frame).body blank_body (omega (arith, sound.bodies_size))
        ∙ ap (λ (c : Change). c.body) (in_world no_test)

    pub others_stay : (j : ℕ) → (j ≡ id → ⊥) → body_at (after_frame w frame) j ≡ body_at w j
    unfolding after_frame changed
    others_stay j apart =
        ap (λ (i : ℕ). get_or (set w.bodies i (change_in w frame).body) j blank_body) there
        ∙ get_or-set_other w.bodies id j (change_in w frame).body blank_body apart

  abbrev pub InWorld : (ℕ → Type 0) → Type 0
  InWorld Number = OutlineOr Number (said_of_frame w frame).answer (body_at (after_frame w frame) id)

  pub outline_step : ExportFrame 2 id frame → InWorld (λ (n : ℕ). n ≤ 5)
  unfolding change_of_kind
  outline_step given =
      rw (said_there 2 given (λ e. omega arith), body_there 2 given (λ e. omega arith))
      (outline_made (body_at w id) (other 2 given) (pair 2 given) frame)

  pub place_step : (body_at w id).kind ≡ outline_kind → ExportFrame 4 id frame
      → InWorld (λ (n : ℕ). n ≡ placement_out_of_range)
  unfolding change_of_kind
  place_step is given =
      rw (said_there 4 given (λ e. omega arith), body_there 4 given (λ e. omega arith))
      (placed_or_not (body_at w id) (other 4 given) (pair 4 given) frame is)

-- outlines under 0 and 1
pub test_step : (w : World) → (body_at w 0).kind ≡ outline_kind → (body_at w 1).kind ≡ outline_kind
    → TestedOr (tested 0 1 (body_at w 0) (body_at w 1) (kept_of (pair_at w 0 1) 0)).refusal
    (said_of_frame w test_frame)
unfolding said_of_frame change_in
test_step w a_is b_is =
    let a = body_at w 0 in
    let b = body_at w 1 in
    let pair = pair_at w 0 1 in
    subst (λ (c : Change). TestedOr (tested 0 1 a b (kept_of pair 0)).refusal c.said)
    (sym (test_is a b pair a_is b_is)) (answered a b pair a_is b_is)
