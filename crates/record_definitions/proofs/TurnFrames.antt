-- Document 02, request 01: the theorem of frame 06 (`turn_frames`). Frames 04 and 06 end in one definition,
-- `placed_at_lem`, so what is to be shown is that the bytes are read back. Assumes nothing.
use Prim.Native.Nat.{ℕ, zero, suc, ◌+◌, ◌*◌, ◌/◌, ◌%◌, ◌^◌, ◌≤◌, ◌<◌}
use mathlib.Core.Path.{◌≡◌, refl, sym, ap, ap₂, ◌∙◌}
use mathlib.Core.Bool.{true, false, not, cond}
use mathlib.Core.List.{List, [], ◌∷◌}
use native.Mathlib.Omega.{arith}
use lib.Dec.{T, eqb, ltb}
use lib.ListN.{length}
use lib.Seq.{set-get_or}
use lib.Ieee.{Float, binary32, fits, of_bits, to_bits}
use lib.Ieee.Bits.{is_true, of_bits-to_bits, to_bits-lt}
use borrow.Author.Tests.{eqb-true, ne_eqb, lt-ltb, le-ltb, ltb-false}
use Rattle.algebra.proofs.Booleans.{by_test}
use Rattle.floats.specs.declared.b2_math.B2Rot.{B2Rot}
use Rattle.floats.specs.B2Math.{rot}
use Rattle.floats.specs.Ranges.{point_in_range, rotation_in_range, transform_in_range}
use Rattle.headings.specs.Headings.{heading}
use Rattle.headings.proofs.Theorem.{heading_is, heading_in_range}
use Rattle.lines.specs.Fields.{byte_at, float_at, vector_at, rotation_at, placement_at, float_bytes}
use Rattle.shape_definitions.specs.Refusal.{accepted, placement_out_of_range, malformed_frame, unknown_id, no_shape}
use Rattle.shape_definitions.specs.Refusal.{unknown_turn}
use Rattle.contact_definitions.proofs.Counts.{either}
use Rattle.record_definitions.specs.declared.world.Body.{Body}
use Rattle.record_definitions.specs.declared.world.Pair.{Pair}
use Rattle.record_definitions.specs.declared.world.World.{World}
use Rattle.record_definitions.specs.declared.frame.Answer.TheVariants.{Accepted, Refused}
use Rattle.record_definitions.specs.declared.frame.Change.{Change}
use Rattle.record_definitions.specs.World.{no_body, placed, fresh_pair, body_at, pair_at, pair_place}
use Rattle.record_definitions.specs.Frame.{frame_length, well_formed, largest_id, frame_refusal, moved}
use Rattle.record_definitions.specs.Frame.{place_change, largest_turn, turn_at, turned_placement}
use Rattle.record_definitions.specs.Frame.{turn_change, change_of_kind, change}
use Rattle.record_definitions.specs.OneFrame.{first_place, second_place, changed, change_in, after_frame}
use Rattle.record_definitions.specs.OneFrame.{said_of_frame}
use Rattle.record_definitions.specs.TurnFrames.{frame_by_turn, frame_by_heading, turn_refusal, answer_of, turned}
use Rattle.record_definitions.specs.TurnFrames.{TurnFrames}

-- ---- numbers read back from their bytes
two_bytes : (n : ℕ) → n / 256 * 256 + n % 256 ≡ n
two_bytes n = omega arith

four_bytes : (n : ℕ) → n < 2 ^ 32
    → ((n / 256 ^ 3 % 256 * 256 + n / 256 ^ 2 % 256) * 256 + n / 256 % 256) * 256 + n % 256 ≡ n
four_bytes n small =
    let second : n / 256 ^ 2 ≡ n / 256 / 256 = omega arith in
    let first : n / 256 ^ 3 ≡ n / 256 / 256 / 256 = omega arith in
    let top : n / 256 ^ 3 % 256 ≡ n / 256 ^ 3 = omega arith in
    rw (top, first, second, two_bytes (n / 256 / 256), two_bytes (n / 256)) (two_bytes n)

float_back : (x : Float) → T (fits binary32 x) → float_at (float_bytes x) 0 ≡ x
float_back x x_Fits =
    ap (of_bits binary32) (four_bytes (to_bits binary32 x) (to_bits-lt binary32 x x_Fits))
    ∙ of_bits-to_bits binary32 x x_Fits

-- ---- frame 06 is frame 04
module _ (id : ℕ) (x0 x1 x2 x3 y0 y1 y2 y3 turn : ℕ) (known : turn ≤ largest_turn) where
  abbrev by_turn : List ℕ
  by_turn = frame_by_turn id (x0 ∷ x1 ∷ x2 ∷ x3 ∷ y0 ∷ y1 ∷ y2 ∷ y3 ∷ []) turn

  abbrev by_heading : List ℕ
  by_heading = frame_by_heading id (x0 ∷ x1 ∷ x2 ∷ x3 ∷ y0 ∷ y1 ∷ y2 ∷ y3 ∷ []) turn

  placement_same : turned_placement by_turn ≡ placement_at by_heading 2
  unfolding placement_at rotation_at vector_at
  placement_same =
      let is = heading_is turn in
      ap (λ (q : B2Rot). record { p = vector_at by_turn 2; q = q })
      (ap heading (two_bytes turn)
      ∙ ap₂ rot (sym (float_back (heading turn).s is.sine.own.in_format))
      (sym (float_back (heading turn).c is.cosine.own.in_format)))

  change_same : (a b : Body) (pair : Pair) → change a b pair by_turn ≡ change a b pair by_heading
  unfolding change frame_refusal well_formed frame_length change_of_kind turn_change place_change
  change_same a b pair =
      rw (placement_same, le-ltb largest_turn (turn_at by_turn 10) (rw (two_bytes turn) known)) refl

  -- in a world
  module _ (w : World) where
    change_in_same : change_in w by_turn ≡ change_in w by_heading
    unfolding change_in
    change_in_same = change_same (body_at w (id % 8)) (body_at w (x0 % 8)) (pair_at w (id % 8) (x0 % 8))

    says_same : said_of_frame w by_turn ≡ said_of_frame w by_heading
    unfolding said_of_frame
    says_same = ap (λ (c : Change). c.said) change_in_same

    leaves_same : after_frame w by_turn ≡ after_frame w by_heading
    unfolding after_frame
    leaves_same = ap (changed w (id % 8) (x0 % 8)) change_in_same

-- what holds of every row of n numbers holds of every list of length n
OfRows : ℕ → (List ℕ → Type 0) → Type 0
OfRows zero P = P []
OfRows (suc n) P = (b : ℕ) → OfRows n (λ l. P (b ∷ l))

of_list : (n : ℕ) (P : List ℕ → Type 0) → OfRows n P → (l : List ℕ) → length l ≡ n → P l
unfolding OfRows
of_list zero P each [] size = each
of_list zero P each (b ∷ l) size = absurd (omega arith)
of_list (suc n) P each [] size = absurd (omega arith)
of_list (suc n) P each (b ∷ l) size = of_list n (λ l. P (b ∷ l)) (each b) l (omega arith)

module _ (w : World) (id : ℕ) (position : List ℕ) (turn : ℕ) (size : length position ≡ 8)
    (known : turn ≤ largest_turn) where
  says_as_04 : said_of_frame w (frame_by_turn id position turn) ≡ said_of_frame w (frame_by_heading id position turn)
  unfolding OfRows
  says_as_04 =
      of_list 8 (λ l. said_of_frame w (frame_by_turn id l turn) ≡ said_of_frame w (frame_by_heading id l turn))
      (λ x0 x1 x2 x3 y0 y1 y2 y3. says_same id x0 x1 x2 x3 y0 y1 y2 y3 turn known w) position size

  leaves_as_04 : after_frame w (frame_by_turn id position turn) ≡ after_frame w (frame_by_heading id position turn)
  unfolding OfRows
  leaves_as_04 =
      of_list 8 (λ l. after_frame w (frame_by_turn id l turn) ≡ after_frame w (frame_by_heading id l turn))
      (λ x0 x1 x2 x3 y0 y1 y2 y3. leaves_same id x0 x1 x2 x3 y0 y1 y2 y3 turn known w) position size

-- ---- any frame of the kind
not_taken : (n : ℕ) → Refused n ≡ Accepted → ⊥
not_taken n is = let never : ◌≡◌ {A = ℕ} 0 1 = cc in omega arith

module _ (w : World) (frame : List ℕ) (six : byte_at frame 0 ≡ 6) where
  abbrev id : ℕ
  id = byte_at frame 1

  -- of twelve bytes and an id up to 7, it is what `turn_change` says of the body of that id
  module _ (sized : length frame ≡ 12) (named : id ≤ largest_id) where
    is_turn_change : change_in w frame ≡ turn_change (body_at w id) (pair_at w id (second_place frame)) frame
    unfolding change_in change frame_refusal well_formed frame_length change_of_kind
    is_turn_change =
        let place : id % 8 ≡ id = omega arith in
        rw (place, six, sized, le-ltb largest_id id named) refl

  -- by its four tests
  module _ (body : Body) (pair : Pair) where
    turns : rotation_in_range (heading (turn_at frame 10)) ≡ true
    turns = is_true (rotation_in_range (heading (turn_at frame 10))) (heading_in_range (turn_at frame 10))

    says_turn_change : (turn_change body pair frame).said.answer
        ≡ answer_of (cond (eqb body.kind no_body) no_shape
        (cond (ltb largest_turn (turn_at frame 10)) unknown_turn
        (cond (not (point_in_range (vector_at frame 2))) placement_out_of_range accepted)))
    unfolding turn_change transform_in_range
    says_turn_change =
        by_test (eqb body.kind no_body) (λ none. rw none refl)
        (λ some. by_test (ltb largest_turn (turn_at frame 10)) (λ above. rw (some, above) refl)
        (λ known. by_test (point_in_range (vector_at frame 2)) (λ inside. rw (some, known, inside, turns) refl)
        (λ out. rw (some, known, out) refl)))

    moves_turn_change : (turn_change body pair frame).said.answer ≡ Accepted
        → turn_change body pair frame ≡ moved (placed body (turned_placement frame)) pair
    unfolding turn_change transform_in_range
    moves_turn_change taken =
        by_test (eqb body.kind no_body) (λ none. absurd (not_taken no_shape (rw none at taken)))
        (λ some. by_test (ltb largest_turn (turn_at frame 10))
        (λ above. absurd (not_taken unknown_turn (rw (some, above) at taken)))
        (λ known. by_test (point_in_range (vector_at frame 2)) (λ inside. rw (some, known, inside, turns) refl)
        (λ out. absurd (not_taken placement_out_of_range (rw (some, known, out) at taken)))))

  malformed : eqb (length frame) 12 ≡ false → (change_in w frame).said.answer ≡ Refused malformed_frame
  unfolding change_in change frame_refusal well_formed frame_length
  malformed other = rw (six, other) refl

  unnamed : eqb (length frame) 12 ≡ true → ltb largest_id id ≡ true
      → (change_in w frame).said.answer ≡ Refused unknown_id
  unfolding change_in change frame_refusal well_formed frame_length
  unnamed sized unknown = rw (six, sized, unknown) refl

  answers : (said_of_frame w frame).answer ≡ answer_of (turn_refusal w frame)
  unfolding said_of_frame
  answers =
      by_test (eqb (length frame) 12)
      (λ sized. by_test (ltb largest_id id)
      (λ unknown. unnamed sized unknown ∙ rw (sized, unknown) refl)
      (λ known. ap (λ (c : Change). c.said.answer)
      (is_turn_change (eqb-true (length frame) 12 sized) (omega (arith, ltb-false largest_id id known)))
      ∙ says_turn_change (body_at w id) (pair_at w id (second_place frame)) ∙ rw (sized, known) refl))
      (λ other. malformed other ∙ rw other refl)

  places : (said_of_frame w frame).answer ≡ Accepted → after_frame w frame ≡ turned w frame
  unfolding said_of_frame after_frame changed
  places taken =
      by_test (eqb (length frame) 12)
      (λ size. by_test (ltb largest_id id)
      (λ unknown. absurd (not_taken unknown_id (sym (unnamed size unknown) ∙ taken)))
      (λ known. let named : id ≤ largest_id = omega (arith, ltb-false largest_id id known) in
      let pair = pair_at w id (second_place frame) in
      let is = is_turn_change (eqb-true (length frame) 12 size) named in
      let place : id % 8 ≡ id = omega arith in
      ap (changed w (first_place frame) (second_place frame))
      (is ∙ moves_turn_change (body_at w id) pair (ap (λ (c : Change). c.said.answer) (sym is) ∙ taken))
      ∙ rw (place, set-get_or w.pairs (pair_place id (second_place frame)) fresh_pair) refl))
      (λ other. absurd (not_taken malformed_frame (sym (malformed other) ∙ taken)))

  table_taken : length frame ≡ 12 → id ≤ largest_id → ((body_at w id).kind ≡ no_body → ⊥)
      → turn_at frame 10 ≤ largest_turn → point_in_range (vector_at frame 2) ≡ true
      → (said_of_frame w frame).answer ≡ Accepted
  table_taken size named some known inside =
      answers
      ∙ rw (
        size,
        le-ltb largest_id id named,
        ne_eqb (body_at w id).kind no_body some,
        le-ltb largest_turn (turn_at frame 10) known,
        inside,
      ) refl

  above : length frame ≡ 12 → id ≤ largest_id → largest_turn < turn_at frame 10
      → (said_of_frame w frame).answer ≡ Refused (cond (eqb (body_at w id).kind no_body) no_shape unknown_turn)
  above size named beyond =
      by_test (eqb (body_at w id).kind no_body) (λ none. answers ∙ rw (size, le-ltb largest_id id named, none) refl)
      (λ some. answers
      ∙ rw (size, le-ltb largest_id id named, some, lt-ltb largest_turn (turn_at frame 10) beyond) refl)

  six_of_position : (said_of_frame w frame).answer ≡ Refused placement_out_of_range
      → point_in_range (vector_at frame 2) ≡ false
  six_of_position is =
      by_test (point_in_range (vector_at frame 2))
      (λ inside. absurd (none_is_six inside (sym answers ∙ is)))
      (λ out. out)
    where
      NotSix : ℕ → Type 0
      NotSix number = answer_of number ≡ Refused placement_out_of_range → ⊥

      other : (n : ℕ) → (n ≡ 6 → ⊥) → Refused n ≡ Refused placement_out_of_range → ⊥
      other n not_six same = not_six cc

      none_is_six : point_in_range (vector_at frame 2) ≡ true → NotSix (turn_refusal w frame)
      none_is_six inside =
          rw inside (either NotSix (not (eqb (length frame) 12)) _ _ (other malformed_frame (λ e. omega arith))
          (either NotSix (ltb largest_id id) _ _ (other unknown_id (λ e. omega arith))
          (either NotSix (eqb (body_at w id).kind no_body) _ _ (other no_shape (λ e. omega arith))
          (either NotSix (ltb largest_turn (turn_at frame 10)) _ _ (other unknown_turn (λ e. omega arith))
          (λ same. not_taken placement_out_of_range (sym same))))))

pub turn_frames : TurnFrames
turn_frames = record {
  says_as_04 = says_as_04;
  leaves_as_04 = leaves_as_04;
  answers = answers;
  places = places;
  table_taken = table_taken;
  six_of_position = six_of_position;
  above = above;
}
