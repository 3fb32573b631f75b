-- Document 02, request 01: what is shown of frame 06, a part for each clause (`TurnFrames`). Definitions only.
use Rattle.std.specs.Prelude.{ℕ, ◌/◌, ◌%◌, ◌≤◌, ◌<◌, ◌≡◌, true, false, not, cond, List, [], ◌∷◌, ◌++◌, eqb, ltb, length, set}
use Rattle.floats.specs.Ranges.{point_in_range}
use Rattle.headings.specs.Headings.{heading}
use Rattle.lines.specs.Fields.{byte_at, vector_at, float_bytes}
use Rattle.shape_definitions.specs.Refusal.{accepted, placement_out_of_range, malformed_frame, unknown_id, no_shape}
use Rattle.shape_definitions.specs.Refusal.{unknown_turn}
use Rattle.record_definitions.specs.declared.world.World.{World}
use Rattle.record_definitions.specs.declared.frame.Answer.{Answer}
use Rattle.record_definitions.specs.declared.frame.Answer.TheVariants.{Accepted, Refused}
use Rattle.record_definitions.specs.World.{no_body, placed, body_at}
use Rattle.record_definitions.specs.Frame.{largest_id, largest_turn, turn_at, turned_placement}
use Rattle.record_definitions.specs.OneFrame.{after_frame, said_of_frame}

-- 06, the id, the bytes of the position, the turn number in two bytes
abbrev pub frame_by_turn : ℕ → List ℕ → ℕ → List ℕ
frame_by_turn id position turn = 6 ∷ id ∷ (position ++ (turn / 256 ∷ turn % 256 ∷ []))

-- 04 with the same id and position, and the bits of the sine and of the cosine that the table gives
abbrev pub frame_by_heading : ℕ → List ℕ → ℕ → List ℕ
frame_by_heading id position turn =
    4 ∷ id ∷ (position ++ (float_bytes (heading turn).s ++ float_bytes (heading turn).c))

-- what frame 06 is turned down with, in the order of the tests; 0 for nothing
abbrev pub turn_refusal : World → List ℕ → ℕ
turn_refusal w frame =
    cond (not (eqb (length frame) 12)) malformed_frame
    (cond (ltb largest_id (byte_at frame 1)) unknown_id
    (cond (eqb (body_at w (byte_at frame 1)).kind no_body) no_shape
    (cond (ltb largest_turn (turn_at frame 10)) unknown_turn
    (cond (not (point_in_range (vector_at frame 2))) placement_out_of_range
    accepted))))

abbrev pub answer_of : ℕ → Answer
answer_of number = cond (eqb number accepted) Accepted (Refused number)

-- the world with the body of the frame's id at the frame's position and heading
abbrev pub turned : World → List ℕ → World
turned w frame =
    let id = byte_at frame 1 in
    record { bodies = set w.bodies id (placed (body_at w id) (turned_placement frame)); pairs = w.pairs }

pub record TurnFrames : Type 0 where
  -- frame 06 is frame 04 with the heading's bits: it says the same and leaves the same world, whatever the id and the
  -- position, refusals included
  pub says_as_04 : (w : World) (id : ℕ) (position : List ℕ) (turn : ℕ) → length position ≡ 8 → turn ≤ largest_turn
      → said_of_frame w (frame_by_turn id position turn) ≡ said_of_frame w (frame_by_heading id position turn)
  pub leaves_as_04 : (w : World) (id : ℕ) (position : List ℕ) (turn : ℕ) → length position ≡ 8 → turn ≤ largest_turn
      → after_frame w (frame_by_turn id position turn) ≡ after_frame w (frame_by_heading id position turn)
  -- its refusals and their order, 10, 11, 12, 14, 6, of any bytes of that kind: 6 is of the position alone
  pub answers : (w : World) (frame : List ℕ) → byte_at frame 0 ≡ 6
      → (said_of_frame w frame).answer ≡ answer_of (turn_refusal w frame)
  -- accepted, it places the body at the position and the heading, and changes nothing else
  pub places : (w : World) (frame : List ℕ) → byte_at frame 0 ≡ 6 → (said_of_frame w frame).answer ≡ Accepted
      → after_frame w frame ≡ turned w frame
  -- the table never causes a 6: with an id that has a shape, a turn number up to 4,095 and a position in range the
  -- frame is accepted, and 6 is said only where the position is out of range
  pub table_taken : (w : World) (frame : List ℕ) → byte_at frame 0 ≡ 6 → length frame ≡ 12
      → byte_at frame 1 ≤ largest_id → ((body_at w (byte_at frame 1)).kind ≡ no_body → ⊥)
      → turn_at frame 10 ≤ largest_turn → point_in_range (vector_at frame 2) ≡ true
      → (said_of_frame w frame).answer ≡ Accepted
  pub six_of_position : (w : World) (frame : List ℕ) → byte_at frame 0 ≡ 6
      → (said_of_frame w frame).answer ≡ Refused placement_out_of_range → point_in_range (vector_at frame 2) ≡ false
  -- above 4,095, whatever the position: 12 where the id has no shape, else 14
  pub above : (w : World) (frame : List ℕ) → byte_at frame 0 ≡ 6 → length frame ≡ 12 → byte_at frame 1 ≤ largest_id
      → largest_turn < turn_at frame 10
      → (said_of_frame w frame).answer
      ≡ Refused (cond (eqb (body_at w (byte_at frame 1)).kind no_body) no_shape unknown_turn)
