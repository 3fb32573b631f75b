-- The headline laws of the touch record, document 01: what is printed is `touches` of the input however it is split; a
-- refusal changes no state; which frame changes which pair; what an answer's bytes are; which refusals a test cannot
-- meet. TestTheorem has those of a test that answers. Bodies only cite. Assumes nothing.
use Prim.Native.Nat.{ℕ, ◌≤◌}
use mathlib.Core.Path.{◌≡◌, sym, ◌∙◌, ap}
use mathlib.Core.Bool.{cond}
use mathlib.Core.List.{List, [], ◌∷◌}
use lib.Dec.{eqb}
use lib.ListN.{length}
use Rattle.lines.specs.Fields.{byte_at}
use Rattle.lines.specs.Hex.{frame_of}
use Rattle.record_definitions.specs.declared.world.World.{World}
use Rattle.record_definitions.specs.declared.touch.Touch.{Touch}
use Rattle.record_definitions.specs.declared.frame.Answer.TheVariants.{Accepted, Refused}
use Rattle.record_definitions.specs.declared.frame.Said.{Said}
use Rattle.record_definitions.specs.declared.server.Server.{Server}
use Rattle.record_definitions.specs.World.{fresh_pair, body_at, pair_at}
use Rattle.record_definitions.specs.Frame.{largest_id}
use Rattle.record_definitions.specs.Answer.{touch_bytes, said_bytes, said_line}
use Rattle.record_definitions.specs.Answer.{longest_answer, longest_said, most_further}
use Rattle.record_definitions.specs.OneFrame.{first_place, second_place, change_in, after_frame, said_of_frame}
use Rattle.record_definitions.specs.Server.{fresh_server, after_line, Framed, reply_to, reply_line, after_lines}
use Rattle.record_definitions.specs.Server.{reached}
use Rattle.record_definitions.specs.Touches.{touches}
use Rattle.record_definitions.specs.Reading.{begin, fed_pieces, joined}
use Rattle.record_definitions.proofs.Replies.{said_framed}
use Rattle.record_definitions.proofs.Pieces.{split_anyhow}
use Rattle.record_definitions.proofs.Refusing.{after_refused}
use Rattle.record_definitions.proofs.Changes.{NewShape, Placing}
use Rattle.record_definitions.proofs.Pairs.{shape_forgets_its_pairs, shape_keeps_other_pairs}
use Rattle.record_definitions.proofs.Pairs.{placement_keeps_pairs}
use Rattle.record_definitions.proofs.AnswerLengths.{touch_size, said_within, line_within}
use Rattle.record_definitions.proofs.Sound.{Sound}
use Rattle.record_definitions.proofs.SoundKept.{fresh_sound, frame_keeps_sound}
use Rattle.record_definitions.proofs.SoundTests.{NotOfHost}
use Rattle.record_definitions.proofs.SoundFrames.{test_frame_fine}

-- ---- however the reads split the input, what is printed is `touches` of it
pub split_input : (pieces : List (List ℕ)) → fed_pieces reply_line begin pieces ≡ touches (joined pieces)
unfolding touches
split_input pieces = split_anyhow reply_line pieces

-- ---- a line that is refused changes nothing
pub refused_changes_nothing : (s : Server) (line : List ℕ) (said : Said) (n : ℕ) → reply_to s line ≡ Framed said
    → said.answer ≡ Refused n → after_line s line ≡ s
refused_changes_nothing s line said n is refuses =
    let framed = said_framed s line said is in
    framed.1
    ∙ ap (λ (w : World). record { world = w; steps = s.steps })
    (after_refused s.world (frame_of line) n (ap (λ (of : Said). of.answer) (sym framed.0) ∙ refuses))

-- ---- every world that lines reach is sound: eight bodies and 64 pairs, each as accepted frames left it
lines_keep_sound : (s : Server) (lines : List (List ℕ)) → Sound s.world → Sound (after_lines s lines).world
lines_keep_sound s [] sound = sound
lines_keep_sound s ([] ∷ lines) sound = lines_keep_sound (after_line s []) lines sound
lines_keep_sound s ((c ∷ line) ∷ lines) sound =
    lines_keep_sound (after_line s (c ∷ line)) lines (frame_keeps_sound s.world (frame_of (c ∷ line)) sound)

pub reached_worlds_sound : (lines : List (List ℕ)) → Sound (reached lines).world
reached_worlds_sound lines = lines_keep_sound fresh_server lines fresh_sound

-- ---- a frame that defines a shape, accepted: the pairs of its id are fresh, in both orders, and no other changes
module _ (w : World) (frame : List ℕ) (new : NewShape (byte_at frame 0))
    (taken : (said_of_frame w frame).answer ≡ Accepted) where
  pub new_shape_forgets : (x : ℕ) → x ≤ largest_id
      → (pair_at (after_frame w frame) (byte_at frame 1) x ≡ fresh_pair)
      × (pair_at (after_frame w frame) x (byte_at frame 1) ≡ fresh_pair)
  new_shape_forgets x small = shape_forgets_its_pairs w frame new taken x small

  pub new_shape_keeps_others : (x y : ℕ) → x ≤ largest_id → y ≤ largest_id → (x ≡ byte_at frame 1 → ⊥)
      → (y ≡ byte_at frame 1 → ⊥) → pair_at (after_frame w frame) x y ≡ pair_at w x y
  new_shape_keeps_others x y x_small y_small no_x no_y =
      shape_keeps_other_pairs w frame new taken x y x_small y_small no_x no_y

-- ---- a frame that places a body changes no pair
pub placing_changes_no_pair : (w : World) (frame : List ℕ) → Placing (byte_at frame 0)
    → (after_frame w frame).pairs ≡ w.pairs
placing_changes_no_pair w frame placing = placement_keeps_pairs w frame placing

-- ---- an answer's bytes: 1, 2, or by the number of points 13, 37 or 53; never more than the longest answer, and its
-- lines never more than seven such
pub result_bytes : (t : Touch) → length (touch_bytes t) ≡ cond (eqb t.count 0) 13 (cond (eqb t.count 1) 37 53)
result_bytes t = touch_size t

pub answers_fit : (said : Said) → length said.more ≤ most_further
    → (length (said_bytes said) ≤ longest_answer) × (length (said_line said) ≤ longest_said)
answers_fit said few = (said_within said, line_within said few)

-- ---- in a sound world no test is refused with 6 or 7
pub test_not_of_host : (w : World) (frame : List ℕ) (n : ℕ) → Sound w → byte_at frame 0 ≡ 5
    → (said_of_frame w frame).answer ≡ Refused n → NotOfHost n
unfolding said_of_frame change_in
test_not_of_host w frame n sound five is =
    let a = first_place frame in
    let b = second_place frame in
    test_frame_fine (body_at w a) (body_at w b) (pair_at w a b) frame (sound.each a) (sound.each b) five n is
