-- Document 02, request 05: an empty line ends a step (`empty_line`, `other_line`), the step number after some lines
-- (`steps_reached`), and what the program prints of all of its input (`steps_printed`). Assumes nothing.
use Prim.Native.Nat.{ℕ, suc, ◌+◌, min}
use mathlib.Core.Path.{◌≡◌, refl, sym, ◌∙◌, ap}
use mathlib.Core.Bool.{Bool, true, false, not}
use mathlib.Core.List.{List, [], ◌∷◌, ◌++◌, map, append_assoc}
use native.Mathlib.Omega.{arith}
use lib.Dec.{eqb}
use lib.ListN.{length, take}
use Rattle.contact_definitions.proofs.Counts.{either}
use Rattle.lines.specs.Hex.{frame_of, hex, line_of}
use Rattle.record_definitions.specs.declared.world.World.{World}
use Rattle.record_definitions.specs.declared.server.Server.{Server}
use Rattle.record_definitions.specs.declared.touch.Touch.{Touch}
use Rattle.record_definitions.specs.declared.frame.Answer.{Answer}
use Rattle.record_definitions.specs.declared.frame.Answer.TheVariants.{Accepted, Refused, Tested}
use Rattle.record_definitions.specs.declared.frame.Said.{Said}
use Rattle.record_definitions.specs.World.{largest_count}
use Rattle.record_definitions.specs.Answer.{head_bytes, touch_bytes, answer_bytes, said_bytes, touch_lines}
use Rattle.record_definitions.specs.Answer.{said_line}
use Rattle.record_definitions.specs.OneFrame.{after_frame, said_of_frame}
use Rattle.record_definitions.specs.Server.{fresh_server, after_line, Stepped}
use Rattle.record_definitions.specs.Server.{step_bytes, reply_line, after_lines, reached}
use Rattle.record_definitions.specs.Touches.{lines_from, printed_lines, touches}
use Rattle.record_definitions.specs.StepLaws.{EmptyLine, OtherLine, steps_ended, without_empty, StepsReached}
use Rattle.record_definitions.specs.StepLaws.{begins_0a, those, step_lines, StepsPrinted}
use Rattle.record_definitions.proofs.Replies.{after_framed, reply_framed}
use Rattle.record_definitions.proofs.LineFeeds.{AllFree, lines_free, lines_again, line_read}

-- ---- one line
pub empty_line : (s : Server) → EmptyLine s
empty_line s = record {
  world_stays = refl;
  raised = λ below. omega arith;
  held = λ largest. omega arith;
  printed = refl;
}

pub other_line : (s : Server) (line : List ℕ) → (length line ≡ 0 → ⊥) → OtherLine s line
other_line s line some = record {
  number_stays = ap (λ (t : Server). t.steps) (after_framed s line some);
  as_its_frame = ap (λ (t : Server). t.world) (after_framed s line some);
  says = reply_framed s line some;
}

-- ---- some lines
number_reached : (s : Server) (k : ℕ) (lines : List (List ℕ)) → s.steps ≡ min k largest_count
    → (after_lines s lines).steps ≡ min (k + steps_ended lines) largest_count
number_reached s k [] is = omega arith
number_reached s k ([] ∷ lines) is =
    number_reached (after_line s []) (suc k) lines (omega arith) ∙ ap (λ (n : ℕ). min n largest_count) (omega arith)
number_reached s k ((c ∷ line) ∷ lines) is = number_reached (after_line s (c ∷ line)) k lines is

world_reached : (s t : Server) (lines : List (List ℕ)) → s.world ≡ t.world
    → (after_lines s lines).world ≡ (after_lines t (without_empty lines)).world
world_reached s t [] same = same
world_reached s t ([] ∷ lines) same = world_reached (after_line s []) t lines same
world_reached s t ((c ∷ line) ∷ lines) same =
    world_reached (after_line s (c ∷ line)) (after_line t (c ∷ line)) lines
    (ap (λ (w : World). after_frame w (frame_of (c ∷ line))) same)

pub steps_reached : (lines : List (List ℕ)) → StepsReached lines
steps_reached lines =
    let number : (reached lines).steps ≡ min (steps_ended lines) largest_count =
    number_reached fresh_server 0 lines refl ∙ ap (λ (n : ℕ). min n largest_count) (omega arith) in
    record {
      number = number;
      next = ap Stepped (omega (arith, number));
      world = world_reached fresh_server fresh_server lines refl;
    }

-- ---- a printed line begins with `0a` only where it ends a step
touch_other : (t : Touch) → begins_0a (hex (touch_bytes t)) ≡ false
unfolding hex touch_bytes head_bytes
touch_other t =
    either (λ (bytes : List ℕ). begins_0a (hex bytes) ≡ false) (eqb t.count 0) _ _ refl
    (either (λ (bytes : List ℕ). begins_0a (hex bytes) ≡ false) (eqb t.count 1) _ _ refl refl)

answer_other : (answer : Answer) → begins_0a (hex (answer_bytes answer)) ≡ false
unfolding hex
answer_other Accepted = refl
answer_other (Refused n) = refl
answer_other (Tested t) = touch_other t

step_begins : (n : ℕ) → begins_0a (hex (step_bytes n)) ≡ true
unfolding hex
step_begins n = refl

-- ---- the lines of a reply, and the lines behind it
touches_read : List Touch → List (List ℕ)
touches_read touches = map (λ (t : Touch). hex (touch_bytes t)) touches

said_read : Said → List (List ℕ)
said_read said = hex (said_bytes said) ∷ touches_read (take said.further said.more)

read_touches : (touches : List Touch) (rest : List ℕ)
    → lines_from [] (touch_lines touches ++ rest) ≡ touches_read touches ++ lines_from [] rest
unfolding touch_lines touches_read
read_touches [] rest = refl
read_touches (t ∷ touches) rest =
    ap (lines_from []) (append_assoc (line_of (touch_bytes t)) (touch_lines touches) rest)
    ∙ line_read (touch_bytes t) (touch_lines touches ++ rest)
    ∙ ap (◌∷◌ (hex (touch_bytes t))) (read_touches touches rest)

read_said : (said : Said) (rest : List ℕ)
    → lines_from [] (said_line said ++ rest) ≡ said_read said ++ lines_from [] rest
unfolding said_read
read_said said rest =
    let more = take said.further said.more in
    ap (lines_from []) (append_assoc (line_of (said_bytes said)) (touch_lines more) rest)
    ∙ line_read (said_bytes said) (touch_lines more ++ rest)
    ∙ ap (◌∷◌ (hex (said_bytes said))) (read_touches more rest)

-- ---- those of them that a test picks: none that end a step, all others
touches_none : (touches : List Touch) (rest : List (List ℕ))
    → those begins_0a (touches_read touches ++ rest) ≡ those begins_0a rest
unfolding touches_read
touches_none [] rest = refl
touches_none (t ∷ touches) rest = rw (touch_other t) (touches_none touches rest)

said_none : (said : Said) (rest : List (List ℕ))
    → those begins_0a (said_read said ++ rest) ≡ those begins_0a rest
unfolding said_read
said_none said rest =
    rw (answer_other said.answer) (touches_none (take said.further said.more) rest)

other : List ℕ → Bool
other line = not (begins_0a line)

touches_all : (touches : List Touch) (rest : List (List ℕ))
    → those other (touches_read touches ++ rest) ≡ touches_read touches ++ those other rest
unfolding touches_read other
touches_all [] rest = refl
touches_all (t ∷ touches) rest = rw (touch_other t) (ap (◌∷◌ (hex (touch_bytes t))) (touches_all touches rest))

said_all : (said : Said) (rest : List (List ℕ))
    → those other (said_read said ++ rest) ≡ said_read said ++ those other rest
unfolding said_read other
said_all said rest =
    rw (answer_other said.answer)
    (ap (◌∷◌ (hex (said_bytes said))) (touches_all (take said.further said.more) rest))

step_passed : (n : ℕ) (rest : List (List ℕ)) → those other (hex (step_bytes n) ∷ rest) ≡ those other rest
unfolding other
step_passed n rest = rw (step_begins n) refl

-- ---- all lines
abbrev output : Server → List (List ℕ) → List ℕ
output s lines = printed_lines reply_line s lines

steps_from : (s : Server) (k : ℕ) (lines : List (List ℕ)) → s.steps ≡ min k largest_count
    → those begins_0a (lines_from [] (output s lines)) ≡ step_lines (suc k) (steps_ended lines)
unfolding printed_lines lines_from
steps_from s k [] is = refl
steps_from s k ([] ∷ lines) is =
    let n : (after_line s []).steps ≡ min (suc k) largest_count = omega arith in
    let raised = (after_line s []).steps in
    rw (line_read (step_bytes raised) (output (after_line s []) lines), step_begins raised)
    (ap (λ (m : ℕ). hex (step_bytes m) ∷ those begins_0a (lines_from [] (output (after_line s []) lines))) n
    ∙ ap (◌∷◌ (hex (step_bytes (min (suc k) largest_count)))) (steps_from (after_line s []) (suc k) lines n))
steps_from s k ((c ∷ line) ∷ lines) is =
    let said = said_of_frame s.world (frame_of (c ∷ line)) in
    let next = after_line s (c ∷ line) in
    ap (those begins_0a) (read_said said (output next lines))
    ∙ said_none said (lines_from [] (output next lines))
    ∙ steps_from next k lines is

others_from : (s t : Server) (lines : List (List ℕ)) → s.world ≡ t.world
    → those other (lines_from [] (output s lines)) ≡ lines_from [] (output t (without_empty lines))
unfolding printed_lines lines_from
others_from s t [] same = refl
others_from s t ([] ∷ lines) same =
    let n = (after_line s []).steps in
    ap (those other) (line_read (step_bytes n) (output (after_line s []) lines))
    ∙ step_passed n (lines_from [] (output (after_line s []) lines))
    ∙ others_from (after_line s []) t lines same
others_from s t ((c ∷ line) ∷ lines) same =
    let frame = frame_of (c ∷ line) in
    let said = said_of_frame s.world frame in
    let next = after_line s (c ∷ line) in
    let next' = after_line t (c ∷ line) in
    let rest = output next' (without_empty lines) in
    ap (those other) (read_said said (output next lines))
    ∙ said_all said (lines_from [] (output next lines))
    ∙ ap (◌++◌ (said_read said))
    (others_from next next' lines (ap (λ (w : World). after_frame w frame) same))
    ∙ sym (read_said said rest)
    ∙ ap (λ (w : World). lines_from [] (said_line (said_of_frame w frame) ++ rest)) same

others_free : (lines : List (List ℕ)) → AllFree lines → AllFree (without_empty lines)
others_free [] free = tt
others_free ([] ∷ lines) free = others_free lines free.1
others_free ((c ∷ line) ∷ lines) free = (free.0, others_free lines free.1)

pub steps_printed : (input : List ℕ) → StepsPrinted input
unfolding touches other
steps_printed input = record {
  steps = steps_from fresh_server 0 (lines_from [] input) refl;
  others =
      others_from fresh_server fresh_server (lines_from [] input) refl
      ∙ ap (λ (lines : List (List ℕ)). lines_from [] (output fresh_server lines))
      (sym (lines_again (without_empty (lines_from [] input))
      (others_free (lines_from [] input) (lines_free [] input tt))));
}
