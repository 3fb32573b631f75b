-- Document 02, request 05, "an empty line ends a step": of one line, of some lines from a fresh start, and of all that
-- the program prints. Definitions only.
use Rattle.std.specs.Prelude.{ℕ, zero, suc, ◌+◌, ◌≤◌, ◌<◌, min, ◌≡◌, Bool, false, not, cond, ◌&&◌, List, [], ◌∷◌, ◌++◌, eqb}
use Rattle.lines.specs.Fields.{number_bytes}
use Rattle.lines.specs.Hex.{frame_of, hex, line_of, line_feed}
use Rattle.record_definitions.specs.declared.server.Server.{Server}
use Rattle.record_definitions.specs.World.{largest_count}
use Rattle.record_definitions.specs.OneFrame.{after_frame, said_of_frame}
use Rattle.record_definitions.specs.Server.{after_line, Framed, Stepped, reply_to}
use Rattle.record_definitions.specs.Server.{step_bytes, reply_line, reached}
use Rattle.record_definitions.specs.Touches.{lines_from, touches}

-- ---- one line, in any state
pub record EmptyLine (s : Server) : Type 0 where
  -- no body, contact or count changes: the world is all of them
  pub world_stays : (after_line s []).world ≡ s.world
  -- the step number is raised, and holds at its largest
  pub raised : s.steps < largest_count → (after_line s []).steps ≡ s.steps + 1
  pub held : largest_count ≤ s.steps → (after_line s []).steps ≡ largest_count
  -- and is printed behind `0a`
  pub printed : reply_line (reply_to s []) ≡ line_of (10 ∷ number_bytes (after_line s []).steps)

-- any other line, malformed and overlong ones too, ends no step and is what its frame is
pub record OtherLine (s : Server) (line : List ℕ) : Type 0 where
  pub number_stays : (after_line s line).steps ≡ s.steps
  pub as_its_frame : (after_line s line).world ≡ after_frame s.world (frame_of line)
  pub says : reply_to s line ≡ Framed (said_of_frame s.world (frame_of line))

-- ---- some lines
-- how many are empty, and the others
abbrev pub steps_ended : List (List ℕ) → ℕ
steps_ended [] = 0
steps_ended ([] ∷ lines) = suc (steps_ended lines)
steps_ended ((c ∷ line) ∷ lines) = steps_ended lines

abbrev pub without_empty : List (List ℕ) → List (List ℕ)
without_empty [] = []
without_empty ([] ∷ lines) = without_empty lines
without_empty ((c ∷ line) ∷ lines) = (c ∷ line) ∷ without_empty lines

pub record StepsReached (lines : List (List ℕ)) : Type 0 where
  -- the number is that of the empty lines, whatever stands between them, as far as 32 bits hold it
  pub number : (reached lines).steps ≡ min (steps_ended lines) largest_count
  -- and the next empty line prints the next
  pub next : reply_to (reached lines) [] ≡ Stepped (min (steps_ended lines + 1) largest_count)
  -- the world is that of the other lines
  pub world : (reached lines).world ≡ (reached (without_empty lines)).world

-- ---- all of the input, and all of the output
-- lines as an input, each with its line feed
abbrev pub as_input : List (List ℕ) → List ℕ
as_input [] = []
as_input (line ∷ lines) = line ++ (line_feed ∷ as_input lines)

-- a line that begins with the characters `0a`
abbrev pub begins_0a : List ℕ → Bool
begins_0a [] = false
begins_0a (first ∷ []) = false
begins_0a (first ∷ second ∷ line) = eqb first 48 && eqb second 97

abbrev pub those : (List ℕ → Bool) → List (List ℕ) → List (List ℕ)
those test [] = []
those test (line ∷ lines) = cond (test line) (line ∷ those test lines) (those test lines)

-- `0a` and a number, for so many numbers from a first one on, held at the largest
abbrev pub step_lines : ℕ → ℕ → List (List ℕ)
step_lines first zero = []
step_lines first (suc n) = hex (step_bytes (min first largest_count)) ∷ step_lines (suc first) n

pub record StepsPrinted (input : List ℕ) : Type 0 where
  -- the printed lines that begin with `0a` are 1, 2, 3, .. up to the largest, one for each empty line of the input
  pub steps : those begins_0a (lines_from [] (touches input)) ≡ step_lines 1 (steps_ended (lines_from [] input))
  -- the others are all that the program prints of the input without its empty lines
  pub others : those (λ (line : List ℕ). not (begins_0a line)) (lines_from [] (touches input))
      ≡ lines_from [] (touches (as_input (without_empty (lines_from [] input))))
