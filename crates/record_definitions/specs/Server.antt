-- Document 01, "The touch record", and document 02, request 05: the whole state and one line. A line without a
-- character ends a step; any other is a frame, or malformed. Definitions only.
use Rattle.std.specs.Prelude.{ℕ, List, [], ◌∷◌}
use Rattle.lines.specs.Fields.{number_bytes}
use Rattle.lines.specs.Hex.{frame_of, line_of}
use Rattle.record_definitions.specs.declared.server.Server.{Server}
use Rattle.record_definitions.specs.declared.frame.Said.{Said}
use Rattle.record_definitions.specs.World.{one_more, fresh_world}
use Rattle.record_definitions.specs.Answer.{said_line}
use Rattle.record_definitions.specs.OneFrame.{after_frame, said_of_frame}

-- ---- the step number: it starts at 0 and holds at its largest
abbrev pub fresh_server : Server
fresh_server = record { world = fresh_world; steps = 0 }

abbrev pub next_step : ℕ → ℕ
next_step steps = one_more steps

-- ---- a line. Which one is empty is told by the line, not by its frame: a malformed line says an empty frame too
abbrev pub after_line : Server → List ℕ → Server
after_line s [] = record { world = s.world; steps = next_step s.steps }
after_line s (c ∷ line) = record { world = after_frame s.world (frame_of (c ∷ line)); steps = s.steps }

-- the reply: what is said of the frame, or of an empty line the step number, raised
pub data Reply : Type 0 where
  Framed : Said → Reply
  Stepped : ℕ → Reply

abbrev pub reply_to : Server → List ℕ → Reply
reply_to s [] = Stepped (next_step s.steps)
reply_to s (c ∷ line) = Framed (said_of_frame s.world (frame_of (c ∷ line)))

-- ---- as the program prints it: the lines of what is said, or `0a` and the step number
abbrev pub step_bytes : ℕ → List ℕ
step_bytes steps = 10 ∷ number_bytes steps

abbrev pub reply_line : Reply → List ℕ
reply_line (Framed said) = said_line said
reply_line (Stepped steps) = line_of (step_bytes steps)

-- ---- some lines
abbrev pub after_lines : Server → List (List ℕ) → Server
after_lines s [] = s
after_lines s (line ∷ lines) = after_lines (after_line s line) lines

-- the state that they reach from a fresh start
abbrev pub reached : List (List ℕ) → Server
reached lines = after_lines fresh_server lines
