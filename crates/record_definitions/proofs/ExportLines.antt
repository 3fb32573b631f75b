-- Frames as the lines of the program: what `touches` prints of the hexadecimal of frames, a line each, is what the
-- frames print (`program_prints`). Assumes nothing.
use Prim.Native.Nat.{ℕ, ◌≤◌, ◌<◌}
use mathlib.Core.Path.{◌≡◌, refl, ◌∙◌, ap}
use mathlib.Core.List.{List, [], ◌∷◌, ◌++◌, map, Memᴰ}
use lib.ListN.{length, take, drop, take-append-drop}
use Rattle.lines.specs.Hex.{largest_frame, hex, line_of}
use Rattle.lines.proofs.Theorem.{frame_of_hex}
use Rattle.record_definitions.specs.declared.server.Server.{Server}
use Rattle.record_definitions.specs.World.{fresh_world}
use Rattle.record_definitions.specs.Answer.{said_line}
use Rattle.record_definitions.specs.OneFrame.{after_frame, said_of_frame}
use Rattle.record_definitions.specs.Server.{fresh_server, reply_line}
use Rattle.record_definitions.specs.Touches.{printed_lines, touches}
use Rattle.record_definitions.specs.Reading.{joined}
use Rattle.record_definitions.proofs.LineFeeds.{lines_read}
use mathlib.Core.List.Memᴰ
use Rattle.record_definitions.proofs.ExportRuns.{printed_frames}

-- bytes, some, and no more than the longest frame has
pub record Sendable (frame : List ℕ) : Type 0 where
  pub some : length frame ≡ 0 → ⊥
  pub short : length frame ≤ largest_frame
  pub bytes : (b : ℕ) → Memᴰ b frame → b < 256

abbrev pub AllSendable : List (List ℕ) → Type 0
AllSendable [] = Unit {0}
AllSendable (frame ∷ frames) = Sendable frame × AllSendable frames

-- ---- what they print
lines_print : (s : Server) (frames : List (List ℕ)) → AllSendable frames
    → printed_lines reply_line s (map hex frames) ≡ printed_frames s.world frames
unfolding printed_lines printed_frames hex
lines_print s [] all = refl
lines_print s ([] ∷ frames) all = absurd (all.0.some refl)
lines_print s ((b ∷ frame) ∷ frames) all =
    let same = frame_of_hex (b ∷ frame) all.0.short all.0.bytes in
    rw same (ap (λ (l : List ℕ). said_line (said_of_frame s.world (b ∷ frame)) ++ l)
    (lines_print (record { world = after_frame s.world (b ∷ frame); steps = s.steps }) frames all.1))

pub program_prints : (frames : List (List ℕ)) → AllSendable frames
    → touches (joined (map line_of frames)) ≡ printed_frames fresh_world frames
unfolding touches
program_prints frames all =
    ap (printed_lines reply_line fresh_server) (lines_read frames) ∙ lines_print fresh_server frames all

-- ---- parts of bytes are bytes
pub in_front : {A : Type 0} (x : A) (n : ℕ) (l : List A) → Memᴰ x (take n l) → Memᴰ x l
in_front x n l m = rw (take-append-drop n l) at (Memᴰ.append_left (drop n l) m)

pub in_rest : {A : Type 0} (x : A) (n : ℕ) (l : List A) → Memᴰ x (drop n l) → Memᴰ x l
in_rest x n l m = rw (take-append-drop n l) at (Memᴰ.append_right (take n l) m)
