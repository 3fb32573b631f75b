-- Closed cases: a heat is lines, each with its answer; and a call of the export. Definitions only.
use Prim.Native.Nat.{ℕ}
use Prim.Native.String.{String}
use mathlib.Core.Path.{◌≡◌}
use mathlib.Core.List.{List, [], ◌∷◌, ◌++◌}
use lib.ListN.{replicate}
use Rattle.algebra.specs.Buffer.{over}
use Rattle.lines.specs.Hex.{unhex, bytes_or_none, line_feed}
use Rattle.lines.proofs.Text.{text}
use Rattle.record_definitions.specs.Touches.{touches}
use Rattle.record_definitions.specs.Export.{export_number, export_output}

abbrev pub Heat : Type 0
Heat = List (String × String)

-- the lines as they are sent, each with its line feed, and the answers as they are printed
abbrev pub sent : Heat → List ℕ
sent [] = []
sent (exchange ∷ rest) = text exchange.0 ++ (line_feed ∷ sent rest)

abbrev pub answered : Heat → List ℕ
answered [] = []
answered (exchange ∷ rest) = text exchange.1 ++ (line_feed ∷ answered rest)

-- the program, from a fresh start, answers each line so
abbrev pub Runs : Heat → Type 0
Runs heat = touches (sent heat) ≡ answered heat

-- ---- the export, on an output whose bytes are 07
abbrev pub bytes_of : List String → List ℕ
bytes_of [] = []
bytes_of (frame ∷ frames) = bytes_or_none (unhex (text frame)) ++ bytes_of frames

-- on these frames and that many bytes of output it returns the number, and leaves the bytes at the front of the output
pub record Exports (frames : List String) (room number : ℕ) (front : String) : Type 0 where
  pub returns : export_number (bytes_of frames) (replicate room 7) ≡ number
  pub leaves : export_output (bytes_of frames) (replicate room 7) ≡ over (bytes_of (front ∷ [])) (replicate room 7)
