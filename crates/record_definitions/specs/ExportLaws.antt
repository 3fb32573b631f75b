-- What a C match server relies on of the export: which numbers it returns, and that it prints what the program prints,
-- "the bytes of the test line that a fresh program prints". Definitions only.
use Rattle.std.specs.Prelude.{ℕ, zero, suc, ◌+◌, ◌≤◌, ◌<◌, ◌≡◌, false, cond, ◌↔◌, eqb, length, take, drop}
use mathlib.Core.List.{List, [], ◌∷◌, ◌++◌, map, Memᴰ}
use Rattle.lines.specs.Fields.{byte_at, number_bytes}
use Rattle.lines.specs.Hex.{line_of}
use Rattle.record_definitions.specs.Answer.{longest_answer}
use Rattle.record_definitions.specs.Touches.{touches}
use Rattle.record_definitions.specs.Reading.{joined}
use Rattle.record_definitions.specs.Export.{test_frame, first_placement, second_outline, second_placement}
use Rattle.record_definitions.specs.Export.{in_order, between, refusal_base, export_number, export_output}

-- ---- which numbers: the bytes of a test line without, with one and with two points, or a refusal
abbrev pub test_size : ℕ → ℕ
test_size points = cond (eqb points 0) 13 (cond (eqb points 1) 37 53)

abbrev pub export_numbers : List ℕ
export_numbers = 13 ∷ 37 ∷ 53 ∷ map (◌+◌ refusal_base) (1 ∷ 2 ∷ 3 ∷ 4 ∷ 5 ∷ 6 ∷ 9 ∷ 10 ∷ [])

-- an answer that was written, as this output has it, with this number of bytes
pub record Written (number : ℕ) (output : List ℕ) : Type 0 where
  -- the number tells how many points there are, which is the fourth byte
  pub sized : number ≡ test_size (byte_at output 3)
  -- the touches, behind the states, are one where there are points
  pub counted : take 4 (drop 9 output) ≡ number_bytes (cond (eqb (byte_at output 3) 0) 0 1)
  -- each age, behind the point's separation, is 0: nothing is kept between calls
  pub first_age : 0 < byte_at output 3 → take 4 (drop 33 output) ≡ number_bytes 0
  pub second_age : 1 < byte_at output 3 → take 4 (drop 49 output) ≡ number_bytes 0

pub record ExportReturns (input out : List ℕ) : Type 0 where
  -- one of these and no other
  pub listed : Memᴰ (export_number input out) export_numbers
  -- where it is no refusal
  pub written : export_number input out < refusal_base → Written (export_number input out) (export_output input out)
  -- 9 where the output has not room for the longest test line, and only there
  pub nine : export_number input out ≡ refusal_base + 9 ↔ length out < longest_answer
  -- 10 where it has and the input is not the four frames, and only there
  pub ten : export_number input out ≡ refusal_base + 10 ↔ (longest_answer ≤ length out) × (in_order input ≡ false)

-- ---- what the program prints: the four frames of an input and the test, `050001`, each a line of hexadecimal
abbrev pub export_frames : List ℕ → List (List ℕ)
export_frames input =
    between input 0 (first_placement input)
    ∷ between input (first_placement input) (second_outline input)
    ∷ between input (second_outline input) (second_placement input)
    ∷ between input (second_placement input) (length input)
    ∷ test_frame
    ∷ []

abbrev pub program_output : List ℕ → List ℕ
program_output input = touches (joined (map line_of (export_frames input)))

-- that many lines `00`
unfoldable pub accepted_lines : ℕ → List ℕ
accepted_lines zero = []
accepted_lines (suc n) = line_of (0 ∷ []) ++ accepted_lines n

-- the first line that is not `00` is `ff` and this number
pub record FirstRefused (number : ℕ) (output : List ℕ) : Type 0 where
  pub before : ℕ
  pub rest : List ℕ
  pub output_is : output ≡ accepted_lines before ++ (line_of (255 ∷ number ∷ []) ++ rest)

pub record ExportPrints (input out : List ℕ) : Type 0 where
  -- the bytes that it wrote are those of the program's last line, after a `00` for each of the four frames
  pub written : export_number input out < refusal_base
      → program_output input
      ≡ accepted_lines 4 ++ line_of (take (export_number input out) (export_output input out))
  -- a refusal is the first that the program prints
  pub refused : (number : ℕ) → export_number input out ≡ refusal_base + number
      → FirstRefused number (program_output input)
