-- The export prints what the program prints (`export_prints`): on an input that is in order, of bytes, and an output
-- with room, the bytes written are those of the program's last line, and a refusal is the program's first.
-- Assumes nothing.
use Prim.Native.Nat.{ℕ, ◌+◌, ◌≤◌, ◌<◌}
use mathlib.Core.Path.{◌≡◌, refl, sym, ◌∙◌, ap}
use mathlib.Core.Bool.{true}
use mathlib.Core.List.{List, ◌++◌, Memᴰ}
use native.Mathlib.Omega.{arith}
use lib.ListN.{length, take, drop}
use lib.Seq.{take_at}
use borrow.Author.Tests.{ne_eqb, le-ltb}
use Rattle.lines.specs.Hex.{line_of}
use Rattle.shape_definitions.specs.Refusal.{accepted}
use Rattle.record_definitions.specs.declared.frame.Answer.TheVariants.{Refused, Tested}
use Rattle.record_definitions.specs.declared.frame.Said.{Said}
use Rattle.record_definitions.specs.declared.touch.Touch.{Touch}
use Rattle.record_definitions.specs.World.{fresh_world}
use Rattle.record_definitions.specs.Answer.{touch_bytes, said_bytes, longest_answer}
use Rattle.record_definitions.specs.Export.{last_said, first_placement, in_order, between, export_said}
use Rattle.record_definitions.specs.Export.{refusal_base}
use Rattle.record_definitions.specs.Export.{returned, left_in, export_number, export_output}
use Rattle.record_definitions.specs.ExportLaws.{export_frames, accepted_lines, ExportPrints}
use Rattle.record_definitions.proofs.Sound.{Sound}
use Rattle.record_definitions.proofs.SoundKept.{fresh_sound, frame_keeps_sound}
use Rattle.record_definitions.proofs.AnswerLengths.{said_within}
use Rattle.record_definitions.proofs.ExportRuns.{Outcome, answered, turned_down}
use Rattle.record_definitions.proofs.ExportLines.{program_prints}
use Rattle.record_definitions.proofs.ExportFrames.{all_sendable}
use Rattle.record_definitions.proofs.ExportOutcome.{later_frames, export_outcome}

-- ---- what is said of the five frames, and how they end
abbrev pub said_last : List ℕ → Said
said_last input = last_said fresh_world (between input 0 (first_placement input)) (later_frames input)

abbrev pub Ends : (Touch → Type 0) → (ℕ → Type 0) → List ℕ → Type 0
Ends Result Number input =
    Outcome Result Number fresh_world (between input 0 (first_placement input)) (later_frames input)

-- a test that answers returns its length and leaves its bytes; a refusal its number
pub returned_tested : (said : Said) (t : Touch) → said.answer ≡ Tested t → returned said ≡ length (said_bytes said)
returned_tested said t is = rw is refl

left_tested : (said : Said) (out : List ℕ) (t : Touch) → said.answer ≡ Tested t
    → take (length (said_bytes said)) (left_in said out) ≡ said_bytes said
left_tested said out t is = rw is (take_at (touch_bytes t) (drop (length (touch_bytes t)) out) _ refl)

pub returned_refused : (said : Said) (n : ℕ) → said.answer ≡ Refused n → (n ≡ 0 → ⊥) → returned said ≡ refusal_base + n
returned_refused said n is nonzero = rw is (simp (ne_eqb n accepted nonzero))

module _ (input out : List ℕ) (room : longest_answer ≤ length out) (ordered : in_order input ≡ true) where
  pub number_is : export_number input out ≡ returned (said_last input)
  unfolding export_number export_said
  number_is = rw (le-ltb (length out) longest_answer room, ordered) refl

  pub output_is : export_output input out ≡ left_in (said_last input) out
  unfolding export_output export_said
  output_is = rw (le-ltb (length out) longest_answer room, ordered) refl

  module _ (bytes : (b : ℕ) → Memᴰ b input → b < 256) where
    by_outcome : Ends (λ (t : Touch). Unit {0}) (λ (n : ℕ). Unit {0}) input → ExportPrints input out
    by_outcome (answered t is good printed) =
        let said = said_last input in
        let number : export_number input out ≡ length (said_bytes said) = number_is ∙ returned_tested said t is in
        let wrote : take (export_number input out) (export_output input out) ≡ said_bytes said =
        rw (number, output_is) (left_tested said out t is) in
        let few : length (said_bytes said) ≤ longest_answer = said_within said in
        record {
          written = λ below. program_prints (export_frames input) (all_sendable input ordered bytes) ∙ printed
              ∙ ap (λ (b : List ℕ). accepted_lines 4 ++ line_of b) (sym wrote);
          refused = λ n same. absurd (omega (arith, number, same, few));
        }
    by_outcome (turned_down n is nonzero good first) =
        let number : export_number input out ≡ refusal_base + n =
        number_is ∙ returned_refused (said_last input) n is nonzero in
        record {
          written = λ below. absurd (omega (arith, number));
          refused = λ k same. let same_number : n ≡ k = omega (arith, number, same) in
              rw (← same_number, program_prints (export_frames input) (all_sendable input ordered bytes)) first;
        }

    pub export_prints : ExportPrints input out
    export_prints =
        by_outcome (export_outcome (λ (t : Touch). Unit {0}) (λ (n : ℕ). Unit {0}) Sound (λ w sound. sound)
        (λ w frame taken sound. frame_keeps_sound w frame sound) fresh_sound (λ w sound t is. tt)
        (λ n nonzero few. tt) tt (λ w sound first second nonzero. tt) input ordered)
