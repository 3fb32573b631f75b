-- The law that the export prints what the program prints, on two closed inputs of `ExportCases`: so the program answers
-- these lines, which is not computed here but follows. No hypothesis of the law is empty. Assumes nothing.
use Prim.Native.Nat.{ℕ, ◌<◌}
use mathlib.Core.Path.{◌≡◌, refl, ◌∙◌, ap, ap₂}
use mathlib.Core.Bool.{true}
use mathlib.Core.List.{List, [], ◌∷◌, ◌++◌, Memᴰ}
use native.Mathlib.Omega.{arith}
use lib.Dec.{ltb}
use lib.ListN.{take, replicate}
use borrow.Author.Tests.{ltb-true}
use Rattle.algebra.specs.Lists.{all_of}
use Rattle.algebra.proofs.Booleans.{both}
use Rattle.lines.specs.Hex.{unhex, hex, line_of}
use Rattle.record_definitions.specs.Frame.{frame_length}
use Rattle.record_definitions.specs.Export.{in_order}
use Rattle.record_definitions.specs.ExportLaws.{accepted_lines, FirstRefused, program_output}
use Rattle.record_definitions.proofs.Heats.{Runs, bytes_of}
use Rattle.record_definitions.proofs.ExportTheorem.{export_prints}
use Rattle.closed_cases.proofs.ExportCases.{export_cases}

all_bytes : (l : List ℕ) → all_of (λ (b : ℕ). ltb b 256) l ≡ true → (b : ℕ) → Memᴰ b l → b < 256
all_bytes [] are b m = elim m [ ]
all_bytes (x ∷ l) are b (Memᴰ.head is) =
    let first : x < 256 = ltb-true x 256 (both (ltb x 256) (all_of (λ (c : ℕ). ltb c 256) l) are).0 in
    omega arith
all_bytes (x ∷ l) are b (Memᴰ.tail m) =
    all_bytes l (both (ltb x 256) (all_of (λ (c : ℕ). ltb c 256) l) are).1 b m

pub record ExportLawCases : Type 0 where
  -- two triangles where they were drawn: two points
  pub two_points : Runs (
      ("02000300000000000000003f80000000000000000000003f800000", "00") ∷
      ("04000000000000000000000000003f800000", "00") ∷
      ("02010300000000000000003f80000000000000000000003f800000", "00") ∷
      ("04010000000000000000000000003f800000", "00") ∷
      ("050001", "050001020100000101000000013f3504f33f3504f3000000003f800000bca3d6fb000000003e7ffffe3e7ffffebf3a23aa00000000") ∷
      [])
  -- the first placement is out of range, and the second outline has two points: 6 is the first refusal
  pub placement_first : FirstRefused 6 (program_output (bytes_of (
      "02000300000000000000003f80000000000000000000003f800000" ∷
      "040049f4240000000000000000003f800000" ∷
      "02010200000000000000003f80000000000000" ∷
      "04010000000000000000000000003f800000" ∷
      [])))

pub export_law_cases : ExportLawCases
unfolding unhex hex frame_length in_order accepted_lines
export_law_cases =
    let cases = export_cases in
    let two = cases.two_points in
    let six = cases.placement_refused in
    record {
      two_points = (export_prints _ (replicate 54 7) (omega arith) refl (all_bytes _ refl)).written
          (omega (arith, two.returns))
          ∙ ap (λ (b : List ℕ). accepted_lines 4 ++ line_of b) (ap₂ take two.returns two.leaves);
      placement_first = (export_prints _ (replicate 54 7) (omega arith) refl (all_bytes _ refl)).refused 6
          six.returns;
    }
