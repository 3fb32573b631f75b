-- The five frames of an input that is in order: each is well-formed, short enough for a line, and of bytes where the
-- input is. Assumes nothing.
use Prim.Native.Nat.{ℕ, ◌+◌, ◌-◌, ◌≤◌, ◌<◌}
use mathlib.Core.Path.{◌≡◌, refl, ◌∙◌, ap₂}
use mathlib.Core.Bool.{true}
use mathlib.Core.List.{List, Memᴰ}
use native.Mathlib.Omega.{arith}
use lib.Dec.{eqb}
use lib.ListN.{length, take, drop, length-take, length-drop}
use lib.Seq.{get_or-take, get_or-drop}
use borrow.Author.Tests.{eq-eqb, ne_eqb, eqb-true}
use Rattle.algebra.proofs.Booleans.{both}
use Rattle.lines.specs.Fields.{byte_at}
use Rattle.lines.specs.Hex.{largest_frame}
use Rattle.record_definitions.specs.Frame.{frame_length, well_formed}
use Rattle.record_definitions.specs.Export.{test_frame, FourFrames, first_placement, second_outline}
use Rattle.record_definitions.specs.Export.{second_placement, begin_all, in_order, between}
use Rattle.record_definitions.specs.ExportLaws.{export_frames}
use Rattle.record_definitions.proofs.Exported.{length_at_most, four_frames, first_size, second_size}
use Rattle.record_definitions.proofs.ExportLines.{Sendable, AllSendable, in_front, in_rest}

-- ---- a part of the input
module _ (input : List ℕ) (from size : ℕ) (fits : from + size ≤ length input) where
  at_place : (i : ℕ) → i < size → byte_at (take size (drop from input)) i ≡ byte_at input (from + i)
  at_place i within = get_or-take size (drop from input) i 0 within ∙ get_or-drop from input i 0

  part_length : length (take size (drop from input)) ≡ size
  part_length = simp (length-take, length-drop) (omega arith)

  part_formed : (kind : ℕ) → byte_at (take size (drop from input)) 0 ≡ kind → 3 ≤ size
      → frame_length kind (byte_at input (from + 2)) ≡ size → well_formed (take size (drop from input)) ≡ true
  unfolding well_formed
  part_formed kind kind_is some size_is =
      let length_is : frame_length (byte_at (take size (drop from input)) 0) (byte_at (take size (drop from input)) 2)
      ≡ size = ap₂ frame_length kind_is (at_place 2 (omega arith)) ∙ size_is in
      rw (length_is, part_length) (simp (ne_eqb size 0 (λ none. omega arith), eq-eqb size size refl))

  part_sendable : 3 ≤ size → size ≤ largest_frame → ((b : ℕ) → Memᴰ b input → b < 256)
      → Sendable (take size (drop from input))
  part_sendable large small bytes = record {
    some = λ none. omega (arith, part_length);
    short = omega (arith, part_length);
    bytes = λ b m. bytes b (in_rest b from input (in_front b size (drop from input) m));
  }

-- ---- the four parts
-- a well-formed frame of this kind, for this id
pub record ExportFrame (kind id : ℕ) (frame : List ℕ) : Type 0 where
  pub kind_is : byte_at frame 0 ≡ kind
  pub id_is : byte_at frame 1 ≡ id
  pub formed : well_formed frame ≡ true

module _ (input : List ℕ) (ordered : in_order input ≡ true) where
  abbrev first : ℕ
  first = first_placement input

  abbrev outline : ℕ
  outline = second_outline input

  abbrev second : ℕ
  second = second_placement input

  tests : (eqb (length input) (second + 18) ≡ true) × (begin_all input first outline second ≡ true)
  unfolding in_order frame_length
  tests = both (eqb (length input) (second + 18)) (begin_all input first outline second) ordered

  size : length input ≡ second + 18
  size = eqb-true (length input) (second + 18) tests.0

  outline_is : outline ≡ first + 18
  unfolding frame_length
  outline_is = refl

  four : FourFrames (take first input) (take (outline - first) (drop first input))
      (take (second - outline) (drop outline input)) (take (length input - second) (drop second input))
  four = four_frames input first outline second refl outline_is refl size tests.1

  some_first : 3 ≤ first
  some_first = first_size input first outline second refl outline_is refl size tests.1

  some_second : 3 ≤ second - outline
  some_second = second_size input first outline second refl outline_is refl size tests.1

  second_is : second ≡ outline + frame_length 2 (byte_at input (outline + 2))
  second_is = refl

  from_begin : first - 0 ≡ first
  from_begin = omega arith

  pub frame_0 : ExportFrame 2 0 (between input 0 first)
  frame_0 =
      rw from_begin (record {
        kind_is = four.kind_0;
        id_is = four.id_0;
        formed = part_formed input 0 first (omega (arith, outline_is, second_is, size)) 2 four.kind_0 some_first
            refl;
      })

  pub frame_1 : ExportFrame 4 0 (between input first outline)
  unfolding frame_length
  frame_1 = record {
    kind_is = four.kind_1;
    id_is = four.id_1;
    formed = part_formed input first (outline - first) (omega (arith, outline_is, second_is, size)) 4 four.kind_1
        (omega (arith, outline_is)) (omega (arith, outline_is));
  }

  pub frame_2 : ExportFrame 2 1 (between input outline second)
  frame_2 = record {
    kind_is = four.kind_2;
    id_is = four.id_2;
    formed = part_formed input outline (second - outline) (omega (arith, some_second, size)) 2 four.kind_2
        some_second (omega (arith, second_is));
  }

  pub frame_3 : ExportFrame 4 1 (between input second (length input))
  unfolding frame_length
  frame_3 = record {
    kind_is = four.kind_3;
    id_is = four.id_3;
    formed = part_formed input second (length input - second) (omega (arith, size)) 4 four.kind_3
        (omega (arith, size)) (omega (arith, size));
  }

  -- of bytes, they are lines of the program
  pub all_sendable : ((b : ℕ) → Memᴰ b input → b < 256) → AllSendable (export_frames input)
  all_sendable bytes =
      let most_0 = length_at_most (byte_at input 2) in
      let most_2 = length_at_most (byte_at input (outline + 2)) in
      let part_0 = part_sendable input 0 first (omega (arith, outline_is, second_is, size)) some_first most_0 bytes in
      let part_1 =
      part_sendable input first (outline - first) (omega (arith, outline_is, second_is, size))
      (omega (arith, outline_is)) (omega (arith, outline_is)) bytes in
      let part_2 =
      part_sendable input outline (second - outline) (omega (arith, some_second, size)) some_second
      (omega (arith, second_is, most_2)) bytes in
      let part_3 =
      part_sendable input second (length input - second) (omega (arith, size)) (omega (arith, size))
      (omega (arith, size)) bytes in
      let test : Sendable test_frame = record { some = λ none. omega arith; short = omega arith; bytes = test_bytes } in
      (rw from_begin part_0, (part_1, (part_2, (part_3, (test, tt)))))
    where
      test_bytes : (b : ℕ) → Memᴰ b test_frame → b < 256
      test_bytes b (Memᴰ.head is) = omega arith
      test_bytes b (Memᴰ.tail (Memᴰ.head is)) = omega arith
      test_bytes b (Memᴰ.tail (Memᴰ.tail (Memᴰ.head is))) = omega arith
      test_bytes b (Memᴰ.tail (Memᴰ.tail (Memᴰ.tail more))) = elim more [ ]
