-- The export: its four frames lie where the counts say, and each way that it returns is the definition's.
-- Assumes nothing.
use Prim.Native.Nat.{ℕ, ◌+◌, ◌-◌, ◌≤◌, ◌<◌}
use mathlib.Core.Path.{◌≡◌, refl, ◌∙◌, ap}
use mathlib.Core.Bool.{Bool, true, false, not, ◌&&◌}
use mathlib.Core.List.{List, [], ◌∷◌}
use mathlib.Core.Logic.{◌⊎◌, inl, inr}
use native.Mathlib.Omega.{arith}
use lib.Dec.{eqb, leb}
use lib.ListN.{length, take, drop}
use lib.Seq.{get_or-take, get_or-drop}
use borrow.Author.Tests.{eq-eqb, ne_eqb, lt-ltb, le-ltb, eqb-true, eqb-false, leb-true, not-true}
use Rattle.algebra.proofs.Booleans.{both}
use Rattle.lines.specs.Buffers.{Put}
use Rattle.lines.specs.Fields.{byte_at}
use Rattle.lines.specs.Hex.{largest_frame}
use Rattle.shape_definitions.specs.Refusal.{contact_out_of_range, malformed_frame}
use Rattle.record_definitions.specs.declared.frame.Answer.TheVariants.{Refused}
use Rattle.record_definitions.specs.declared.frame.Said.{Said}
use Rattle.record_definitions.specs.World.{fresh_world}
use Rattle.record_definitions.specs.Frame.{frame_length, outline_length}
use Rattle.record_definitions.specs.Answer.{said_alone, said_bytes, longest_answer}
use Rattle.record_definitions.specs.Export.{refusal_in, last_said, test_frame, FourFrames, first_placement}
use Rattle.record_definitions.specs.Export.{second_outline, second_placement, begins, begin_all, in_order}
use Rattle.record_definitions.specs.Export.{export_said, refusal_base, export_number, export_output}

-- ---- the length of an outline's frame: none, or 3 to 67
Size : ℕ → Type 0
Size n = (n ≡ 0) ⊎ ((3 ≤ n) × (n ≤ largest_frame))

sizes : (third : ℕ) → Size (frame_length 2 third)
unfolding Size frame_length
sizes third = by_count (leb third 8) refl
  where
    by_count : (t : Bool) → leb third 8 ≡ t → Size (outline_length third)
    by_count true few = inr (rw few (omega (arith, leb-true third 8 few)))
    by_count false many = inl (simp many)

pub length_at_most : (third : ℕ) → frame_length 2 third ≤ largest_frame
unfolding Size
length_at_most third = either (sizes third)
  where
    either : Size (frame_length 2 third) → frame_length 2 third ≤ largest_frame
    either (inl none) = omega arith
    either (inr some) = some.1

length_at_least : (third : ℕ) → (frame_length 2 third ≡ 0 → ⊥) → 3 ≤ frame_length 2 third
unfolding Size
length_at_least third some = either (sizes third)
  where
    either : Size (frame_length 2 third) → 3 ≤ frame_length 2 third
    either (inl none) = absurd (some none)
    either (inr size) = size.0

-- ---- the kind and the id of a part that begins at a place
module _ (input : List ℕ) (from size kind id : ℕ) (room : 2 ≤ size) (holds : begins input from kind id ≡ true) where
  part_byte : (i : ℕ) → i < size → byte_at (take size (drop from input)) i ≡ byte_at input (from + i)
  part_byte i within = get_or-take size (drop from input) i 0 within ∙ get_or-drop from input i 0

  both_bytes : (eqb (byte_at input from) kind ≡ true) × (eqb (byte_at input (from + 1)) id ≡ true)
  both_bytes = both (eqb (byte_at input from) kind) (eqb (byte_at input (from + 1)) id) holds

  part_kind : byte_at (take size (drop from input)) 0 ≡ kind
  part_kind =
      let here : from + 0 ≡ from = omega arith in
      part_byte 0 (omega arith) ∙ ap (byte_at input) here ∙ eqb-true (byte_at input from) kind both_bytes.0

  part_id : byte_at (take size (drop from input)) 1 ≡ id
  part_id = part_byte 1 (omega arith) ∙ eqb-true (byte_at input (from + 1)) id both_bytes.1

-- ---- where the frames begin, as the code computes it
module _ (input : List ℕ) (first outline second : ℕ) (first_is : first ≡ first_placement input)
    (outline_is : outline ≡ first + 18) (second_is : second ≡ outline + frame_length 2 (byte_at input (outline + 2)))
  where
    outline_same : outline ≡ second_outline input
    unfolding frame_length
    outline_same = outline_is ∙ ap (λ (n : ℕ). n + 18) first_is

    second_same : second ≡ second_placement input
    second_same = second_is ∙ ap (λ (n : ℕ). n + frame_length 2 (byte_at input (n + 2))) outline_same

    in_order_is : in_order input ≡ eqb (length input) (second + 18) && begin_all input first outline second
    unfolding in_order frame_length
    in_order_is = rw (← second_same, ← outline_same, ← first_is) refl

    pub not_in_order : begin_all input first outline second ≡ false → in_order input ≡ false
    not_in_order bad = in_order_is ∙ rw bad (and_false (eqb (length input) (second + 18)))
      where
        and_false : (t : Bool) → t && false ≡ false
        and_false true = refl
        and_false false = refl

    pub not_that_long : (length input ≡ second + 18 → ⊥) → in_order input ≡ false
    not_that_long other = in_order_is ∙ simp (ne_eqb (length input) (second + 18) other)

    module _ (size : length input ≡ second + 18) (good : begin_all input first outline second ≡ true) where
      pub ordered : in_order input ≡ true
      ordered = in_order_is ∙ rw good (simp (eq-eqb (length input) (second + 18) size))

      -- the six tests, from the last to the first
      sizes_right : Bool
      sizes_right = not (eqb first 0) && not (eqb second outline)

      last_two : (sizes_right && begins input 0 2 0 && begins input first 4 0 && begins input outline 2 1 ≡ true)
          × (begins input second 4 1 ≡ true)
      unfolding sizes_right
      last_two =
          both (sizes_right && begins input 0 2 0 && begins input first 4 0 && begins input outline 2 1)
          (begins input second 4 1) good

      middle : (sizes_right && begins input 0 2 0 && begins input first 4 0 ≡ true) × (begins input outline 2 1 ≡ true)
      middle =
          both (sizes_right && begins input 0 2 0 && begins input first 4 0) (begins input outline 2 1) last_two.0

      first_two : (sizes_right && begins input 0 2 0 ≡ true) × (begins input first 4 0 ≡ true)
      first_two = both (sizes_right && begins input 0 2 0) (begins input first 4 0) middle.0

      front : (sizes_right ≡ true) × (begins input 0 2 0 ≡ true)
      front = both sizes_right (begins input 0 2 0) first_two.0

      both_sized : (not (eqb first 0) ≡ true) × (not (eqb second outline) ≡ true)
      unfolding sizes_right
      both_sized = both (not (eqb first 0)) (not (eqb second outline)) front.0

      pub first_size : 3 ≤ first
      first_size =
          let some : first ≡ 0 → ⊥ = eqb-false first 0 (not-true (eqb first 0) both_sized.0) in
          rw first_is (length_at_least (byte_at input 2) (λ none. some (first_is ∙ none)))

      pub second_size : 3 ≤ second - outline
      second_size =
          let third = byte_at input (outline + 2) in
          let other : second ≡ outline → ⊥ =
          eqb-false second outline (not-true (eqb second outline) both_sized.1) in
          omega (arith, second_is, length_at_least third (λ none. other (omega (arith, second_is, none))))

      -- the four parts are the four frames
      pub four_frames : FourFrames (take first input) (take (outline - first) (drop first input))
          (take (second - outline) (drop outline input)) (take (length input - second) (drop second input))
      four_frames = record {
        kind_0 = part_kind input 0 first 2 0 (omega (arith, first_size)) front.1;
        id_0 = part_id input 0 first 2 0 (omega (arith, first_size)) front.1;
        kind_1 = part_kind input first (outline - first) 4 0 (omega (arith, outline_is)) first_two.1;
        id_1 = part_id input first (outline - first) 4 0 (omega (arith, outline_is)) first_two.1;
        kind_2 = part_kind input outline (second - outline) 2 1 (omega (arith, second_size)) middle.1;
        id_2 = part_id input outline (second - outline) 2 1 (omega (arith, second_size)) middle.1;
        kind_3 = part_kind input second (length input - second) 4 1 (omega (arith, size)) last_two.1;
        id_3 = part_id input second (length input - second) 4 1 (omega (arith, size)) last_two.1;
      }

      pub run_said : (said : Said)
          → said ≡ last_said fresh_world (take first input)
          (take (outline - first) (drop first input)
          ∷ take (second - outline) (drop outline input)
          ∷ take (length input - second) (drop second input)
          ∷ test_frame
          ∷ [])
          → said ≡ export_said input
      unfolding export_said
      run_said said is =
          let whole : first - 0 ≡ first = omega arith in
          is ∙ rw (ordered, ← second_same, ← outline_same, ← first_is, whole) refl

pub out_of_order : (input : List ℕ) → in_order input ≡ false
    → said_alone (Refused malformed_frame) ≡ export_said input
unfolding export_said
out_of_order input bad = simp bad

-- ---- what is returned, and left
module _ (input out : List ℕ) where
  pub too_short : length out < longest_answer
      → (refusal_base + contact_out_of_range ≡ export_number input out) × (out ≡ export_output input out)
  unfolding export_number export_output
  too_short short = (
    simp (lt-ltb (length out) longest_answer short),
    simp (lt-ltb (length out) longest_answer short),
  )

  module _ (room : longest_answer ≤ length out) (said : Said) (is : said ≡ export_said input) (number : ℕ)
      (number_is : number ≡ refusal_in said) where
    pub was_refused : (number ≡ 0 → ⊥)
        → (refusal_base + number ≡ export_number input out) × (out ≡ export_output input out)
    unfolding export_number export_output
    was_refused some = (
      rw (← is, ← number_is) (simp (le-ltb (length out) longest_answer room, ne_eqb number 0 some)),
      rw (← is, ← number_is) (simp (le-ltb (length out) longest_answer room, ne_eqb number 0 some)),
    )

    pub was_written : number ≡ 0 → (r : ℕ) (left : List ℕ) → Put (said_bytes said) out r left
        → (r ≡ export_number input out) × (left ≡ export_output input out)
    unfolding export_number export_output
    was_written none r left put = (
      rw (← is, ← number_is) (simp (le-ltb (length out) longest_answer room, eq-eqb number 0 none) put.count),
      rw (← is, ← number_is) (simp (le-ltb (length out) longest_answer room, eq-eqb number 0 none) put.left),
    )
