-- The lengths of frames by their kind, and the room that a reader of each has. Assumes nothing.
use Prim.Native.Nat.{ℕ, ◌+◌, ◌*◌, ◌≤◌}
use mathlib.Core.Path.{◌≡◌, refl, sym, ◌∙◌, ap}
use mathlib.Core.Bool.{Bool, true, false, not, cond, ◌&&◌, false≢true}
use mathlib.Core.List.{List}
use native.Mathlib.Omega.{arith}
use lib.Dec.{eqb, leb}
use lib.ListN.{length}
use borrow.Author.Tests.{leb-true, eqb-true, eqb-false, ne_eqb}
use Rattle.algebra.proofs.Booleans.{by_test}
use Rattle.lines.specs.Fields.{byte_at}
use Rattle.record_definitions.specs.Frame.{outline_length, wall_length, chain_length, frame_length, well_formed}

module _ (kind third : ℕ) where
  pub circle_length : kind ≡ 1 → frame_length kind third ≡ 14
  unfolding frame_length
  circle_length is = rw is refl

  pub outline_length_is : kind ≡ 2 → frame_length kind third ≡ outline_length third
  unfolding frame_length
  outline_length_is is = rw is refl

  pub wall_length_is : kind ≡ 3 → frame_length kind third ≡ wall_length third
  unfolding frame_length
  wall_length_is is = rw is refl

  pub place_length : kind ≡ 4 → frame_length kind third ≡ 18
  unfolding frame_length
  place_length is = rw is refl

  pub test_length : kind ≡ 5 → frame_length kind third ≡ 3
  unfolding frame_length
  test_length is = rw is refl

  pub turn_length : kind ≡ 6 → frame_length kind third ≡ 12
  unfolding frame_length
  turn_length is = rw is refl

  pub chain_length_is : kind ≡ 7 → frame_length kind third ≡ chain_length third
  unfolding frame_length
  chain_length_is is = rw is refl

  pub no_length : (kind ≡ 1 → ⊥) → (kind ≡ 2 → ⊥) → (kind ≡ 3 → ⊥) → (kind ≡ 4 → ⊥) → (kind ≡ 5 → ⊥) → (kind ≡ 6 → ⊥)
      → (kind ≡ 7 → ⊥) → frame_length kind third ≡ 0
  unfolding frame_length
  no_length no_1 no_2 no_3 no_4 no_5 no_6 no_7 =
      simp (
        ne_eqb _ _ no_1,
        ne_eqb _ _ no_2,
        ne_eqb _ _ no_3,
        ne_eqb _ _ no_4,
        ne_eqb _ _ no_5,
        ne_eqb _ _ no_6,
        ne_eqb _ _ no_7,
      )

-- ---- well-formed frames: some size, and that length
module _ (bytes : List ℕ) where
  abbrev size : ℕ
  size = frame_length (byte_at bytes 0) (byte_at bytes 2)

  sized_by : (none right : Bool) → eqb size 0 ≡ none → eqb (length bytes) size ≡ right → not none && right ≡ true
      → (size ≡ 0 → ⊥) × (length bytes ≡ size)
  sized_by true right none_is right_is both = absurd (false≢true both)
  sized_by false false none_is right_is both = absurd (false≢true both)
  sized_by false true none_is right_is both = (eqb-false size 0 none_is, eqb-true (length bytes) size right_is)

  sized : well_formed bytes ≡ true → (size ≡ 0 → ⊥) × (length bytes ≡ size)
  unfolding well_formed
  sized well = sized_by (eqb size 0) (eqb (length bytes) size) refl refl well

  module _ (well : well_formed bytes ≡ true) where
    pub circle_room : byte_at bytes 0 ≡ 1 → length bytes ≡ 14
    circle_room is = (sized well).1 ∙ circle_length (byte_at bytes 0) (byte_at bytes 2) is

    -- of a count of at most eight points: `more` bytes beside those of the points
    counted_room : (more : ℕ) → size ≡ cond (leb (byte_at bytes 2) 8) (more + 8 * byte_at bytes 2) 0
        → (byte_at bytes 2 ≤ 8) × (length bytes ≡ more + 8 * byte_at bytes 2)
    counted_room more size_is =
        let count = byte_at bytes 2 in
        by_test (leb count 8)
        (λ few. (leb-true count 8 few, (sized well).1 ∙ size_is ∙ simp few))
        (λ many. absurd ((sized well).0 (size_is ∙ simp many)))

    pub outline_room : byte_at bytes 0 ≡ 2 → (byte_at bytes 2 ≤ 8) × (length bytes ≡ 3 + 8 * byte_at bytes 2)
    outline_room is = counted_room 3 (outline_length_is (byte_at bytes 0) (byte_at bytes 2) is)

    pub chain_room : byte_at bytes 0 ≡ 7 → (byte_at bytes 2 ≤ 8) × (length bytes ≡ 19 + 8 * byte_at bytes 2)
    chain_room is = counted_room 19 (chain_length_is (byte_at bytes 0) (byte_at bytes 2) is)

    pub wall_room : byte_at bytes 0 ≡ 3 → (19 ≤ length bytes) × ((byte_at bytes 2 ≡ 0 → ⊥) → 35 ≤ length bytes)
    wall_room is =
        let flag = byte_at bytes 2 in
        let size_is : size ≡ wall_length flag = wall_length_is (byte_at bytes 0) flag is in
        by_test (eqb flag 0)
        (λ two_sided. let is_19 : length bytes ≡ 19 = (sized well).1 ∙ size_is ∙ simp two_sided in
        (omega arith, λ other. absurd (other (eqb-true flag 0 two_sided))))
        (λ not_two. by_test (eqb flag 1)
        (λ one_sided. let is_35 : length bytes ≡ 35 = (sized well).1 ∙ size_is ∙ simp (not_two, one_sided) in
        (omega arith, λ other. omega arith))
        (λ not_one. absurd ((sized well).0 (size_is ∙ simp (not_two, not_one)))))

    pub place_room : byte_at bytes 0 ≡ 4 → length bytes ≡ 18
    place_room is = (sized well).1 ∙ place_length (byte_at bytes 0) (byte_at bytes 2) is

    pub turn_room : byte_at bytes 0 ≡ 6 → length bytes ≡ 12
    turn_room is = (sized well).1 ∙ turn_length (byte_at bytes 0) (byte_at bytes 2) is

    -- a kind that is no other is the last
    pub kind_left : (kind : ℕ) → kind ≡ byte_at bytes 0 → (kind ≡ 1 → ⊥) → (kind ≡ 2 → ⊥) → (kind ≡ 3 → ⊥)
        → (kind ≡ 4 → ⊥) → (byte_at bytes 0 ≡ 5 → ⊥) → (kind ≡ 6 → ⊥) → kind ≡ 7
    kind_left kind kind_is no_1 no_2 no_3 no_4 no_5 no_6 =
        by_test (eqb kind 7)
        (λ last. eqb-true kind 7 last)
        (λ other. absurd ((sized well).0
        (ap (λ (k : ℕ). frame_length k (byte_at bytes 2)) (sym kind_is)
        ∙ no_length kind (byte_at bytes 2) no_1 no_2 no_3 no_4 (λ is. no_5 (sym kind_is ∙ is)) no_6
        (eqb-false kind 7 other))))
