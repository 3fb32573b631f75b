-- A frame that its bytes alone do not refuse is well-formed, of one of the seven kinds, and names ids below eight.
-- Assumes nothing.
use Prim.Native.Nat.{ℕ, ◌≤◌}
use mathlib.Core.Path.{◌≡◌, refl}
use mathlib.Core.Bool.{Bool, true, false, not, cond, ◌&&◌, false≢true}
use mathlib.Core.List.{List}
use native.Mathlib.Omega.{arith}
use lib.Dec.{eqb, ltb}
use borrow.Author.Tests.{eqb-true, eq-eqb, ne_eqb, ltb-false, le-ltb}
use Rattle.algebra.proofs.Booleans.{by_test, or_fails}
use Rattle.lines.specs.Fields.{byte_at}
use Rattle.shape_definitions.specs.Refusal.{accepted, malformed_frame, unknown_id}
use Rattle.contact_definitions.proofs.Counts.{either}
use Rattle.record_definitions.specs.Frame.{frame_length, well_formed, largest_id, names_unknown, frame_refusal}

-- the kinds that have a length are 1 to 7
pub last_kind : (kind third : ℕ) → (frame_length kind third ≡ 0 → ⊥) → eqb kind 1 ≡ false → eqb kind 2 ≡ false
    → eqb kind 3 ≡ false → eqb kind 4 ≡ false → eqb kind 6 ≡ false → eqb kind 7 ≡ false → kind ≡ 5
unfolding frame_length
last_kind kind third known no_1 no_2 no_3 no_4 no_6 no_7 =
    by_test (eqb kind 5) (eqb-true kind 5) (λ no_5. absurd (known (simp (no_1, no_2, no_3, no_4, no_5, no_6, no_7))))

module _ (bytes : List ℕ) where
  -- a well-formed frame has a length
  sized : well_formed bytes ≡ true → frame_length (byte_at bytes 0) (byte_at bytes 2) ≡ 0 → ⊥
  unfolding well_formed
  sized formed none =
      false≢true (simp (eq-eqb (frame_length (byte_at bytes 0) (byte_at bytes 2)) 0 none) at formed)

  -- the number is 10, 11 or none
  pub of_bytes_alone : (P : ℕ → Type 0) → P malformed_frame → P unknown_id → P accepted → P (frame_refusal bytes)
  unfolding frame_refusal
  of_bytes_alone P ten eleven none =
      either P (not (well_formed bytes)) _ _ ten (either P (names_unknown bytes) _ _ eleven none)

  -- a frame that is no test, well-formed and of a known id
  pub not_refused_alone : well_formed bytes ≡ true → byte_at bytes 1 ≤ largest_id → (byte_at bytes 0 ≡ 5 → ⊥)
      → frame_refusal bytes ≡ accepted
  unfolding frame_refusal
  not_refused_alone formed known no_test =
      simp (formed, le-ltb largest_id (byte_at bytes 1) known, ne_eqb (byte_at bytes 0) 5 no_test)

  both_tests : (well unknown : Bool) → cond (not well) malformed_frame (cond unknown unknown_id accepted) ≡ accepted
      → (well ≡ true) × (unknown ≡ false)
  both_tests false unknown none = absurd (omega arith)
  both_tests true true none = absurd (omega arith)
  both_tests true false none = (refl, refl)

  module _ (taken : frame_refusal bytes ≡ accepted) where
    tests : (well_formed bytes ≡ true) × (names_unknown bytes ≡ false)
    unfolding frame_refusal
    tests = both_tests (well_formed bytes) (names_unknown bytes) taken

    pub formed : well_formed bytes ≡ true
    formed = tests.0

    pub known_kind : frame_length (byte_at bytes 0) (byte_at bytes 2) ≡ 0 → ⊥
    known_kind = sized formed

    each_id : (ltb largest_id (byte_at bytes 1) ≡ false)
        × (eqb (byte_at bytes 0) 5 && ltb largest_id (byte_at bytes 2) ≡ false)
    each_id = or_fails (ltb largest_id (byte_at bytes 1)) _ tests.1

    pub first_known : byte_at bytes 1 ≤ largest_id
    first_known = omega (arith, ltb-false largest_id (byte_at bytes 1) each_id.0)

    pub second_known : byte_at bytes 0 ≡ 5 → byte_at bytes 2 ≤ largest_id
    second_known five =
        let within : ltb largest_id (byte_at bytes 2) ≡ false = (simp (eq-eqb (byte_at bytes 0) 5 five) at each_id).1 in
        omega (arith, ltb-false largest_id (byte_at bytes 2) within)
