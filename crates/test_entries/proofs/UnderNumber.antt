-- What is written under a number: the answer of the entry that has it, and nothing where none has. Assumes nothing.
use Prim.Native.Nat.{ℕ}
use mathlib.Core.Path.{◌≡◌, sym, ap}
use mathlib.Core.List.{List}
use borrow.Author.Tests.{ne_eqb}
use Rattle.wire.specs.Words.{Written}
use Rattle.wire.proofs.Bytes.{nothing_written, written_as}
use Rattle.test_entries.specs.ByNumber.{shape_answer, contact_answer}

pub under_number : (answer : ℕ → List ℕ → List ℕ) (number entry : ℕ) (request out after : List ℕ) (r : ℕ)
    → entry ≡ number → Written (answer number request) out r after → Written (answer entry request) out r after
under_number answer number entry request out after r is =
    written_as (answer number request) (answer entry request) out r after
    (ap (λ (n : ℕ). answer n request) (sym is))

pub no_shape : (entry : ℕ) (request out : List ℕ) → (entry ≡ 1 → ⊥) → (entry ≡ 2 → ⊥) → (entry ≡ 3 → ⊥)
    → (entry ≡ 4 → ⊥) → (entry ≡ 5 → ⊥) → (entry ≡ 6 → ⊥) → Written (shape_answer entry request) out 0 out
unfolding shape_answer
no_shape entry request out no_1 no_2 no_3 no_4 no_5 no_6 =
    nothing_written (shape_answer entry request) out
    (simp (ne_eqb _ _ no_1, ne_eqb _ _ no_2, ne_eqb _ _ no_3, ne_eqb _ _ no_4, ne_eqb _ _ no_5, ne_eqb _ _ no_6))

pub no_contact : (entry : ℕ) (request out : List ℕ) → (entry ≡ 7 → ⊥) → (entry ≡ 8 → ⊥) → (entry ≡ 9 → ⊥)
    → (entry ≡ 10 → ⊥) → (entry ≡ 11 → ⊥) → (entry ≡ 12 → ⊥) → (entry ≡ 13 → ⊥) → (entry ≡ 14 → ⊥)
    → Written (contact_answer entry request) out 0 out
unfolding contact_answer
no_contact entry request out no_7 no_8 no_9 no_10 no_11 no_12 no_13 no_14 =
    nothing_written (contact_answer entry request) out
    (simp (
      ne_eqb _ _ no_7,
      ne_eqb _ _ no_8,
      ne_eqb _ _ no_9,
      ne_eqb _ _ no_10,
      ne_eqb _ _ no_11,
      ne_eqb _ _ no_12,
      ne_eqb _ _ no_13,
      ne_eqb _ _ no_14,
    ))
