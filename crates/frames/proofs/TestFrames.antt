-- A test frame is refused at once, or answered as its tests are: of a body that is no chain there is one. Assumes
-- nothing.
use Prim.Native.Nat.{ℕ, ◌<◌}
use mathlib.Core.Path.{◌≡◌, sym, ◌∙◌, ap, ap₂}
use mathlib.Core.List.{[]}
use native.Mathlib.Omega.{arith}
use lib.ListN.{length, get_or, set}
use borrow.Author.Tests.{eq-eqb, ne_eqb}
use Rattle.algebra.proofs.Lists.{getD_within}
use Rattle.shape_definitions.specs.Refusal.{accepted}
use Rattle.record_definitions.specs.declared.world.Body.{Body}
use Rattle.record_definitions.specs.declared.world.Kept.{Kept}
use Rattle.record_definitions.specs.declared.world.Pair.{Pair}
use Rattle.std.specs.Prelude.{Ok}
use Rattle.record_definitions.specs.declared.touch.TestAnswer.{TestAnswer}
use Rattle.record_definitions.specs.declared.touch.Touch.{Touch}
use Rattle.record_definitions.specs.declared.frame.Change.{Change}
use Rattle.record_definitions.specs.World.{chain_kind, fresh_kept, kept_of}
use Rattle.record_definitions.specs.Touch.{tested, piece_tested, first_refusal}
use Rattle.record_definitions.specs.Frame.{refused, test_refusal, test_answered, further_tests, test_change}
use Rattle.record_definitions.proofs.PieceTests.{only_test, no_further_tests, keep_one}
use Rattle.frames.specs.Made.{of_test}

module _ (ida idb : ℕ) (a b : Body) (pair : Pair) where
  -- what the tests of all pieces answer
  abbrev pub answered : Change
  answered = test_answered a pair (piece_tested ida idb a b pair 0) (further_tests ida idb a b pair)

  pub test_refused : (number : ℕ) → number ≡ test_refusal ida idb a.kind b.kind → (number ≡ accepted → ⊥)
      → refused number a pair ≡ test_change ida idb a b pair
  unfolding test_change
  test_refused number number_is some = rw (← number_is) (simp (ne_eqb number accepted some))

  pub test_run : accepted ≡ test_refusal ida idb a.kind b.kind → answered ≡ test_change ida idb a b pair
  unfolding test_change
  test_run none = simp (eq-eqb (test_refusal ida idb a.kind b.kind) accepted (sym none))

  -- ---- of a body that is no chain, with what the pair keeps of its only piece
  module _ (kept : Kept) (kept_is : kept_of pair 0 ≡ kept) where
    module _ (other : a.kind ≡ chain_kind → ⊥) (t : TestAnswer) (t_is : t ≡ tested ida idb a b kept) where
      one_test : answered ≡ test_answered a pair t []
      one_test =
          let no_chain = ne_eqb a.kind chain_kind other in
          ap₂ (test_answered a pair)
          (only_test a no_chain ida idb b pair ∙ ap (tested ida idb a b) kept_is ∙ sym t_is)
          (no_further_tests a no_chain ida idb b pair)

      pub alone_refused : (number : ℕ) → t.refusal ≡ number → (number ≡ accepted → ⊥)
          → refused number a pair ≡ answered
      unfolding first_refusal
      alone_refused number number_is some =
          let no = ne_eqb t.refusal accepted (λ none. some (sym number_is ∙ none)) in
          ap (λ (n : ℕ). refused n a pair) (sym number_is)
          ∙ ◌∙◌ {b = test_answered a pair t []} (simp no) (sym one_test)

      pub alone_answered : (touch : Touch) (left : Kept) → t.refusal ≡ accepted → touch ≡ t.touch → left ≡ t.kept
          → 0 < length pair.pieces
          → of_test (Ok (record { touch = touch; pair = record { pieces = set pair.pieces 0 left } })) a pair
          ≡ answered
      unfolding first_refusal
      alone_answered touch left none touch_is left_is some =
          let taken = eq-eqb t.refusal accepted none in
          rw (touch_is, left_is)
          (◌∙◌ {b = test_answered a pair t []} (rw (← keep_one t pair some) (simp taken)) (sym one_test))

-- what is read of the pair
pub kept_read : (pair : Pair) (d : Kept) → length pair.pieces ≡ 7 → kept_of pair 0 ≡ get_or pair.pieces 0 d
kept_read pair d seven = getD_within pair.pieces 0 fresh_kept d (omega arith)
