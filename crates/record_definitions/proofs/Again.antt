-- A test that answers, sent again at once: it answers again, and counts nothing more, for it finds as many points.
-- Assumes nothing.
use Prim.Native.Nat.{ℕ, zero, suc, ◌-◌, ◌≤◌}
use mathlib.Core.Path.{◌≡◌, refl, ap}
use mathlib.Core.Bool.{Bool, true, false, cond}
use mathlib.Core.List.{List}
use lib.Dec.{eqb}
use borrow.Author.Tests.{eqb-true, eqb-false}
use Rattle.algebra.proofs.Booleans.{by_test}
use Rattle.lines.specs.Fields.{byte_at}
use Rattle.shape_definitions.specs.Refusal.{accepted}
use Rattle.record_definitions.specs.declared.world.Body.{Body}
use Rattle.record_definitions.specs.declared.world.Kept.{Kept}
use Rattle.record_definitions.specs.declared.world.Pair.{Pair}
use Rattle.record_definitions.specs.declared.touch.Touch.{Touch}
use Rattle.record_definitions.specs.declared.frame.Answer.TheVariants.{Tested}
use Rattle.record_definitions.specs.declared.frame.Change.{Change}
use Rattle.record_definitions.specs.World.{pieces_of}
use Rattle.record_definitions.specs.Touch.{meet, touch_of, tested_as, tested, piece_tested, pieces_tested}
use Rattle.record_definitions.specs.Touch.{first_refusal}
use Rattle.record_definitions.specs.Frame.{frame_refusal, refused, test_refusal, further_tests, all_tests}
use Rattle.record_definitions.specs.Frame.{test_answered, test_change, change_of_kind, change}
use Rattle.record_definitions.proofs.Changes.{Untested, refused_untested, kind_untested}
use Rattle.record_definitions.proofs.States.{count_of}
use Rattle.record_definitions.proofs.Rulebook.{stays}

-- ---- whether a test answers does not hang on the pair
refused_alike : (ida idb : ℕ) (a b : Body) (pair pair' : Pair) (i n : ℕ)
    → first_refusal (pieces_tested ida idb a b pair i n) ≡ first_refusal (pieces_tested ida idb a b pair' i n)
unfolding pieces_tested first_refusal piece_tested tested tested_as
refused_alike ida idb a b pair pair' i zero = refl
refused_alike ida idb a b pair pair' i (suc n) =
    let refusal = (piece_tested ida idb a b pair i).refusal in
    ap (λ (rest : ℕ). cond (eqb refusal accepted) rest refusal) (refused_alike ida idb a b pair pair' (suc i) n)

all_refused_alike : (ida idb : ℕ) (a b : Body) (pair pair' : Pair)
    → first_refusal (all_tests ida idb a b pair) ≡ first_refusal (all_tests ida idb a b pair')
unfolding first_refusal piece_tested tested tested_as
all_refused_alike ida idb a b pair pair' =
    let refusal = (piece_tested ida idb a b pair 0).refusal in
    ap (λ (rest : ℕ). cond (eqb refusal accepted) rest refusal)
    (refused_alike ida idb a b pair pair' 1 (pieces_of a - 1))

module _ (a b : Body) (pair pair' : Pair) (bytes : List ℕ) where
  Again : Change → Change → Type 0
  Again c c' =
      (t : Touch) → c.said.answer ≡ Tested t
      → c'.said.answer ≡ Tested (piece_tested (byte_at bytes 1) (byte_at bytes 2) a b pair' 0).touch

  either_again : (t : Bool) (x y x' y' : Change) → Again x x' → Again y y' → Again (cond t x y) (cond t x' y')
  either_again true x y x' y' first second = first
  either_again false x y x' y' first second = second

  untested_again : (c c' : Change) → Untested c → Again c c'
  unfolding Again Untested
  untested_again c c' none t is = absurd (none t is)

  refused_again : (n : ℕ) (c' : Change) → Again (refused n a pair) c'
  refused_again n c' = untested_again (refused n a pair) c' (refused_untested a pair n)

  tested_again : (c c' : Change)
      → c'.said.answer ≡ Tested (piece_tested (byte_at bytes 1) (byte_at bytes 2) a b pair' 0).touch → Again c c'
  unfolding Again
  tested_again c c' same t is = same

  test_again : Again (test_change (byte_at bytes 1) (byte_at bytes 2) a b pair)
      (test_change (byte_at bytes 1) (byte_at bytes 2) a b pair')
  unfolding test_change
  test_again =
      let ida = byte_at bytes 1 in
      let idb = byte_at bytes 2 in
      let number = test_refusal ida idb a.kind b.kind in
      let refusal = first_refusal (all_tests ida idb a b pair) in
      let now = test_answered a pair (piece_tested ida idb a b pair 0) (further_tests ida idb a b pair) in
      let later : Again now
      (test_answered a pair' (piece_tested ida idb a b pair' 0) (further_tests ida idb a b pair')) =
      rw (← all_refused_alike ida idb a b pair pair')
      (either_again (eqb refusal accepted) _ _ _ _ (tested_again _ _ refl) (refused_again refusal _)) in
      either_again (eqb number accepted) _ _ _ _ later (refused_again number _)

  kind_again : frame_refusal bytes ≡ accepted
      → Again (change_of_kind (byte_at bytes 0) a b pair bytes) (change_of_kind (byte_at bytes 0) a b pair' bytes)
  unfolding change_of_kind
  kind_again taken =
      by_test (eqb (byte_at bytes 0) 5) (λ is_test. rw (eqb-true (byte_at bytes 0) 5 is_test) test_again)
      (λ other. untested_again _ _ (kind_untested a b pair bytes taken (eqb-false (byte_at bytes 0) 5 other)))

  pub change_again : (t : Touch) → (change a b pair bytes).said.answer ≡ Tested t
      → (change a b pair' bytes).said.answer
      ≡ Tested (piece_tested (byte_at bytes 1) (byte_at bytes 2) a b pair' 0).touch
  unfolding change Again
  change_again =
      let number = frame_refusal bytes in
      by_test (eqb number accepted) (λ taken. rw taken (kind_again (eqb-true number accepted taken)))
      (λ not_taken. rw not_taken (refused_again number (refused number a pair')))

-- ---- and it counts nothing more
pub counts_no_more : (ida idb : ℕ) (a b : Body) (kept : Kept) → (meet a b).manifold.point_count ≤ 2
    → (tested ida idb a b (tested ida idb a b kept).kept).touch.touches ≡ (tested ida idb a b kept).touch.touches
unfolding tested tested_as touch_of
counts_no_more ida idb a b kept few =
    rw (count_of (meet a b).manifold few) (stays _ (meet a b).manifold.point_count)
