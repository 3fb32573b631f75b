-- The tests of the pieces of a body: one for each piece, in order; and what is written over a list, place by place.
-- Assumes nothing.
use Prim.Native.Nat.{ℕ, zero, suc, ◌+◌, ◌-◌, ◌≤◌, ◌<◌}
use mathlib.Core.Path.{◌≡◌, refl, sym, ◌∙◌, ap, subst}
use mathlib.Core.Bool.{cond, false, false≢true}
use mathlib.Core.List.{List, [], ◌∷◌, ◌++◌, map}
use native.Mathlib.Omega.{arith}
use native.Mathlib.Nat.{add-zero, zero-add}
use lib.Dec.{eqb}
use lib.ListN.{length, get_or, set, drop, get_or-append}
use lib.Seq.{drop-nil, take-append_seam}
use borrow.Author.Tests.{eqb-true, eq-eqb}
use Rattle.algebra.specs.Buffer.{over}
use Rattle.algebra.proofs.Booleans.{by_test}
use Rattle.shape_definitions.specs.Refusal.{accepted}
use Rattle.record_definitions.specs.declared.world.Body.{Body}
use Rattle.record_definitions.specs.declared.world.Kept.{Kept}
use Rattle.record_definitions.specs.declared.world.Pair.{Pair}
use Rattle.record_definitions.specs.declared.touch.TestAnswer.{TestAnswer}
use Rattle.record_definitions.specs.declared.touch.Touch.{Touch}
use Rattle.record_definitions.specs.World.{chain_kind, pieces_of, piece_of, fresh_kept, kept_of}
use Rattle.record_definitions.specs.Touch.{tested, piece_tested, pieces_tested, first_refusal}
use Rattle.record_definitions.specs.Frame.{further_tests, all_tests, results_of, keep}
use Rattle.record_definitions.specs.Answer.{said_of_touches, touches_said}

-- ---- written over a list: good places stay good, the new ones are new, and the others old
module _ {A : Type 0} (d : A) where
  pub over_good : (Good : A → Type 0) (new old : List A) → ((k : ℕ) → k < length new → Good (get_or new k d))
      → ((k : ℕ) → Good (get_or old k d)) → (k : ℕ) → Good (get_or (over new old) k d)
  over_good Good [] old h g k = g k
  over_good Good (x ∷ new) [] h g zero = h 0 (omega arith)
  over_good Good (x ∷ new) [] h g (suc k) =
      subst (λ (l : List A). Good (get_or (new ++ l) k d))
      (drop-nil {A = A} (length new) ∙ sym (drop-nil {A = A} (suc (length new))))
      (over_good Good new [] (λ j within. h (suc j) (omega arith)) g k)
  over_good Good (x ∷ new) (y ∷ old) h g zero = h 0 (omega arith)
  over_good Good (x ∷ new) (y ∷ old) h g (suc k) =
      over_good Good new old (λ j within. h (suc j) (omega arith)) (λ j. g (suc j)) k

  pub over_old : (new old : List A) (k : ℕ) → length new ≤ k → get_or (over new old) k d ≡ get_or old k d
  over_old [] old k past = refl
  over_old (x ∷ new) old zero past = absurd (omega arith)
  over_old (x ∷ new) [] (suc k) past =
      ap (λ (l : List A). get_or (new ++ l) k d)
      (drop-nil {A = A} (suc (length new)) ∙ sym (drop-nil {A = A} (length new)))
      ∙ over_old new [] k (omega arith)
  over_old (x ∷ new) (y ∷ old) (suc k) past = over_old new old k (omega arith)

  pub over_new : (new old : List A) (k : ℕ) → k < length new → get_or (over new old) k d ≡ get_or new k d
  over_new new old k within = get_or-append new (drop (length new) old) d k within

module _ (ida idb : ℕ) (a b : Body) (pair : Pair) where
  -- ---- n tests from piece j on
  pub some_size : {B : Type 0} (f : TestAnswer → B) (j n : ℕ)
      → length (map f (pieces_tested ida idb a b pair j n)) ≡ n
  unfolding pieces_tested
  some_size f j zero = refl
  some_size f j (suc n) = ap suc (some_size f (suc j) n)

  nth_of_some : {B : Type 0} (f : TestAnswer → B) (d : B) (j n i : ℕ) → i < n
      → get_or (map f (pieces_tested ida idb a b pair j n)) i d ≡ f (piece_tested ida idb a b pair (j + i))
  unfolding pieces_tested
  nth_of_some f d j zero i within = absurd (omega arith)
  nth_of_some f d j (suc n) zero within = ap (λ (k : ℕ). f (piece_tested ida idb a b pair k)) (sym (add-zero j))
  nth_of_some f d j (suc n) (suc i) within =
      let next : suc j + i ≡ j + suc i = omega arith in
      nth_of_some f d (suc j) n i (omega arith) ∙ ap (λ (k : ℕ). f (piece_tested ida idb a b pair k)) next

  some_accepted : (j n i : ℕ) → i < n → first_refusal (pieces_tested ida idb a b pair j n) ≡ accepted
      → (piece_tested ida idb a b pair (j + i)).refusal ≡ accepted
  unfolding pieces_tested first_refusal
  some_accepted j zero i within none = absurd (omega arith)
  some_accepted j (suc n) i within none =
      let first = (piece_tested ida idb a b pair j).refusal in
      by_test (eqb first accepted)
      (λ taken. of_some i within (eqb-true first accepted taken)
      (λ k below. some_accepted (suc j) n k below (simp taken at none)))
      (λ refused. let zero_is : first ≡ accepted = simp refused at none in
      absurd (false≢true (sym refused ∙ eq-eqb first accepted zero_is)))
    where
      of_some : (i : ℕ) → i < suc n → (piece_tested ida idb a b pair j).refusal ≡ accepted
          → ((k : ℕ) → k < n → (piece_tested ida idb a b pair (suc j + k)).refusal ≡ accepted)
          → (piece_tested ida idb a b pair (j + i)).refusal ≡ accepted
      of_some zero within first rest = rw (add-zero j) first
      of_some (suc i) within first rest =
          let next : j + suc i ≡ suc j + i = omega arith in
          ap (λ (k : ℕ). (piece_tested ida idb a b pair k).refusal) next ∙ rest i (omega arith)

  -- ---- all tests: as many as pieces, and each that of its piece
  pub all_as_some : 0 < pieces_of a → all_tests ida idb a b pair ≡ pieces_tested ida idb a b pair 0 (pieces_of a)
  unfolding pieces_tested
  all_as_some some = of_pieces (pieces_of a) some
    where
      of_pieces : (n : ℕ) → 0 < n
          → piece_tested ida idb a b pair 0 ∷ pieces_tested ida idb a b pair 1 (n - 1)
          ≡ pieces_tested ida idb a b pair 0 n
      of_pieces zero some = absurd (omega arith)
      of_pieces (suc n) some =
          let less : suc n - 1 ≡ n = omega arith in
          ap (λ (m : ℕ). piece_tested ida idb a b pair 0 ∷ pieces_tested ida idb a b pair 1 m) less

  module _ {B : Type 0} (f : TestAnswer → B) where
    pub all_size : 0 < pieces_of a → length (map f (all_tests ida idb a b pair)) ≡ pieces_of a
    all_size some =
        ap (λ (l : List TestAnswer). length (map f l)) (all_as_some some) ∙ some_size f 0 (pieces_of a)

    pub nth_test : (d : B) (i : ℕ) → i < pieces_of a
        → get_or (map f (all_tests ida idb a b pair)) i d ≡ f (piece_tested ida idb a b pair i)
    nth_test d i within =
        ap (λ (l : List TestAnswer). get_or (map f l) i d) (all_as_some (omega arith))
        ∙ nth_of_some f d 0 (pieces_of a) i within
        ∙ ap (λ (k : ℕ). f (piece_tested ida idb a b pair k)) (zero-add i)

  pub each_accepted : first_refusal (all_tests ida idb a b pair) ≡ accepted → (i : ℕ) → i < pieces_of a
      → (piece_tested ida idb a b pair i).refusal ≡ accepted
  each_accepted none i within =
      ap (λ (k : ℕ). (piece_tested ida idb a b pair k).refusal) (sym (zero-add i))
      ∙ some_accepted 0 (pieces_of a) i within (ap first_refusal (sym (all_as_some (omega arith))) ∙ none)

  -- ---- what is kept of each piece, and what is said of it
  pub piece_kept : (i : ℕ) → i < pieces_of a
      → kept_of (keep (all_tests ida idb a b pair) pair) i ≡ (piece_tested ida idb a b pair i).kept
  piece_kept i within =
      over_new fresh_kept (map (λ (t : TestAnswer). t.kept) (all_tests ida idb a b pair)) pair.pieces i
      (omega (arith, all_size (λ (t : TestAnswer). t.kept) (omega arith)))
      ∙ nth_test (λ (t : TestAnswer). t.kept) fresh_kept i within

  -- nothing of pieces that the body has not
  pub past_kept : (i : ℕ) → 0 < pieces_of a → pieces_of a ≤ i
      → kept_of (keep (all_tests ida idb a b pair) pair) i ≡ kept_of pair i
  past_kept i some past =
      over_old fresh_kept (map (λ (t : TestAnswer). t.kept) (all_tests ida idb a b pair)) pair.pieces i
      (omega (arith, all_size (λ (t : TestAnswer). t.kept) some))

  pub all_said : touches_said
      (said_of_touches (piece_tested ida idb a b pair 0).touch (results_of (further_tests ida idb a b pair)))
      ≡ results_of (all_tests ida idb a b pair)
  all_said =
      ap (λ (l : List Touch). (piece_tested ida idb a b pair 0).touch ∷ l)
      (take-append_seam (results_of (further_tests ida idb a b pair)) _)

-- ---- a body that is no chain is its own only piece
module _ (a : Body) (other : eqb a.kind chain_kind ≡ false) where
  pub only_piece : (i : ℕ) → piece_of a i ≡ a
  unfolding piece_of
  only_piece i = rw other refl

  pub one_piece : pieces_of a ≡ 1
  one_piece = rw other refl

  pub no_further_tests : (ida idb : ℕ) (b : Body) (pair : Pair) → further_tests ida idb a b pair ≡ []
  unfolding pieces_tested
  no_further_tests ida idb b pair = ap (λ (n : ℕ). pieces_tested ida idb a b pair 1 (n - 1)) one_piece

  pub only_test : (ida idb : ℕ) (b : Body) (pair : Pair)
      → piece_tested ida idb a b pair 0 ≡ tested ida idb a b (kept_of pair 0)
  unfolding piece_tested
  only_test ida idb b pair = ap (λ (piece : Body). tested ida idb piece b (kept_of pair 0)) (only_piece 0)

-- ---- for the code: one piece more, its refusal, and the pair of a body that is no chain
module _ (ida idb : ℕ) (a b : Body) (pair : Pair) where
  pub one_piece_more : (j n : ℕ)
      → pieces_tested ida idb a b pair j (suc n)
      ≡ pieces_tested ida idb a b pair j n ++ (piece_tested ida idb a b pair (j + n) ∷ [])
  unfolding pieces_tested
  one_piece_more j zero = ap (λ (k : ℕ). piece_tested ida idb a b pair k ∷ []) (sym (add-zero j))
  one_piece_more j (suc n) =
      let next : suc j + n ≡ j + suc n = omega arith in
      ap (◌∷◌ (piece_tested ida idb a b pair j))
      (one_piece_more (suc j) n
      ∙ ap (λ (k : ℕ). pieces_tested ida idb a b pair (suc j) n ++ (piece_tested ida idb a b pair k ∷ [])) next)

pub one_refusal_more : (tests : List TestAnswer) (t : TestAnswer)
    → first_refusal (tests ++ (t ∷ [])) ≡ cond (eqb (first_refusal tests) accepted) t.refusal (first_refusal tests)
unfolding first_refusal
one_refusal_more [] t = by_test (eqb t.refusal accepted)
    (λ taken. rw taken (sym (eqb-true t.refusal accepted taken))) (λ refused. rw refused refl)
one_refusal_more (first ∷ tests) t =
    by_test (eqb first.refusal accepted)
    (λ taken. rw taken (one_refusal_more tests t)) (λ refused. rw (refused, refused) refl)

pub keep_one : (t : TestAnswer) (pair : Pair) → 0 < length pair.pieces
    → keep (t ∷ []) pair ≡ record { pieces = set pair.pieces 0 t.kept }
keep_one t pair some = ap (λ (l : List Kept). record { pieces = l }) (first_set pair.pieces some)
  where
    first_set : (l : List Kept) → 0 < length l → over (t.kept ∷ []) l ≡ set l 0 t.kept
    first_set [] none = absurd (omega arith)
    first_set (x ∷ l) some = refl
