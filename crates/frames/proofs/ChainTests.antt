-- The tests of a chain's pieces in a loop: what is known after some of them, how it begins, goes on and ends.
-- Assumes nothing.
use Prim.Native.Nat.{ℕ, ◌+◌, ◌-◌, ◌≤◌, ◌<◌, min}
use mathlib.Core.Path.{◌≡◌, refl, sym, ◌∙◌, ap, ap₂, subst}
use mathlib.Core.Bool.{false, cond}
use mathlib.Core.List.{List, [], ◌∷◌, ◌++◌, map, map-append}
use native.Mathlib.Numerals.{add-one, unary_clauses}
use native.Mathlib.Omega.{arith}
use lib.Dec.{eqb}
use lib.ListN.{length, get_or, set, replicate, length-set}
use borrow.Author.Tests.{eq-eqb, ne_eqb, eqb-true}
use Rattle.algebra.specs.Buffer.{over}
use Rattle.algebra.proofs.Booleans.{by_test}
use Rattle.algebra.proofs.Buffer.{over_store}
use Rattle.algebra.proofs.Lists.{getD_within}
use Rattle.shape_definitions.specs.Refusal.{accepted}
use Rattle.record_definitions.specs.declared.world.Body.{Body}
use Rattle.record_definitions.specs.declared.world.Kept.{Kept}
use Rattle.record_definitions.specs.declared.world.Pair.{Pair}
use Rattle.record_definitions.specs.declared.touch.TestAnswer.{TestAnswer}
use Rattle.record_definitions.specs.declared.touch.Touch.{Touch}
use Rattle.record_definitions.specs.declared.frame.Answer.TheVariants.{Tested}
use Rattle.record_definitions.specs.declared.frame.Change.{Change}
use Rattle.record_definitions.specs.World.{chain_kind, most_pieces, pieces_of, piece_of, fresh_kept}
use Rattle.record_definitions.specs.Touch.{tested, piece_tested, pieces_tested, first_refusal}
use Rattle.record_definitions.specs.Answer.{blank_touch, most_further}
use Rattle.record_definitions.specs.Frame.{refused, results_of, test_answered, further_tests}
use Rattle.record_definitions.proofs.PieceTests.{some_size, one_piece_more, one_refusal_more}
use Rattle.frames.specs.declared.test_frame.PieceMade.{PieceMade}
use Rattle.frames.specs.Made.{AnsweredAs}
use Rattle.std.specs.Prelude.{Ok, zero, suc}

pub further_is : (a : Body) (n : ℕ) → a.kind ≡ chain_kind → n ≡ min (a.chain.count - 1) most_pieces - 1
    → n ≡ pieces_of a - 1
further_is a n chain n_is = rw (eq-eqb a.kind chain_kind chain) n_is

module _ (ida idb : ℕ) (a b : Body) (pair : Pair) where
  abbrev test : ℕ → TestAnswer
  test i = piece_tested ida idb a b pair i

  -- ---- one piece: the body's, and what was read of the pair
  pub piece_run : (i : ℕ) (piece : Body) (past : Kept) → i < length pair.pieces → piece ≡ piece_of a i
      → tested ida idb piece b (get_or pair.pieces i past) ≡ test i
  unfolding piece_tested
  piece_run i piece past within piece_is =
      ap₂ (λ (p : Body) (k : Kept). tested ida idb p b k) piece_is (getD_within pair.pieces i past fresh_kept within)

  -- ---- the first piece and j further ones
  abbrev further : ℕ → List TestAnswer
  further j = pieces_tested ida idb a b pair 1 j

  abbrev kepts_of : List TestAnswer → List Kept
  kepts_of = map (λ (t : TestAnswer). t.kept)

  one_more : (j : ℕ) (t : TestAnswer) → t ≡ test (j + 1) → further (j + 1) ≡ further j ++ (t ∷ [])
  one_more j t t_is =
      let place : 1 + j ≡ j + 1 = omega arith in
      ap further (add-one j)
      ∙ one_piece_more ida idb a b pair 1 j
      ∙ ap (λ (s : TestAnswer). further j ++ (s ∷ [])) (ap test place ∙ sym t_is)

  pub record SoFar (n : ℕ) (kepts : List Kept) (more : List Touch) (j : ℕ) : Type 0 where
    pub few : n ≤ most_further
    pub seven : length pair.pieces ≡ 7
    pub within : j ≤ n
    pub kept_places : length kepts ≡ 7
    pub more_places : length more ≡ most_further
    pub taken : first_refusal (test 0 ∷ further j) ≡ accepted
    pub kept : kepts ≡ over (kepts_of (test 0 ∷ further j)) pair.pieces
    pub results : more ≡ over (results_of (further j)) (replicate most_further blank_touch)

  alone_refusal : (t : TestAnswer) → first_refusal (t ∷ []) ≡ t.refusal
  unfolding first_refusal
  alone_refusal t =
      by_test (eqb t.refusal accepted)
      (λ taken. rw taken (sym (eqb-true t.refusal accepted taken))) (λ refused. rw refused refl)

  -- the first refusal of one further piece more
  next_refusal : (j : ℕ) → first_refusal (test 0 ∷ further (j + 1))
      ≡ cond (eqb (first_refusal (test 0 ∷ further j)) accepted) (test (j + 1)).refusal
      (first_refusal (test 0 ∷ further j))
  next_refusal j =
      ap (λ (l : List TestAnswer). first_refusal (test 0 ∷ l)) (one_more j (test (j + 1)) refl)
      ∙ one_refusal_more (test 0 ∷ further j) (test (j + 1))

  pub begins : (n : ℕ) (first : PieceMade) (blank : Touch) → n ≤ most_further → length pair.pieces ≡ 7
      → AnsweredAs (Ok first) (test 0) → blank ≡ blank_touch
      → SoFar n (set pair.pieces 0 first.kept) (replicate most_further blank) 0
  unfolding pieces_tested
  begins n first blank few seven made blank_is = record {
    few = few;
    seven = seven;
    within = omega arith;
    kept_places = length-set pair.pieces 0 first.kept ∙ seven;
    more_places = refl;
    taken = alone_refusal (test 0) ∙ made.0;
    kept = over_store pair.pieces [] pair.pieces first.kept 0 refl refl (omega arith)
        ∙ ap (λ (k : Kept). over (k ∷ []) pair.pieces) made.1.1;
    results = ap (replicate most_further) blank_is;
  }

  module _ (n : ℕ) (kepts : List Kept) (more : List Touch) (j : ℕ) (so_far : SoFar n kepts more j) where
    -- ---- one turn
    module _ (made : PieceMade) (left : j < n) (made_is : AnsweredAs (Ok made) (test (j + 1))) where
      mapped : {B : Type 0} (f : TestAnswer → B) → map f (further j) ++ (f (test (j + 1)) ∷ [])
          ≡ map f (further (j + 1))
      mapped f =
          sym (map-append f (further j) (test (j + 1) ∷ [])) ∙ ap (map f) (sym (one_more j (test (j + 1)) refl))

      next_taken : first_refusal (test 0 ∷ further (j + 1)) ≡ accepted
      next_taken =
          next_refusal j
          ∙ ap (λ (m : ℕ). cond (eqb m accepted) (test (j + 1)).refusal m) so_far.taken
          ∙ made_is.0

      next_kept : set kepts (j + 1) made.kept ≡ over (kepts_of (test 0 ∷ further (j + 1))) pair.pieces
      next_kept =
          let size : length (kepts_of (test 0 ∷ further j)) ≡ j + 1 =
          omega (arith, some_size ida idb a b pair (λ (s : TestAnswer). s.kept) 1 j) in
          ap (set kepts (j + 1)) made_is.1.1
          ∙ over_store kepts (kepts_of (test 0 ∷ further j)) pair.pieces (test (j + 1)).kept (j + 1) so_far.kept size
          (omega (arith, so_far.seven, so_far.few))
          ∙ ap (λ (l : List Kept). over ((test 0).kept ∷ l) pair.pieces) (mapped (λ (s : TestAnswer). s.kept))

      next_results : set more j made.touch ≡ over (results_of (further (j + 1))) (replicate most_further blank_touch)
      next_results =
          ap (set more j) made_is.1.0
          ∙ over_store more (results_of (further j)) (replicate most_further blank_touch) (test (j + 1)).touch j
          so_far.results (some_size ida idb a b pair (λ (s : TestAnswer). s.touch) 1 j)
          (omega (arith, so_far.few))
          ∙ ap (λ (l : List Touch). over l (replicate most_further blank_touch)) (mapped (λ (s : TestAnswer). s.touch))

      pub goes_on : SoFar n (set kepts (j + 1) made.kept) (set more j made.touch) (j + 1)
      goes_on = record {
        few = so_far.few;
        seven = so_far.seven;
        within = omega arith;
        kept_places = length-set kepts (j + 1) made.kept ∙ so_far.kept_places;
        more_places = length-set more j made.touch ∙ so_far.more_places;
        taken = next_taken;
        kept = next_kept;
        results = next_results;
      }

    -- ---- the end: all further pieces of the body were tested
    module _ (n_is : n ≡ pieces_of a - 1) where
      abbrev answered : Touch → ℕ → List Touch → List Kept → Change
      answered first k results kept = record {
        said = record { answer = Tested first; further = k; more = results };
        body = a;
        pair = record { pieces = kept };
        forget = false;
      }

      pub pieces_answered : (first : PieceMade) → n ≤ j → AnsweredAs (Ok first) (test 0)
          → answered first.touch n more kepts ≡ test_answered a pair (test 0) (further_tests ida idb a b pair)
      pieces_answered first last made =
          let all : j ≡ pieces_of a - 1 = omega (arith, so_far.within) in
          let touches = results_of (further j) in
          let size : n ≡ length touches =
          omega (arith, so_far.within, some_size ida idb a b pair (λ (s : TestAnswer). s.touch) 1 j) in
          let taken = eq-eqb (first_refusal (test 0 ∷ further j)) accepted so_far.taken in
          subst (λ (k : ℕ). answered first.touch n more kepts ≡ test_answered a pair (test 0) (further k)) all
          (ap₂ (λ (t : Touch) (k : ℕ). answered t k more kepts) made.1.0 size
          ∙ ap₂ (answered (test 0).touch (length touches)) so_far.results so_far.kept
          ∙ simp taken)

  -- ---- a refusal: no further piece changes it
  module _ (number : ℕ) (some : number ≡ accepted → ⊥) where
    stays : (k d : ℕ) → first_refusal (test 0 ∷ further k) ≡ number → first_refusal (test 0 ∷ further (k + d)) ≡ number
    stays k zero is = simp unary_clauses is
    stays k (suc d) is =
        let before = stays k d is in
        let next : k + suc d ≡ k + d + 1 = omega arith in
        ap (λ (m : ℕ). first_refusal (test 0 ∷ further m)) next
        ∙ next_refusal (k + d)
        ∙ simp (ne_eqb (first_refusal (test 0 ∷ further (k + d))) accepted (λ none. some (sym before ∙ none))) before

    refused_at : (k n : ℕ) → first_refusal (test 0 ∷ further k) ≡ number → k ≤ n → n ≡ pieces_of a - 1
        → refused number a pair ≡ test_answered a pair (test 0) (further_tests ida idb a b pair)
    refused_at k n is within n_is =
        let all : k + (n - k) ≡ pieces_of a - 1 = omega arith in
        let last = stays k (n - k) is in
        subst (λ (m : ℕ). refused number a pair ≡ test_answered a pair (test 0) (further m)) all
        (rw last (simp (ne_eqb number accepted some)))

    pub first_refused : (n : ℕ) → n ≡ pieces_of a - 1 → (test 0).refusal ≡ number
        → refused number a pair ≡ test_answered a pair (test 0) (further_tests ida idb a b pair)
    unfolding pieces_tested
    first_refused n n_is is = refused_at 0 n (alone_refusal (test 0) ∙ is) (omega arith) n_is

    pub further_refused : (n : ℕ) (kepts : List Kept) (more : List Touch) (j : ℕ) → SoFar n kepts more j
        → n ≡ pieces_of a - 1 → j < n → (test (j + 1)).refusal ≡ number
        → refused number a pair ≡ test_answered a pair (test 0) (further_tests ida idb a b pair)
    further_refused n kepts more j so_far n_is left is =
        refused_at (j + 1) n
        (next_refusal j ∙ simp (eq-eqb (first_refusal (test 0 ∷ further j)) accepted so_far.taken) is)
        (omega arith) n_is
