-- What an accepted frame does, by its kind: a new shape forgets its pairs, a placement leaves the pair, and a test that
-- answers leaves the body, says a result for each piece and keeps for each what its own test leaves. Assumes nothing.
use Prim.Native.Nat.{ℕ, ◌≤◌}
use mathlib.Core.Path.{◌≡◌, refl, sym, ◌∙◌, ap}
use mathlib.Core.Bool.{Bool, true, false, cond}
use mathlib.Core.List.{List}
use mathlib.Core.Logic.{◌⊎◌, inl, inr}
use native.Mathlib.Omega.{arith}
use lib.Dec.{eqb}
use borrow.Author.Tests.{eqb-true, eqb-false, eq-eqb}
use Rattle.algebra.proofs.Booleans.{by_test}
use Rattle.lines.specs.Fields.{byte_at, points_at}
use Rattle.shape_definitions.specs.Circle.{circle_in_range}
use Rattle.shape_definitions.specs.Polygon.{b2_polygon_shape_set}
use Rattle.shape_definitions.specs.Refusal.{accepted}
use Rattle.contact_definitions.proofs.Counts.{either}
use Rattle.record_definitions.specs.declared.world.Body.{Body}
use Rattle.record_definitions.specs.declared.world.Pair.{Pair}
use Rattle.record_definitions.specs.declared.touch.Touch.{Touch}
use Rattle.record_definitions.specs.declared.frame.Answer.TheVariants.{Accepted, Tested}
use Rattle.record_definitions.specs.declared.frame.Change.{Change}
use Rattle.record_definitions.specs.World.{blank_outline}
use Rattle.record_definitions.specs.Touch.{piece_tested, first_refusal}
use Rattle.record_definitions.specs.Answer.{said_of_touches}
use Rattle.record_definitions.specs.Frame.{largest_id, frame_refusal, refused, defined, circle_at, circle_change}
use Rattle.record_definitions.specs.Frame.{outline_change, wall_at, wall_change, chain_refusal, chain_change}
use Rattle.record_definitions.specs.Frame.{further_tests, all_tests, results_of, keep, test_refusal, test_change}
use Rattle.record_definitions.specs.Frame.{change_of_kind, change}
use Rattle.record_definitions.specs.Export.{answer_refusal, refusal_in}
use Rattle.record_definitions.proofs.FrameRefusals.{last_kind, known_kind, first_known, second_known}
use Rattle.record_definitions.proofs.Placements.{place_cases, turn_cases}

-- the kinds of frames that define a shape
abbrev pub NewShape : ℕ → Type 0
NewShape kind = (kind ≡ 1) ⊎ ((kind ≡ 2) ⊎ ((kind ≡ 3) ⊎ (kind ≡ 7)))

-- the kinds of frames that place a body
abbrev pub Placing : ℕ → Type 0
Placing kind = (kind ≡ 4) ⊎ (kind ≡ 6)

pub by_choice : {A : Type 0} (P : A → Type 0) (test : Bool) (x y : A) → (test ≡ true → P x) → (test ≡ false → P y)
    → P (cond test x y)
by_choice P true x y h k = h refl
by_choice P false x y h k = k refl

-- a change that answers with no test's result
unfoldable pub Untested : Change → Type 0
Untested c = (t : Touch) → c.said.answer ≡ Tested t → ⊥

pub refused_untested : (a : Body) (pair : Pair) (n : ℕ) → Untested (refused n a pair)
unfolding Untested
refused_untested a pair n t is = let never : ◌≡◌ {A = ℕ} 0 1 = cc in omega arith

accepted_untested : (c : Change) → c.said.answer ≡ Accepted → Untested c
unfolding Untested
accepted_untested c taken t is = let never : ◌≡◌ {A = ℕ} 0 1 = cc in omega arith

-- what a test that answers t leaves
pub record WasTested (ida idb : ℕ) (a b : Body) (pair : Pair) (t : Touch) (c : Change) : Type 0 where
  pub second_id : idb ≤ largest_id
  pub not_refused : first_refusal (all_tests ida idb a b pair) ≡ accepted
  pub touch_is : t ≡ (piece_tested ida idb a b pair 0).touch
  pub said_is : c.said
      ≡ said_of_touches (piece_tested ida idb a b pair 0).touch (results_of (further_tests ida idb a b pair))
  pub pair_is : c.pair ≡ keep (all_tests ida idb a b pair) pair
  pub same_body : c.body ≡ a
  pub keeps : c.forget ≡ false

module _ (a b : Body) (pair : Pair) (bytes : List ℕ) where
  -- an accepted frame names an id, and is that of its kind
  module _ (taken : refusal_in (change a b pair bytes).said ≡ accepted) where
    pub not_refused : frame_refusal bytes ≡ accepted
    unfolding change
    not_refused =
        let number = frame_refusal bytes in
        by_test (eqb number accepted) (eqb-true number accepted) (λ some. simp some at taken)

    pub first_id : byte_at bytes 1 ≤ largest_id
    first_id = first_known bytes not_refused

    pub is_of_kind : change a b pair bytes ≡ change_of_kind (byte_at bytes 0) a b pair bytes
    unfolding change
    is_of_kind = simp (eq-eqb (frame_refusal bytes) accepted not_refused)

  -- ---- a new shape that is accepted forgets its pairs
  built_forgets : (t : Bool) (n : ℕ) (made : Body)
      → (cond t (defined made pair) (refused n a pair)).said.answer ≡ Accepted
      → (cond t (defined made pair) (refused n a pair)).forget ≡ true
  built_forgets true n made is = refl
  built_forgets false n made is =
      let never : ◌≡◌ {A = ℕ} 0 1 = cc in
      absurd (omega arith)

  kind_forgets : (kind : ℕ) → NewShape kind → (change_of_kind kind a b pair bytes).said.answer ≡ Accepted
      → (change_of_kind kind a b pair bytes).forget ≡ true
  unfolding change_of_kind circle_change outline_change wall_change chain_change
  kind_forgets kind (inl one) = rw one (built_forgets (circle_in_range (circle_at bytes)) _ _)
  kind_forgets kind (inr (inl two)) =
      let built = b2_polygon_shape_set blank_outline (points_at bytes 3 (byte_at bytes 2)) in
      rw two (built_forgets (eqb built.refusal accepted) _ _)
  kind_forgets kind (inr (inr (inl three))) = rw three (built_forgets (eqb (wall_at bytes).refusal accepted) _ _)
  kind_forgets kind (inr (inr (inr seven))) = rw seven (built_forgets (eqb (chain_refusal bytes) accepted) _ _)

  pub shape_forgets : NewShape (byte_at bytes 0) → (change a b pair bytes).said.answer ≡ Accepted
      → (change a b pair bytes).forget ≡ true
  shape_forgets new is =
      let same = is_of_kind (ap answer_refusal is) in
      ap (λ (c : Change). c.forget) same
      ∙ kind_forgets (byte_at bytes 0) new (ap (λ (c : Change). c.said.answer) (sym same) ∙ is)

  -- ---- a placement leaves the pair, accepted or not
  abbrev Leaves : Change → Type 0
  Leaves c = (c.pair ≡ pair) × (c.forget ≡ false)

  kind_leaves : (kind : ℕ) → Placing kind → Leaves (change_of_kind kind a b pair bytes)
  unfolding change_of_kind
  kind_leaves kind (inl four) =
      rw four (place_cases a pair bytes Leaves (λ n. (refl, refl)) (λ xf inside. (refl, refl)))
  kind_leaves kind (inr six) =
      rw six (turn_cases a pair bytes Leaves (λ n. (refl, refl)) (λ xf inside. (refl, refl)))

  pub placing_leaves : Placing (byte_at bytes 0) → Leaves (change a b pair bytes)
  unfolding change
  placing_leaves placing =
      either Leaves (eqb (frame_refusal bytes) accepted) _ _ (kind_leaves (byte_at bytes 0) placing) (refl, refl)

  -- ---- no frame but a test answers with a result
  built_untested : (t : Bool) (n : ℕ) (made : Body) → Untested (cond t (defined made pair) (refused n a pair))
  built_untested t n made = either Untested t _ _ (accepted_untested _ refl) (refused_untested a pair n)

  pub kind_untested : frame_refusal bytes ≡ accepted → (byte_at bytes 0 ≡ 5 → ⊥)
      → Untested (change_of_kind (byte_at bytes 0) a b pair bytes)
  unfolding change_of_kind circle_change outline_change wall_change chain_change
  kind_untested taken no_test =
      let kind = byte_at bytes 0 in
      let built = b2_polygon_shape_set blank_outline (points_at bytes 3 (byte_at bytes 2)) in
      by_choice Untested (eqb kind 1) _ _ (λ one. built_untested (circle_in_range (circle_at bytes)) _ _)
      (λ no_1. by_choice Untested (eqb kind 2) _ _ (λ two. built_untested (eqb built.refusal accepted) _ _)
      (λ no_2. by_choice Untested (eqb kind 3) _ _ (λ three. built_untested (eqb (wall_at bytes).refusal accepted) _ _)
      (λ no_3. by_choice Untested (eqb kind 4) _ _
      (λ four. place_cases a pair bytes Untested (refused_untested a pair) (λ xf inside. accepted_untested _ refl))
      (λ no_4. by_choice Untested (eqb kind 6) _ _
      (λ six. turn_cases a pair bytes Untested (refused_untested a pair) (λ xf inside. accepted_untested _ refl))
      (λ no_6. by_choice Untested (eqb kind 7) _ _ (λ seven. built_untested (eqb (chain_refusal bytes) accepted) _ _)
      (λ no_7. absurd (no_test
      (last_kind kind (byte_at bytes 2) (known_kind bytes taken) no_1 no_2 no_3 no_4 no_6 no_7))))))))

  -- ---- a test that answers
  Answers : Change → Type 0
  Answers c = (t : Touch) → c.said.answer ≡ Tested t → WasTested (byte_at bytes 1) (byte_at bytes 2) a b pair t c

  untested_answers : (c : Change) → Untested c → Answers c
  unfolding Answers Untested
  untested_answers c none t is = absurd (none t is)

  test_answers : byte_at bytes 2 ≤ largest_id → Answers (test_change (byte_at bytes 1) (byte_at bytes 2) a b pair)
  unfolding test_change Answers
  test_answers known =
      let ida = byte_at bytes 1 in
      let idb = byte_at bytes 2 in
      let number = test_refusal ida idb a.kind b.kind in
      let refusal = first_refusal (all_tests ida idb a b pair) in
      by_choice Answers (eqb number accepted) _ _
      (λ listed_pair. by_choice Answers (eqb refusal accepted) _ _
      (λ taken t is. record {
        second_id = known;
        not_refused = eqb-true refusal accepted taken;
        touch_is = cc;
        said_is = refl;
        pair_is = refl;
        same_body = refl;
        keeps = refl;
      })
      (λ not_taken. untested_answers _ (refused_untested a pair refusal)))
      (λ not_listed. untested_answers _ (refused_untested a pair number))

  kind_answers : frame_refusal bytes ≡ accepted → Answers (change_of_kind (byte_at bytes 0) a b pair bytes)
  unfolding change_of_kind
  kind_answers taken =
      by_test (eqb (byte_at bytes 0) 5)
      (λ is_test. let five = eqb-true (byte_at bytes 0) 5 is_test in
      rw five (test_answers (second_known bytes taken five)))
      (λ other. untested_answers _ (kind_untested taken (eqb-false (byte_at bytes 0) 5 other)))

  pub was_tested : (t : Touch) → (change a b pair bytes).said.answer ≡ Tested t
      → WasTested (byte_at bytes 1) (byte_at bytes 2) a b pair t (change a b pair bytes)
  unfolding change Answers
  was_tested =
      let number = frame_refusal bytes in
      by_choice Answers (eqb number accepted) _ _ (λ taken. kind_answers (eqb-true number accepted taken))
      (λ not_taken. untested_answers _ (refused_untested a pair number))
