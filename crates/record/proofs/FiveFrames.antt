-- Two bodies, each defined by one frame and placed by the next, and their test: what is said of it is what a fresh
-- program says of the five frames, one after the other. Assumes nothing.
use Prim.Native.Nat.{ℕ}
use mathlib.Core.Path.{◌≡◌, refl, sym, ◌∙◌, ap}
use mathlib.Core.Bool.{Bool, true, false}
use mathlib.Core.List.{List, [], ◌∷◌}
use lib.Dec.{eqb}
use borrow.Author.Tests.{eq-eqb, ne_eqb, eqb-true, eqb-false}
use Rattle.record_definitions.specs.declared.frame.Change.{Change}
use Rattle.record_definitions.specs.declared.frame.Said.{Said}
use Rattle.record_definitions.specs.World.{blank_body, fresh_pair, fresh_world}
use Rattle.record_definitions.specs.Frame.{change}
use Rattle.record_definitions.specs.Export.{refusal_in, last_said, test_frame, FourFrames}
use Rattle.record_definitions.proofs.FreshPairs.{refused_0, refused_1, refused_2, refused_3, run_last}
use Rattle.record.specs.BothChanges.{first_change, both_changes}

-- ---- the two frames of one body: the first was refused, and the second did not run; or it was taken, and it did
module _ (shape placement : List ℕ) where
  first_refused : eqb (refusal_in (first_change shape).said) 0 ≡ false
      → both_changes shape placement ≡ first_change shape
  unfolding both_changes
  first_refused refused = simp refused

  first_taken : eqb (refusal_in (first_change shape).said) 0 ≡ true
      → both_changes shape placement ≡ change (first_change shape).body blank_body fresh_pair placement
  unfolding both_changes
  first_taken taken = simp taken

  -- where nothing was refused, the first was taken
  both_taken : (c : Change) → c ≡ both_changes shape placement → refusal_in c.said ≡ 0
      → eqb (refusal_in (first_change shape).said) 0 ≡ true
  both_taken c c_is none = go (eqb (refusal_in (first_change shape).said) 0) refl
    where
      go : (t : Bool) → eqb (refusal_in (first_change shape).said) 0 ≡ t
          → eqb (refusal_in (first_change shape).said) 0 ≡ true
      go true taken = taken
      go false refused =
          let same : first_change shape ≡ c = sym (c_is ∙ first_refused refused) in
          absurd (eqb-false (refusal_in (first_change shape).said) 0 refused
          (ap (λ (d : Change). refusal_in d.said) same ∙ none))

  -- both, from what the code calls
  pub refused_alone : (c : Change) (n : ℕ) → c ≡ first_change shape → n ≡ refusal_in c.said → (n ≡ 0 → ⊥)
      → c ≡ both_changes shape placement
  refused_alone c n c_is n_is some =
      let number : n ≡ refusal_in (first_change shape).said =
      n_is ∙ ap (λ (d : Change). refusal_in d.said) c_is in
      c_is ∙ sym (first_refused (ne_eqb (refusal_in (first_change shape).said) 0 (λ none. some (number ∙ none))))

  pub taken_both : (c : Change) (n : ℕ) (d : Change) → c ≡ first_change shape → n ≡ refusal_in c.said → n ≡ 0
      → d ≡ change c.body blank_body fresh_pair placement → d ≡ both_changes shape placement
  taken_both c n d c_is n_is none d_is =
      let number : n ≡ refusal_in (first_change shape).said =
      n_is ∙ ap (λ (e : Change). refusal_in e.said) c_is in
      d_is ∙ ap (λ (e : Change). change e.body blank_body fresh_pair placement) c_is
      ∙ sym (first_taken (eq-eqb (refusal_in (first_change shape).said) 0 (sym number ∙ none)))

-- ---- the four frames and the test, from what the code calls
module _ (f0 f1 f2 f3 : List ℕ) (four : FourFrames f0 f1 f2 f3) (a : Change) (a_is : a ≡ both_changes f0 f1) (n : ℕ)
    (n_is : n ≡ refusal_in a.said) where
  abbrev five_said : Said
  five_said = last_said fresh_world f0 (f1 ∷ f2 ∷ f3 ∷ test_frame ∷ [])

  c0 : Change
  c0 = first_change f0

  c2 : Change
  c2 = first_change f2

  n0 : ℕ
  n0 = refusal_in (first_change f0).said

  n2 : ℕ
  n2 = refusal_in (first_change f2).said

  pub first_body_refused : (n ≡ 0 → ⊥) → a.said ≡ last_said fresh_world f0 (f1 ∷ f2 ∷ f3 ∷ test_frame ∷ [])
  unfolding c0 n0
  first_body_refused some = go (eqb (refusal_in (first_change f0).said) 0) refl
    where
      go : (t : Bool) → eqb (refusal_in (first_change f0).said) 0 ≡ t → a.said ≡ five_said
      go true taken =
          refused_1 f0 f1 f2 f3 four c0 a a a n0 n n n refl refl (eqb-true n0 0 taken)
          (a_is ∙ first_taken f0 f1 taken) n_is some
      go false refused =
          ap (λ (d : Change). d.said) (a_is ∙ first_refused f0 f1 refused)
          ∙ refused_0 f0 f1 f2 f3 four c0 a a a n0 n n n refl refl (eqb-false n0 0 refused)

  module _ (n_none : n ≡ 0) (b : Change) (b_is : b ≡ both_changes f2 f3) (m : ℕ) (m_is : m ≡ refusal_in b.said) where
    a_taken : eqb (refusal_in (first_change f0).said) 0 ≡ true
    a_taken = both_taken f0 f1 a a_is (sym n_is ∙ n_none)

    pub second_body_refused : (m ≡ 0 → ⊥) → b.said ≡ last_said fresh_world f0 (f1 ∷ f2 ∷ f3 ∷ test_frame ∷ [])
    unfolding c0 n0 c2 n2
    second_body_refused some = go (eqb (refusal_in (first_change f2).said) 0) refl
      where
        go : (t : Bool) → eqb (refusal_in (first_change f2).said) 0 ≡ t → b.said ≡ five_said
        go true taken =
            refused_3 f0 f1 f2 f3 four c0 a c2 b n0 n n2 m refl refl (eqb-true n0 0 a_taken)
            (a_is ∙ first_taken f0 f1 a_taken) n_is n_none refl refl (eqb-true n2 0 taken)
            (b_is ∙ first_taken f2 f3 taken) m_is some
        go false refused =
            ap (λ (d : Change). d.said) (b_is ∙ first_refused f2 f3 refused)
            ∙ refused_2 f0 f1 f2 f3 four c0 a c2 b n0 n n2 m refl refl (eqb-true n0 0 a_taken)
            (a_is ∙ first_taken f0 f1 a_taken) n_is n_none refl refl (eqb-false n2 0 refused)

    pub bodies_tested : (c : Change) → m ≡ 0 → c ≡ change a.body b.body fresh_pair test_frame
        → c.said ≡ last_said fresh_world f0 (f1 ∷ f2 ∷ f3 ∷ test_frame ∷ [])
    unfolding c0 n0 c2 n2
    bodies_tested c m_none c_is =
        let b_taken = both_taken f2 f3 b b_is (sym m_is ∙ m_none) in
        run_last f0 f1 f2 f3 four c0 a c2 b n0 n n2 m refl refl (eqb-true n0 0 a_taken)
        (a_is ∙ first_taken f0 f1 a_taken) n_is n_none refl refl (eqb-true n2 0 b_taken)
        (b_is ∙ first_taken f2 f3 b_taken) m_is c m_none c_is
