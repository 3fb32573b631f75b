-- Which entry answers a request, and that none answers a malformed one. Assumes nothing.
use Prim.Native.Nat.{ℕ, ◌<◌, ◌≤◌}
use mathlib.Core.Path.{◌≡◌, sym, ◌∙◌}
use mathlib.Core.List.{List, []}
use borrow.Author.Tests.{ne_eqb, lt-ltb, le-ltb}
use lib.ListN.{length}
use Rattle.test_entries.specs.Numbers.{root_answer, normalize_answer, heading_answer, root_step_answer}
use Rattle.test_entries.specs.ByNumber.{shape_answer, contact_answer}
use Rattle.wire.specs.Words.{word_at}
use Rattle.test_calls.specs.Entries.{entry_answer, answer}

pub no_entry : (request : List ℕ) → length request < 4 → answer request ≡ []
unfolding answer
no_entry request short = simp (lt-ltb _ _ short)

module _ (request : List ℕ) (entry : ℕ) (room : 4 ≤ length request) (entry_is : entry ≡ word_at request 0) where
  answers : entry_answer entry request ≡ answer request
  unfolding answer
  answers = simp (le-ltb _ _ room, entry_is)

  pub root_entry : entry ≡ 15 → root_answer request ≡ answer request
  unfolding entry_answer
  root_entry is = sym (simp is) ∙ answers

  pub normalize_entry : entry ≡ 16 → normalize_answer request ≡ answer request
  unfolding entry_answer
  normalize_entry is = sym (simp is) ∙ answers

  pub heading_entry : entry ≡ 17 → heading_answer request ≡ answer request
  unfolding entry_answer
  heading_entry is = sym (simp is) ∙ answers

  pub root_step_entry : entry ≡ 18 → root_step_answer request ≡ answer request
  unfolding entry_answer
  root_step_entry is = sym (simp is) ∙ answers

  module _ (no_15 : entry ≡ 15 → ⊥) (no_16 : entry ≡ 16 → ⊥) (no_17 : entry ≡ 17 → ⊥)
      (no_18 : entry ≡ 18 → ⊥) where
    pub shape_entry : entry < 7 → shape_answer entry request ≡ answer request
    unfolding entry_answer
    shape_entry below =
        sym (simp (ne_eqb _ _ no_15, ne_eqb _ _ no_16, ne_eqb _ _ no_17, ne_eqb _ _ no_18, lt-ltb _ _ below)) ∙ answers

    pub contact_entry : 7 ≤ entry → contact_answer entry request ≡ answer request
    unfolding entry_answer
    contact_entry above =
        sym (simp (ne_eqb _ _ no_15, ne_eqb _ _ no_16, ne_eqb _ _ no_17, ne_eqb _ _ no_18, le-ltb _ _ above)) ∙ answers
