-- Which measured entry answers a request, and that none answers another or a malformed one. Assumes nothing.
use Prim.Native.Nat.{ℕ, ◌<◌, ◌≤◌}
use mathlib.Core.Path.{◌≡◌, sym, ◌∙◌}
use mathlib.Core.List.{List, []}
use borrow.Author.Tests.{ne_eqb, lt-ltb, le-ltb}
use lib.ListN.{length}
use Rattle.test_entries.specs.Measured.{measured_circles_answer, measured_boxes_answer}
use Rattle.wire.specs.Words.{word_at}
use Rattle.test_calls.specs.Measured.{measured_entry, measured_answer}

pub no_measured : (request : List ℕ) → length request < 4 → measured_answer request ≡ []
unfolding measured_answer
no_measured request short = simp (lt-ltb _ _ short)

module _ (request : List ℕ) (entry : ℕ) (room : 4 ≤ length request) (entry_is : entry ≡ word_at request 0) where
  answers : measured_entry entry request ≡ measured_answer request
  unfolding measured_answer
  answers = simp (le-ltb _ _ room, entry_is)

  pub circles_entry : entry ≡ 20 → measured_circles_answer request ≡ measured_answer request
  unfolding measured_entry
  circles_entry is = sym (simp is) ∙ answers

  pub boxes_entry : entry ≡ 21 → measured_boxes_answer request ≡ measured_answer request
  unfolding measured_entry
  boxes_entry is = sym (simp is) ∙ answers

  pub other_entry : (entry ≡ 20 → ⊥) → (entry ≡ 21 → ⊥) → measured_answer request ≡ []
  unfolding measured_entry
  other_entry no_20 no_21 = sym answers ∙ simp (ne_eqb _ _ no_20, ne_eqb _ _ no_21)
