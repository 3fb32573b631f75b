-- Entry 20 answers the heading's words, 14 to an unknown turn, or nothing to a request of another length. Assumes
-- nothing.
use mathlib.Core.Path.{refl, sym}
use mathlib.Core.Bool.{true}
use borrow.Author.Tests.{lt-ltb, le-ltb}
use Rattle.headings.proofs.Table.{lent_length}
use Rattle.wire.proofs.Requests.{other_length, answered}
use Rattle.test_entries.specs.Numbers.{heading_answer}
use Rattle.test_entries.proofs.numbers.heading.Goals as goal

pub returns-then-input-ne8 : goal.returns-then-input-ne8
unfolding heading_answer
returns-then-input-ne8 c = other_length 2 _ _ _ _ c.if-input-ne8.true

pub returns-then-number-gt-LARGEST_TURN : goal.returns-then-number-gt-LARGEST_TURN
unfolding heading_answer
returns-then-number-gt-LARGEST_TURN c =
    answered 2 _ _ _ _ true c.if-input-ne8.false refl _ _ _ refl
    (simp (
      c.from-then-number-gt-LARGEST_TURN.ensures,
      c.from.ensures,
      lt-ltb _ _ (rw c.word-number.ensures at c.if-number-gt-LARGEST_TURN.true),
    ))
    c.put_words.ensures

pub slice_bounds-heading-end : goal.slice_bounds-heading-end
slice_bounds-heading-end c = sym (lent_length _ c.sines-sines.ensures)

pub returns : goal.returns
unfolding heading_answer
returns c =
    answered 2 _ _ _ _ true c.if-input-ne8.false refl _ _ _ refl
    (simp (
      c.f32_to_bits-2.ensures,
      c.f32_to_bits.ensures,
      c.heading-q.ensures,
      c.word-number.ensures,
      le-ltb _ _ (rw c.word-number.ensures at c.if-number-gt-LARGEST_TURN.false),
    ))
    c.put_words-2.ensures
