-- Entry 15 answers the root's words, or nothing to a request of another length. Assumes nothing.
use mathlib.Core.Path.{refl}
use mathlib.Core.Bool.{true}
use Rattle.wire.proofs.Requests.{other_length, answered}
use Rattle.test_entries.specs.Numbers.{root_answer}
use Rattle.test_entries.proofs.numbers.root.Goals as goal

pub returns-then-input-ne8 : goal.returns-then-input-ne8
unfolding root_answer
returns-then-input-ne8 c = other_length 2 _ _ _ _ c.if-input-ne8.true

pub returns : goal.returns
unfolding root_answer
returns c =
    answered 2 _ _ _ _ true c.if-input-ne8.false refl _ _ _ refl
    (simp (
      c.f32_to_bits.ensures,
      c.b2_sqrt.ensures,
      c.f32_from_bits-x.ensures,
      c.word.ensures,
    ))
    c.put_words.ensures
