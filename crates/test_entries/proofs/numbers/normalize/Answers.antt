-- Entry 16 answers the words of normalising, or nothing to a request of another length. Assumes nothing.
use mathlib.Core.Path.{refl, ◌∙◌}
use mathlib.Core.Bool.{true}
use Rattle.wire.proofs.Bytes.{flag_is}
use Rattle.wire.proofs.Requests.{other_length, answered}
use Rattle.test_entries.specs.Numbers.{normalize_answer}
use Rattle.test_entries.proofs.numbers.normalize.Goals as goal

pub returns-then-input-ne12 : goal.returns-then-input-ne12
unfolding normalize_answer
returns-then-input-ne12 c = other_length 3 _ _ _ _ c.if-input-ne12.true

pub returns : goal.returns
unfolding normalize_answer
returns c =
    answered 3 _ _ _ _ true c.if-input-ne12.false refl _ _ _ refl
    (simp (
      c.from.ensures ∙ flag_is c.b2_normalize-n.result.had_length,
      c.f32_to_bits-3.ensures,
      c.f32_to_bits-2.ensures,
      c.f32_to_bits.ensures,
      c.b2_normalize-n.ensures,
      c.f32_from_bits-y.ensures,
      c.word-2.ensures,
      c.f32_from_bits-x.ensures,
      c.word.ensures,
    ))
    c.put_words.ensures
