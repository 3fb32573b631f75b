-- `put_clip` writes the refusal, the count and two clip vertices. Assumes nothing.
use mathlib.Core.Path.{ap₂}
use mathlib.Core.List.{◌∷◌}
use borrow.Author.Rules.{rules}
use Rattle.wire.specs.ContactAnswers.{clip_answer_words}
use Rattle.wire.proofs.Bytes.{written_as}
use Rattle.wire.proofs.TwoPoints.{clip_written}
use Rattle.wire.proofs.contact_answers.put_clip.Goals as goal

pub returns : goal.returns
unfolding clip_answer_words
returns c =
    written_as _ _ _ _ _
    (ap₂ ◌∷◌ c.from.ensures
    (clip_written c.args.answer.after _ _ _ _ _ _ _ _
    (search rules)
    c.low_word.ensures c.f32_to_bits.ensures c.f32_to_bits-2.ensures
    c.id_word.ensures c.f32_to_bits-3.ensures c.f32_to_bits-4.ensures c.id_word-2.ensures))
    c.put_words.ensures
