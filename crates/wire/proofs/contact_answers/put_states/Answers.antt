-- `put_states` writes the refusal and four states. Assumes nothing.
use Rattle.wire.specs.ContactAnswers.{states_words}
use Rattle.wire.proofs.Bytes.{written_as}
use Rattle.wire.proofs.contact_answers.put_states.Goals as goal

pub returns : goal.returns
unfolding states_words
returns c =
    written_as _ _ _ _ _
    (simp (
      c.from.ensures,
      c.from-3.ensures,
      c.from-2.ensures,
      c.from-5.ensures,
      c.from-4.ensures,
      c.from-7.ensures,
      c.from-6.ensures,
      c.from-9.ensures,
      c.from-8.ensures,
    ))
    c.put_words.ensures
