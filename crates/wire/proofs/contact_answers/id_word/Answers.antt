-- Four bytes are a word. Assumes nothing.
use native.Mathlib.Omega.{arith}
use Rattle.wire.specs.ContactAnswers.{id_word}
use Rattle.wire.proofs.contact_answers.id_word.Goals as goal

pub returns : goal.returns
unfolding id_word
returns c = omega (arith, c.from_be_bytes.ensures)
