-- The words of a step and its root are written. Assumes nothing.
use Rattle.wire.proofs.Bytes.{written_as}
use Rattle.test_entries.proofs.numbers.put_step.Goals as goal

pub returns : goal.returns
returns c =
    written_as _ _ _ _ _ (simp c.f32_to_bits.ensures) c.put_words.ensures
