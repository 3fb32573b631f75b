-- `put_edge` writes the refusal and the wall's ten words. Assumes nothing.
use mathlib.Core.Path.{◌∙◌}
use Rattle.wire.specs.Answers.{edge_words, points_words}
use Rattle.wire.proofs.Bytes.{flag_is, written_as}
use Rattle.wire.proofs.answers.put_edge.Goals as goal

pub returns : goal.returns
unfolding edge_words points_words
returns c =
    written_as _ _ _ _ _
    (simp (
      c.from.ensures,
      c.f32_to_bits.ensures,
      c.from-2.ensures ∙ flag_is c.args.answer.after.m_one_sided,
      c.f32_to_bits-2.ensures,
      c.f32_to_bits-3.ensures,
      c.f32_to_bits-4.ensures,
      c.f32_to_bits-5.ensures,
      c.f32_to_bits-6.ensures,
      c.f32_to_bits-7.ensures,
      c.f32_to_bits-8.ensures,
      c.f32_to_bits-9.ensures,
    ))
    c.put_words.ensures
