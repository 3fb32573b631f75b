-- `put_polygon` writes the refusal and the outline's thirty-six words. Assumes nothing.
use Rattle.wire.proofs.Bytes.{written_as}
use Rattle.wire.proofs.Rows.{outline_written}
use Rattle.wire.proofs.answers.put_polygon.Goals as goal

pub returns : goal.returns
returns c =
    written_as _ _ _ _ _
    (outline_written _ c.args.answer.after _ _ _ _ _ _ _
    c.from.ensures c.f32_to_bits.ensures c.f32_to_bits-2.ensures
    c.f32_to_bits-3.ensures
    c.low_word.ensures c.with_points-half.ensures.0 c.with_points-whole.ensures.0
    c.with_points-whole.ensures.1)
    c.put_words.ensures
