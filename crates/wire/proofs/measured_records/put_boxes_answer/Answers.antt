-- Word by word. Assumes nothing.
use native.Mathlib.Omega.{arith}
use Rattle.wire.proofs.Bytes.{written_as}
use Rattle.wire.proofs.TwosComplement.{word_of}
use Rattle.wire.proofs.measured_records.put_boxes_answer.Goals as goal

pub returns : goal.returns
returns c =
    let answer = c.args.answer in
    written_as _ _ _ _ _
    (simp (
      word_of answer.touching.a.x _ c.cast_unsigned.ensures (omega arith),
      word_of answer.touching.a.y _ c.cast_unsigned-2.ensures (omega arith),
      word_of answer.touching.a.hx _ c.cast_unsigned-3.ensures (omega arith),
      word_of answer.touching.a.hy _ c.cast_unsigned-4.ensures (omega arith),
      word_of answer.touching.b.x _ c.cast_unsigned-5.ensures (omega arith),
      word_of answer.touching.b.y _ c.cast_unsigned-6.ensures (omega arith),
      word_of answer.touching.b.hx _ c.cast_unsigned-7.ensures (omega arith),
      word_of answer.touching.b.hy _ c.cast_unsigned-8.ensures (omega arith),
      word_of answer.apart.a.x _ c.cast_unsigned-9.ensures (omega arith),
      word_of answer.apart.a.y _ c.cast_unsigned-10.ensures (omega arith),
      word_of answer.apart.a.hx _ c.cast_unsigned-11.ensures (omega arith),
      word_of answer.apart.a.hy _ c.cast_unsigned-12.ensures (omega arith),
      word_of answer.apart.b.x _ c.cast_unsigned-13.ensures (omega arith),
      word_of answer.apart.b.y _ c.cast_unsigned-14.ensures (omega arith),
      word_of answer.apart.b.hx _ c.cast_unsigned-15.ensures (omega arith),
      word_of answer.apart.b.hy _ c.cast_unsigned-16.ensures (omega arith),
    ))
    c.put_words.ensures
