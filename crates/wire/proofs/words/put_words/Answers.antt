-- `put_words` writes all its words or none. The loop's invariant: the first i words stand at the front. Assumes
-- nothing.
use mathlib.Core.Path.{◌∙◌, ap, refl}
use Prim.Native.Nat.{◌+◌, ◌≤◌}
use native.Mathlib.Omega.{arith}
use lib.ListN.{length, take}
use lib.Seq.{length-take-le}
use Rattle.algebra.proofs.Buffer.{length_over}
use Rattle.wire.specs.Words.{bytes_of}
use Rattle.wire.proofs.Bytes.{length_bytes, word_written, written_whole, written_none}
use Rattle.wire.proofs.words.put_words.Goals as goal

pub returns-then-out-n : goal.returns-then-out-n
returns-then-out-n c = written_none c.args.words.now c.args.out.now
    c.if-out-n.true

pub loop-i-init : goal.loop-i-init
unfolding bytes_of
loop-i-init c = (omega arith, refl, omega arith, refl, refl)

pub loop-i-preserved : goal.loop-i-preserved
loop-i-preserved c =
    let words = c.args.words.now in
    let i = c.loop-i.i in
    let out = c.args.out.now in
    let put = c.put_number in
    let next = word_written words out c.loop-i.out put.new.out i (omega arith) c.loop-i.invariant.4
    put.ensures in
    let room : length (bytes_of (take (i + 1) words)) ≤ length out =
    omega (arith, length_bytes (take (i + 1) words), length-take-le (i + 1) words (omega arith)) in (
      omega arith,
      refl,
      c.loop-i.invariant.2,
      ap length next ∙ length_over (bytes_of (take (i + 1) words)) out room,
      next,
    )

pub returns : goal.returns
returns c =
    let loop = c.loop-i in
    written_whole c.args.words.now c.args.out.now loop.out loop.i (omega arith) loop.invariant.2
    loop.invariant.4
