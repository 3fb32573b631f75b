-- The loop: the digits of the first i bytes stand at the front. Assumes nothing.
use native.Mathlib.Omega.{arith}
use Rattle.lines.proofs.Writing.{written_none_yet, byte_written, line_written}
use Rattle.lines.proofs.hex.put_line.Goals as goal

pub loop-i-init : goal.loop-i-init
loop-i-init c = written_none_yet _ _ c.requires

pub loop-i-preserved : goal.loop-i-preserved
loop-i-preserved c =
    let loop' = c.loop-i in
    byte_written _ _ _ loop'.line loop'.i _ (omega arith) c.put_byte.ensures loop'.invariant

pub returns : goal.returns
returns c = line_written _ _ _ c.loop-i.line c.loop-i.i c.loop-i-test.false c.loop-i.invariant
