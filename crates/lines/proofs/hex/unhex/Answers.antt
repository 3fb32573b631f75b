-- The loop: the bytes so far, and what the rest of the line says, make what the whole line says. Assumes nothing.
use native.Mathlib.Omega.{arith}
use Rattle.lines.proofs.Reading.{byte_read}
use Rattle.lines.proofs.Reading.{overlong, odd, all_read}
use Rattle.lines.proofs.hex.unhex.Goals as goal

pub returns-then-line-gt-LINE_LIMIT : goal.returns-then-line-gt-LINE_LIMIT
returns-then-line-gt-LINE_LIMIT c = overlong _ _ c.if-line-gt-LINE_LIMIT.true

pub returns-then-line-eq1 : goal.returns-then-line-eq1
returns-then-line-eq1 c =
    let if1' = c.if-line-gt-LINE_LIMIT in
    odd _ _ if1'.false c.if-line-eq1.true

pub loop-i-preserved : goal.loop-i-preserved
loop-i-preserved c =
    let nibble' = c.nibble-high in
    let loop' = c.loop-i in
    byte_read _ _ _ _ _ _ _ _ (omega arith) nibble'.ensures c.nibble-low.ensures loop'.invariant

pub returns : goal.returns
returns c = all_read _ _ _ _ _ _ c.loop-i-test.false c.loop-i.invariant _ c.then_some.ensures
