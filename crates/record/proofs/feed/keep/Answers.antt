-- Below the row's length the character is stored; else nothing changes. Assumes nothing.
use native.Mathlib.Omega.{arith}
use lib.ListN.{length-set}
use Rattle.record_definitions.proofs.OneLine.{character_kept, character_dropped}
use Rattle.record.proofs.feed.keep.Goals as goal

pub returns-then-len-lt-KEPT_LENGTH : goal.returns-then-len-lt-KEPT_LENGTH
returns-then-len-lt-KEPT_LENGTH c =
    let args' = c.args in
    let pre' = c.requires in
    (character_kept args'.line.now _ _ c.if-len-lt-KEPT_LENGTH.true pre'.1, omega arith, simp length-set pre'.1)

pub returns : goal.returns
returns c =
    let args' = c.args in
    let pre' = c.requires in
    (character_dropped args'.line.now _ _ c.if-len-lt-KEPT_LENGTH.false pre'.0 pre'.1, omega arith, pre'.1)
