-- The answer's line, and behind it those of the further results. Assumes nothing.
use Rattle.record.proofs.Lines.{put_next, said_alone_put}
use Rattle.record.proofs.answer.put_said_line.Goals as goal

pub returns-then-said-eq0 : goal.returns-then-said-eq0
returns-then-said-eq0 c =
    let put_answer_line' = c.put_answer_line-first in
    let args' = c.args in
    said_alone_put args'.said _ _ _ c.if-said-eq0.true put_answer_line'.ensures.put

pub returns : goal.returns
returns c =
    let put_touch_lines' = c.put_touch_lines in
    let put_answer_line' = c.put_answer_line-first in
    let args' = c.args in
    put_next _ _ args'.out.now put_answer_line'.new.out _ _ _ put_answer_line'.ensures.put
    put_touch_lines'.ensures.put
