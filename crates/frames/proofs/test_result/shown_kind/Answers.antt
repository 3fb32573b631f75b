-- By the count. Assumes nothing.
use borrow.Author.Tests.{eq-eqb, ne_eqb}
use Rattle.frames.proofs.test_result.shown_kind.Goals as goal

pub returns-then-count-eq0 : goal.returns-then-count-eq0
returns-then-count-eq0 c = simp (eq-eqb _ _ c.if-count-eq0.true)

pub returns : goal.returns
returns c =
    let if1 = c.if-count-eq0 in
    simp (c.kind_number.ensures, ne_eqb _ _ if1.false)
