-- By the kind. Assumes nothing.
use borrow.Author.Tests.{eq-eqb, ne_eqb}
use Rattle.record_definitions.specs.Touch.{skin}
use Rattle.frames.proofs.test_frame.skin.Goals as goal

pub returns-then-kind-eq-CIRCLE : goal.returns-then-kind-eq-CIRCLE
unfolding skin
returns-then-kind-eq-CIRCLE c =
    let if1 = c.if-kind-eq-CIRCLE in
    simp (eq-eqb _ _ if1.true)

pub returns-then-kind-eq-OUTLINE : goal.returns-then-kind-eq-OUTLINE
unfolding skin
returns-then-kind-eq-OUTLINE c =
    let if2 = c.if-kind-eq-OUTLINE in
    let if1 = c.if-kind-eq-CIRCLE in
    simp (ne_eqb _ _ if1.false, eq-eqb _ _ if2.true)

pub returns : goal.returns
unfolding skin
returns c =
    let if2 = c.if-kind-eq-OUTLINE in
    let if1 = c.if-kind-eq-CIRCLE in
    simp (ne_eqb _ _ if1.false, ne_eqb _ _ if2.false)
