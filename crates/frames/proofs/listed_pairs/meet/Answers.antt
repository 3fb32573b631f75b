-- By the second body's kind. Assumes nothing.
use borrow.Author.Tests.{eq-eqb, ne_eqb}
use Rattle.record_definitions.specs.Touch.{meet}
use Rattle.frames.proofs.listed_pairs.meet.Goals as goal

pub returns-then-kind-eq-CIRCLE : goal.returns-then-kind-eq-CIRCLE
unfolding meet
returns-then-kind-eq-CIRCLE c =
    let if1 = c.if-kind-eq-CIRCLE in
    simp (c.meet_circle.ensures, eq-eqb _ _ if1.true)

pub returns : goal.returns
unfolding meet
returns c =
    let if1 = c.if-kind-eq-CIRCLE in
    simp (c.meet_outline.ensures, ne_eqb _ _ if1.false)
