-- By the tests on the way. Assumes nothing.
use Rattle.floats.specs.B2Math.{b2_neg}
use Rattle.wall_contacts.proofs.edge_separation.farther_side.Goals as goal

pub returns-then-back-front : goal.returns-then-back-front
unfolding b2_neg
returns-then-back-front c =
    let if2' = c.if-back-front in
    let if1' = c.if-front in
    simp (if1'.true, if2'.true)

pub returns-then-back : goal.returns-then-back
unfolding b2_neg
returns-then-back c =
    let if3' = c.if-back in
    let if1' = c.if-front in
    simp (if1'.false, if3'.true)
