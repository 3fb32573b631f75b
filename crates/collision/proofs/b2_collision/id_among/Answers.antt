-- By how many the others are. Assumes nothing.
use Rattle.collision.proofs.States.{among_none, among_one, among_two}
use Rattle.collision.proofs.b2_collision.id_among.Goals as goal

pub returns-then-count-eq0 : goal.returns-then-count-eq0
returns-then-count-eq0 c = among_none _ _ c.if-count-eq0.true

pub returns-then-count-eq1 : goal.returns-then-count-eq1
returns-then-count-eq1 c = among_one _ _ _ c.same_id-first.ensures c.if-count-eq0.false c.if-count-eq1.true

pub returns : goal.returns
returns c = among_two _ _ _ _ c.same_id-first.ensures c.same_id-second.ensures
    c.if-count-eq0.false c.if-count-eq1.false
