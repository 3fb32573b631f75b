-- By the number of old points and which of them has the id. Assumes nothing.
use mathlib.Core.Path.{◌∙◌}
use Rattle.frames.proofs.NextAges.{no_point, as_first, not_the_one, as_second, as_neither}
use Rattle.frames.proofs.ages.next_age.Goals as goal

pub returns-then-old-eq0 : goal.returns-then-old-eq0
returns-then-old-eq0 c = no_point _ _ c.if-old-eq0.true

pub returns-then-same_id : goal.returns-then-same_id
returns-then-same_id c =
    let if2 = c.if-same_id in
    let first = c.same_id in
    let if1 = c.if-old-eq0 in
    c.one_more.ensures ∙ as_first _ _ if1.false _ first.ensures if2.true

pub returns-then-old-eq1 : goal.returns-then-old-eq1
returns-then-old-eq1 c =
    let if2 = c.if-same_id in
    let first = c.same_id in
    let if1 = c.if-old-eq0 in
    not_the_one _ _ if1.false _ first.ensures if2.false c.if-old-eq1.true

pub returns-then-same_id-2 : goal.returns-then-same_id-2
returns-then-same_id-2 c =
    let if4 = c.if-same_id-2 in
    let second = c.same_id-2 in
    let if3 = c.if-old-eq1 in
    let if2 = c.if-same_id in
    let first = c.same_id in
    let if1 = c.if-old-eq0 in
    c.one_more-then-same_id-2.ensures
    ∙ as_second _ _ if1.false _ first.ensures if2.false if3.false _ second.ensures if4.true

pub returns : goal.returns
returns c =
    let second = c.same_id-2 in
    let if3 = c.if-old-eq1 in
    let if2 = c.if-same_id in
    let first = c.same_id in
    let if1 = c.if-old-eq0 in
    as_neither _ _ if1.false _ first.ensures if2.false if3.false _ second.ensures c.if-same_id-2.false
