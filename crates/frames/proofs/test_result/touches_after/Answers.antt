-- By the rulebook: the touch goes on, the two are apart, or one begins. Assumes nothing.
use mathlib.Core.Path.{sym, ◌∙◌}
use native.Mathlib.Omega.{arith}
use Rattle.record_definitions.proofs.Rulebook.{counted_by_rulebook}
use Rattle.frames.proofs.test_result.touches_after.Goals as goal

pub returns-then-before-gt0 : goal.returns-then-before-gt0
returns-then-before-gt0 c = sym ((counted_by_rulebook _ _ _).goes_on c.if-before-gt0.true)

pub returns-then-now-eq0 : goal.returns-then-now-eq0
returns-then-now-eq0 c = sym ((counted_by_rulebook _ _ _).apart c.if-now-eq0.true)

pub returns : goal.returns
returns c =
    let if2 = c.if-now-eq0 in
    let if1 = c.if-before-gt0 in
    c.one_more.ensures
    ∙ sym ((counted_by_rulebook _ _ _).begins (omega (arith, if1.false)) (omega (arith, if2.false)))
