-- In their order. Assumes nothing.
use Rattle.record_definitions.specs.Frame.{test_refusal}
use Rattle.frames.proofs.test_frame.check_test.Goals as goal

pub returns-then-none_a-none_b : goal.returns-then-none_a-none_b
unfolding test_refusal
returns-then-none_a-none_b c = simp c.if-none_a-none_b.true

pub returns-then-same-fits : goal.returns-then-same-fits
unfolding test_refusal
returns-then-same-fits c =
    let listed = c.listed-fits in
    let if1 = c.if-none_a-none_b in
    simp (if1.false, rw listed.ensures at c.if-same-fits.true)

pub returns : goal.returns
unfolding test_refusal
returns c =
    let listed = c.listed-fits in
    let if1 = c.if-none_a-none_b in
    simp (if1.false, rw listed.ensures at c.if-same-fits.false)
