-- The loop of `feed`: what it knows (`SoFar`), that this holds before the first turn, after each way through one, and
-- gives the contract at the end. Assumes nothing.
use mathlib.Core.Path.{refl, sym, ◌∙◌}
use native.Mathlib.Omega.{arith}
use lib.Seq.{length-take-le}
use Rattle.headings.proofs.Table.{lent_length}
use Rattle.shape_definitions.specs.Refusal.{number_of}
use Rattle.record_definitions.specs.declared.frame.Answer.TheVariants.{Accepted, Refused, Tested}
use Rattle.record_definitions.specs.World.{blank_body, fresh_pair}
use Rattle.record_definitions.specs.Answer.{longest_said, said_alone}
use Rattle.record_definitions.specs.Server.{reply_line}
use Rattle.record_definitions.proofs.Feeding.{nothing_yet, fed_at_end, at_inside, room_lent, put_inside}
use Rattle.record_definitions.proofs.Feeding.{next_character}
use Rattle.record.proofs.Lines.{said_alone_put}
use Rattle.record.proofs.Turns.{made_as, row_held, step_ends, line_forgets, line_moves, line_tests, line_refuses}
use Rattle.record.proofs.feed.feed.Goals as goal

pub loop-i-init : goal.loop-i-init
loop-i-init c =
    let s = c.args.s in
    let kept = c.well_formed.0.1.1 in
    nothing_yet reply_line _ _ s.server s.line c.min-len.result (omega (arith, c.min-len.ensures))
    (kept.1.0.1.0.1)
    (kept.0.1.1.1.0.1.1.0.1.0.1)
    (kept.0.1.1.1.0.1.1.1.0.1.0.1)

pub returns-after-loop-i : goal.returns-after-loop-i
returns-after-loop-i c =
    let s = c.args.s in
    let row = row_held s.line s.len c.min-len.result c.min-len.ensures (c.well_formed.0.1.1.1.0.1.0.1) in
    let so_far = rw row at c.loop-i.invariant in
    fed_at_end reply_line longest_said s _ c.args.out.now _ _ _ _ _ _ so_far (λ room. omega arith)

pub returns-then-out-at-lt-LONGEST_SAID : goal.returns-then-out-at-lt-LONGEST_SAID
returns-then-out-at-lt-LONGEST_SAID c =
    let s = c.args.s in
    let row = row_held s.line s.len c.min-len.result c.min-len.ensures (c.well_formed.0.1.1.1.0.1.0.1) in
    let so_far = rw row at c.loop-i.invariant in
    fed_at_end reply_line longest_said s _ c.args.out.now _ _ _ _ _ _ so_far
    (λ room. absurd (omega (arith, c.if-out-at-lt-LONGEST_SAID.true, c.loop-i.invariant.out_size)))

-- ---- no test: accepted, then a new shape or a new placement
pub slice_bounds-put_answer_line-count : goal.slice_bounds-put_answer_line-count
slice_bounds-put_answer_line-count c = at_inside reply_line c.loop-i.invariant

pub put_answer_line-at-requires : goal.put_answer_line-at-requires
put_answer_line-at-requires c =
    omega (arith, room_lent reply_line c.loop-i.invariant longest_said c.if-out-at-lt-LONGEST_SAID.false)

pub overflow_add-at : goal.overflow_add-at
overflow_add-at c =
    let inside = put_inside reply_line c.loop-i.invariant c.put_answer_line-at.result _ _ c.put_answer_line-at.auto.out
    c.put_answer_line-at.ensures.put in
    omega (arith, inside, c.well_formed.1.1.0.0)

pub loop-i-preserved-in-Defined : goal.loop-i-preserved-in-Defined
loop-i-preserved-in-Defined c =
    line_forgets c.loop-i.invariant c.loop-i-test.true refl c.if-x-eq-LINE_FEED.true _ c.put_answer_line-at.result
    c.put_answer_line-at.auto.out c.if-len-ne0.true c.decode-d.ensures _ blank_body fresh_pair _
    (made_as blank_body _ _ c.in-Defined.is (c.in-Ok.ensures _ _))
    (said_alone_put (said_alone Accepted) _ _ _ refl c.put_answer_line-at.ensures.put)
    c.forget-w.result refl c.forget-w.ensures

pub loop-i-preserved-in-Moved : goal.loop-i-preserved-in-Moved
loop-i-preserved-in-Moved c =
    line_moves c.loop-i.invariant c.loop-i-test.true refl c.if-x-eq-LINE_FEED.true _ c.put_answer_line-at.result
    c.put_answer_line-at.auto.out c.if-len-ne0.true c.decode-d.ensures _ blank_body fresh_pair _
    (made_as blank_body _ _ c.in-Moved.is (c.in-Ok.ensures _ _))
    (said_alone_put (said_alone Accepted) _ _ _ refl c.put_answer_line-at.ensures.put)
    refl refl

-- ---- in-Err
pub slice_bounds-put_refusal_line-count : goal.slice_bounds-put_refusal_line-count
slice_bounds-put_refusal_line-count c = at_inside reply_line c.loop-i.invariant

pub put_refusal_line-at-requires : goal.put_refusal_line-at-requires
put_refusal_line-at-requires c =
    omega (arith, room_lent reply_line c.loop-i.invariant longest_said c.if-out-at-lt-LONGEST_SAID.false)

pub overflow_add-at-in-Err : goal.overflow_add-at-in-Err
overflow_add-at-in-Err c =
    let inside = put_inside reply_line c.loop-i.invariant c.put_refusal_line-at.result _ _ c.put_refusal_line-at.auto.out
    c.put_refusal_line-at.ensures.put in
    omega (arith, inside, c.well_formed.1.1.0.0)

pub loop-i-preserved-in-Err : goal.loop-i-preserved-in-Err
loop-i-preserved-in-Err c =
    line_refuses c.loop-i.invariant c.loop-i-test.true refl c.if-x-eq-LINE_FEED.true _ c.put_refusal_line-at.result c.put_refusal_line-at.auto.out
    c.if-len-ne0.true c.decode-d.ensures _ blank_body fresh_pair _ (c.in-Err.ensures _ _)
    (said_alone_put (said_alone (Refused (number_of _))) _ _ _ refl c.put_refusal_line-at.ensures.put)
    refl refl refl

-- ---- in-Ok-chain_test
pub slice_bounds-put_said_line-count : goal.slice_bounds-put_said_line-count
slice_bounds-put_said_line-count c = at_inside reply_line c.loop-i.invariant

pub put_said_line-at-requires : goal.put_said_line-at-requires
put_said_line-at-requires c =
    omega (arith, room_lent reply_line c.loop-i.invariant longest_said c.if-out-at-lt-LONGEST_SAID.false)

pub overflow_add-at-in-Ok-chain_test : goal.overflow_add-at-in-Ok-chain_test
overflow_add-at-in-Ok-chain_test c =
    let inside = put_inside reply_line c.loop-i.invariant c.put_said_line-at.result _ _ c.put_said_line-at.auto.out
    c.put_said_line-at.ensures in
    omega (arith, inside, c.well_formed.1.1.0.0)

pub loop-i-preserved-in-Ok-chain_test : goal.loop-i-preserved-in-Ok-chain_test
loop-i-preserved-in-Ok-chain_test c =
    line_tests c.loop-i.invariant c.loop-i-test.true refl c.if-x-eq-LINE_FEED.true _ c.put_said_line-at.result c.put_said_line-at.auto.out
    c.if-len-ne0.true c.decode-d.ensures _ _ _ _ c.in-Ok-chain_test.ensures
    c.put_said_line-at.ensures
    refl refl

-- ---- in-Err-chain_test
pub slice_bounds-put_refusal_line-count-in-Err-chain_test : goal.slice_bounds-put_refusal_line-count-in-Err-chain_test
slice_bounds-put_refusal_line-count-in-Err-chain_test c = at_inside reply_line c.loop-i.invariant

pub put_refusal_line-at-requires-in-Err-chain_test : goal.put_refusal_line-at-requires-in-Err-chain_test
put_refusal_line-at-requires-in-Err-chain_test c =
    omega (arith, room_lent reply_line c.loop-i.invariant longest_said c.if-out-at-lt-LONGEST_SAID.false)

pub overflow_add-at-in-Err-chain_test : goal.overflow_add-at-in-Err-chain_test
overflow_add-at-in-Err-chain_test c =
    let inside = put_inside reply_line c.loop-i.invariant c.put_refusal_line-at-in-Err-chain_test.result _ _ c.put_refusal_line-at-in-Err-chain_test.auto.out
    c.put_refusal_line-at-in-Err-chain_test.ensures.put in
    omega (arith, inside, c.well_formed.1.1.0.0)

pub loop-i-preserved-in-Err-chain_test : goal.loop-i-preserved-in-Err-chain_test
loop-i-preserved-in-Err-chain_test c =
    line_refuses c.loop-i.invariant c.loop-i-test.true refl c.if-x-eq-LINE_FEED.true _ c.put_refusal_line-at-in-Err-chain_test.result c.put_refusal_line-at-in-Err-chain_test.auto.out
    c.if-len-ne0.true c.decode-d.ensures _ _ _ _ c.in-Err-chain_test.ensures
    (said_alone_put (said_alone (Refused (number_of _))) _ _ _ refl c.put_refusal_line-at-in-Err-chain_test.ensures.put)
    refl refl refl

-- ---- in-Ok-test_frame
pub slice_bounds-put_answer_line-count-in-Ok-test_frame : goal.slice_bounds-put_answer_line-count-in-Ok-test_frame
slice_bounds-put_answer_line-count-in-Ok-test_frame c = at_inside reply_line c.loop-i.invariant

pub put_answer_line-at-requires-in-Ok-test_frame : goal.put_answer_line-at-requires-in-Ok-test_frame
put_answer_line-at-requires-in-Ok-test_frame c =
    omega (arith, room_lent reply_line c.loop-i.invariant longest_said c.if-out-at-lt-LONGEST_SAID.false)

pub overflow_add-at-in-Ok-test_frame : goal.overflow_add-at-in-Ok-test_frame
overflow_add-at-in-Ok-test_frame c =
    let inside = put_inside reply_line c.loop-i.invariant c.put_answer_line-at-in-Ok-test_frame.result _ _ c.put_answer_line-at-in-Ok-test_frame.auto.out
    c.put_answer_line-at-in-Ok-test_frame.ensures.put in
    omega (arith, inside, c.well_formed.1.1.0.0)

pub loop-i-preserved-in-Ok-test_frame : goal.loop-i-preserved-in-Ok-test_frame
loop-i-preserved-in-Ok-test_frame c =
    line_tests c.loop-i.invariant c.loop-i-test.true refl c.if-x-eq-LINE_FEED.true _ c.put_answer_line-at-in-Ok-test_frame.result c.put_answer_line-at-in-Ok-test_frame.auto.out
    c.if-len-ne0.true c.decode-d.ensures _ _ _ _ c.in-Ok-test_frame.ensures
    (said_alone_put (said_alone (Tested _)) _ _ _ refl c.put_answer_line-at-in-Ok-test_frame.ensures.put)
    refl refl

-- ---- in-Err-test_frame
pub slice_bounds-put_refusal_line-count-in-Err-test_frame : goal.slice_bounds-put_refusal_line-count-in-Err-test_frame
slice_bounds-put_refusal_line-count-in-Err-test_frame c = at_inside reply_line c.loop-i.invariant

pub put_refusal_line-at-requires-in-Err-test_frame : goal.put_refusal_line-at-requires-in-Err-test_frame
put_refusal_line-at-requires-in-Err-test_frame c =
    omega (arith, room_lent reply_line c.loop-i.invariant longest_said c.if-out-at-lt-LONGEST_SAID.false)

pub overflow_add-at-in-Err-test_frame : goal.overflow_add-at-in-Err-test_frame
overflow_add-at-in-Err-test_frame c =
    let inside = put_inside reply_line c.loop-i.invariant c.put_refusal_line-at-in-Err-test_frame.result _ _ c.put_refusal_line-at-in-Err-test_frame.auto.out
    c.put_refusal_line-at-in-Err-test_frame.ensures.put in
    omega (arith, inside, c.well_formed.1.1.0.0)

pub loop-i-preserved-in-Err-test_frame : goal.loop-i-preserved-in-Err-test_frame
loop-i-preserved-in-Err-test_frame c =
    line_refuses c.loop-i.invariant c.loop-i-test.true refl c.if-x-eq-LINE_FEED.true _ c.put_refusal_line-at-in-Err-test_frame.result c.put_refusal_line-at-in-Err-test_frame.auto.out
    c.if-len-ne0.true c.decode-d.ensures _ _ _ _ c.in-Err-test_frame.ensures
    (said_alone_put (said_alone (Refused (number_of _))) _ _ _ refl c.put_refusal_line-at-in-Err-test_frame.ensures.put)
    refl refl refl

-- ---- else-len-ne0
pub slice_bounds-put_step_line-count : goal.slice_bounds-put_step_line-count
slice_bounds-put_step_line-count c = at_inside reply_line c.loop-i.invariant

pub put_step_line-at-requires : goal.put_step_line-at-requires
put_step_line-at-requires c =
    omega (arith, room_lent reply_line c.loop-i.invariant longest_said c.if-out-at-lt-LONGEST_SAID.false)

pub overflow_add-at-else-len-ne0 : goal.overflow_add-at-else-len-ne0
overflow_add-at-else-len-ne0 c =
    let inside = put_inside reply_line c.loop-i.invariant c.put_step_line-at.result _ _ c.put_step_line-at.auto.out
    c.put_step_line-at.ensures in
    omega (arith, inside, c.well_formed.1.1.0.0)

pub loop-i-preserved-else-len-ne0 : goal.loop-i-preserved-else-len-ne0
loop-i-preserved-else-len-ne0 c =
    step_ends c.loop-i.invariant c.loop-i-test.true refl c.if-x-eq-LINE_FEED.true _
    c.put_step_line-at.result c.put_step_line-at.auto.out c.if-len-ne0.false c.one_more-steps.result
    c.one_more-steps.ensures c.put_step_line-at.ensures

-- ---- one more character
pub loop-i-preserved : goal.loop-i-preserved
loop-i-preserved c =
    let loop' = c.loop-i in
    next_character reply_line c.args.chunk.now c.args.out.now _ loop'.out _
    loop'.line loop'.len loop'.at loop'.i _ loop'.invariant c.loop-i-test.true refl _
    c.keep-len.result c.if-x-eq-LINE_FEED.false c.keep-len.ensures.0 c.keep-len.ensures.1 c.keep-len.ensures.2

-- ---- what the calls ask
pub body_frame-requires : goal.body_frame-requires
body_frame-requires c =
    (λ five. c.if-d-ne-TEST.true (c.decode-d.ensures.kind_is ∙ five), λ turned. c.sines-sines.ensures)

pub chain_test-requires : goal.chain_test-requires
chain_test-requires c =
    (sym c.decode-d.ensures.kind_is ∙ c.if-d-ne-TEST.false, c.if-w-a-eq-CHAIN.true)

pub test_frame-requires : goal.test_frame-requires
test_frame-requires c =
    (sym c.decode-d.ensures.kind_is ∙ c.if-d-ne-TEST.false, c.if-w-a-eq-CHAIN.false)

pub slice_bounds-decode-end : goal.slice_bounds-decode-end
slice_bounds-decode-end c = sym (length-take-le _ _ (omega arith))

pub slice_bounds-body_frame-end : goal.slice_bounds-body_frame-end
slice_bounds-body_frame-end c = sym (length-take-le _ _ (omega arith))

pub slice_bounds-body_frame-end-then-d-ne-TEST : goal.slice_bounds-body_frame-end-then-d-ne-TEST
slice_bounds-body_frame-end-then-d-ne-TEST c = sym (lent_length _ c.sines-sines.ensures)

pub slice_bounds-chain_test-end : goal.slice_bounds-chain_test-end
slice_bounds-chain_test-end c = sym (length-take-le _ _ (omega arith))

pub slice_bounds-test_frame-end : goal.slice_bounds-test_frame-end
slice_bounds-test_frame-end c = sym (length-take-le _ _ (omega arith))
