-- The loop: the lines of the first i results stand at the front. Assumes nothing.
use mathlib.Core.Path.{◌≡◌}
use native.Mathlib.Omega.{arith}
use lib.ListN.{length}
use Rattle.record_definitions.specs.Answer.{most_further}
use Rattle.record.proofs.Rows.{row_held}
use Rattle.record.proofs.Lines.{no_line_yet, line_more, lines_put}
use Rattle.record.proofs.answer.put_touch_lines.Goals as goal

pub loop-i-init : goal.loop-i-init
loop-i-init c =
    let args' = c.args in
    let good' = c.well_formed in
    let size : length args'.touches ≡ most_further = good'.1.0.1.0.1 in
    no_line_yet args'.touches args'.out.now c.min-last.result (omega arith) (omega arith) c.requires

pub loop-i-preserved : goal.loop-i-preserved
loop-i-preserved c =
    let put_answer_line' = c.put_answer_line-at in
    let loop_test' = c.loop-i-test in
    let loop' = c.loop-i in
    line_more _ _ _ loop'.out loop'.at loop'.i put_answer_line'.result put_answer_line'.new.out _
    loop_test'.true put_answer_line'.ensures.put put_answer_line'.ensures.upper_bound loop'.invariant

pub returns : goal.returns
returns c =
    let loop' = c.loop-i in
    let last' = c.min-last in
    let args' = c.args in
    let good' = c.well_formed in
    let size : length args'.touches ≡ most_further = good'.1.0.1.0.1 in
    let same = row_held args'.touches most_further args'.n last'.result size last'.ensures in
    record {
      put = lines_put args'.touches _ _ _ _ loop'.i args'.n c.loop-i-test.false same loop'.invariant;
      upper_bound = omega arith;
    }
