-- Refused at once, or answered as the pieces are. Assumes nothing.
use mathlib.Core.Path.{◌∙◌}
use Rattle.std.proofs.lemmas.Result.{err_from_is_err_and}
use Rattle.shape_definitions.proofs.Numbers.{no_acceptance}
use Rattle.frames.proofs.TestFrames.{answered, test_refused, test_run}
use Rattle.frames.proofs.chain_test.chain_test.Goals as goal

pub returns-in_err-check_test : goal.returns-in_err-check_test
returns-in_err-check_test c =
    let args = c.args in
    let gone = err_from_is_err_and c.from_residual.result c.from_residual.ensures.1 in
    rw (gone.1, gone.2) (test_refused _ _ args.a args.b args.pair _ c.in_err-check_test.ensures (no_acceptance _))

pub returns : goal.returns
returns c =
    let args = c.args in
    ◌∙◌ {b = answered args.ida args.idb args.a args.b args.pair} c.pieces_tested.ensures
    (test_run _ _ args.a args.b args.pair c.in_ok-check_test.ensures)
