-- Refused at once, or answered as the test is. Assumes nothing.
use mathlib.Core.Path.{refl, ◌∙◌}
use native.Mathlib.Omega.{arith}
use Rattle.std.proofs.lemmas.Result.{err_from_is_err_and}
use Rattle.shape_definitions.proofs.Numbers.{no_acceptance}
use Rattle.frames.proofs.TestFrames.{test_refused, test_run, alone_refused, alone_answered, kept_read}
use Rattle.frames.proofs.test_frame.test_frame.Goals as goal

pub returns-in_err-check_test : goal.returns-in_err-check_test
returns-in_err-check_test c =
    let args = c.args in
    let gone = err_from_is_err_and c.from_residual.result c.from_residual.ensures.1 in
    rw (gone.1, gone.2) (test_refused _ _ args.a args.b args.pair _ c.in_err-check_test.ensures (no_acceptance _))

pub returns-in_err-made : goal.returns-in_err-made
returns-in_err-made c =
    let args = c.args in
    let seven = c.well_formed.1.1.1.1.0.1.1.0.1.0.1 in
    let gone = err_from_is_err_and c.from_residual-in_err-made.result c.from_residual-in_err-made.ensures.1 in
    rw (gone.1, gone.2)
    (alone_refused args.ida args.idb args.a args.b args.pair _ (kept_read args.pair _ seven) c.requires _ refl _
    c.in_err-made.ensures.0 (no_acceptance _)
    ∙ test_run _ _ args.a args.b args.pair c.in_ok-check_test.ensures)

pub returns : goal.returns
returns c =
    let args = c.args in
    let seven = c.well_formed.1.1.1.1.0.1.1.0.1.0.1 in
    let made = c.in_ok-made.ensures in
    alone_answered args.ida args.idb args.a args.b args.pair _ (kept_read args.pair _ seven) c.requires _ refl _ _
    made.0 made.1.0 made.1.1 (omega (arith, seven))
    ∙ test_run _ _ args.a args.b args.pair c.in_ok-check_test.ensures
