-- Refused as any frame is, or answered as the test is. Assumes nothing.
use mathlib.Core.Path.{refl, ◌∙◌}
use Rattle.std.proofs.lemmas.Result.{err_from_is_err_and}
use Rattle.shape_definitions.proofs.Numbers.{no_acceptance}
use Rattle.record_definitions.specs.Frame.{test_change}
use Rattle.frames.proofs.ByKind.{refused_frame, test_is}
use Rattle.frames.proofs.frame.test_frame.Goals as goal

pub returns-in_err-check_frame : goal.returns-in_err-check_frame
returns-in_err-check_frame c =
    let args = c.args in
    let gone = err_from_is_err_and c.from_residual.result c.from_residual.ensures.1 in
    rw (gone.1, gone.2) (refused_frame args.a args.b args.pair _ _ c.in_err-check_frame.ensures (no_acceptance _))

pub returns : goal.returns
returns c =
    let args = c.args in
    ◌∙◌ {b = test_change c.byte.result c.byte-2.result args.a args.b args.pair} c.test_frame.ensures
    (test_is args.a args.b args.pair _ c.in_ok-check_frame.ensures _ refl _ _ c.byte.ensures c.byte-2.ensures
    c.requires.0)
