-- The first piece, and after j turns j further ones; or the first refusal. Assumes nothing.
use mathlib.Core.Path.{◌≡◌, ◌∙◌}
use native.Mathlib.Omega.{arith}
use lib.ListN.{length}
use Rattle.std.proofs.lemmas.Result.{err_from_is_err_and}
use Rattle.shape_definitions.proofs.Numbers.{no_acceptance}
use Rattle.frames.proofs.ChainTests.{begins, goes_on, further_is, pieces_answered, first_refused, further_refused}
use Rattle.frames.proofs.chain_test.pieces_tested.Goals as goal

pub returns-in_err-first : goal.returns-in_err-first
returns-in_err-first c =
    let args = c.args in
    let gone = err_from_is_err_and c.from_residual.result c.from_residual.ensures.1 in
    rw (gone.1, gone.2)
    (first_refused args.ida args.idb args.a args.b args.pair _ (no_acceptance _) _
    (further_is args.a _ c.requires c.further_pieces-further.ensures) c.in_err-first.ensures.0)

pub loop-j-init : goal.loop-j-init
loop-j-init c =
    let kepts = c.args.pair.pieces in
    let seven : length kepts ≡ 7 = c.well_formed.1.1.1.1.0.1.1.0.1.0.1 in
    begins _ _ _ _ c.args.pair _ _ _ (omega (arith, c.further_pieces-further.ensures)) seven c.in_ok-first.ensures
    c.blank_touch-blank.ensures

pub returns-in_err-made : goal.returns-in_err-made
returns-in_err-made c =
    let args = c.args in
    let gone = err_from_is_err_and c.from_residual-in_err-made.result c.from_residual-in_err-made.ensures.1 in
    rw (gone.1, gone.2)
    (further_refused args.ida args.idb args.a args.b args.pair _ (no_acceptance _) _ c.loop-j.kepts c.loop-j.more _
    c.loop-j.invariant (further_is args.a _ c.requires c.further_pieces-further.ensures) c.loop-j-test.true
    c.in_err-made.ensures.0)

pub loop-j-preserved : goal.loop-j-preserved
loop-j-preserved c =
    goes_on _ _ _ _ c.args.pair _ c.loop-j.kepts c.loop-j.more c.loop-j.j c.loop-j.invariant _ c.loop-j-test.true
    c.in_ok-made.ensures

pub returns : goal.returns
returns c =
    let args = c.args in
    pieces_answered _ _ args.a args.b args.pair _ c.loop-j.kepts c.loop-j.more c.loop-j.j c.loop-j.invariant
    (further_is args.a _ c.requires c.further_pieces-further.ensures) _ c.loop-j-test.false c.in_ok-first.ensures
