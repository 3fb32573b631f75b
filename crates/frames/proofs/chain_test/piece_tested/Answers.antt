-- The piece, and what is kept of it. Assumes nothing.
use mathlib.Core.Path.{◌≡◌, subst}
use native.Mathlib.Omega.{arith}
use lib.ListN.{length}
use Rattle.frames.specs.Made.{AnsweredAs}
use Rattle.frames.proofs.ChainTests.{piece_run}
use Rattle.frames.proofs.chain_test.piece_tested.Goals as goal

pub returns : goal.returns
returns c =
    let args = c.args in
    let seven : length args.pair.pieces ≡ 7 = c.well_formed.1.1.1.1.0.1.1.0.1.0.1 in
    subst (AnsweredAs c.tested.result)
    (piece_run args.ida args.idb args.a args.b args.pair args.i _ _ (omega arith) c.piece_of.ensures) c.tested.ensures
