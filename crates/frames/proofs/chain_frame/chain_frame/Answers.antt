-- The chain, or its refusal. Assumes nothing.
use mathlib.Core.Path.{refl}
use Rattle.std.proofs.lemmas.Result.{err_from_is_err_and}
use Rattle.shape_definitions.proofs.Numbers.{no_acceptance}
use Rattle.frames.proofs.ChainFrames.{few_points, chain_taken, chain_refused}
use Rattle.frames.proofs.chain_frame.chain_frame.Goals as goal

pub check_chain-requires : goal.check_chain-requires
check_chain-requires c = few_points _ _ c.chain_read-chain.ensures c.requires.0

pub returns-in_err-check_chain : goal.returns-in_err-check_chain
returns-in_err-check_chain c =
    let gone = err_from_is_err_and c.from_residual.result c.from_residual.ensures.1 in
    λ body pair. rw (gone.1, gone.2)
    (chain_refused _ _ c.chain_read-chain.ensures body pair _
    (c.in_err-check_chain.ensures _ c.chain_read-chain.ensures) (no_acceptance _))

pub returns : goal.returns
returns c =
    λ body pair. rw c.chain_body.ensures
    (chain_taken _ _ c.chain_read-chain.ensures body pair _
    (c.in_ok-check_chain.ensures _ c.chain_read-chain.ensures) refl)
