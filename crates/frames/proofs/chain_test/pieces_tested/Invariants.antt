-- The first piece, and after j turns j further ones. Assumes nothing.
use Rattle.frames.proofs.ChainTests.{SoFar}
use Rattle.frames.proofs.chain_test.pieces_tested.Given as goal

abbrev pub invariant-loop-j : goal.invariant-loop-j
invariant-loop-j l = SoFar l.ida l.idb l.a l.b l.pair l.further l.kepts l.more l.j
