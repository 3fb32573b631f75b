-- Four stores, each of a state's number. Assumes nothing.
use mathlib.Core.List.{[], ◌∷◌}
use native.Mathlib.Omega.{arith}
use lib.ListN.{length-set}
use Rattle.algebra.proofs.Buffer.{over_stores}
use Rattle.record.proofs.answer.put_states.Goals as goal

pub bounds-out-1 : goal.bounds-out-1
bounds-out-1 c = simp length-set (omega arith)

pub bounds-out-2 : goal.bounds-out-2
bounds-out-2 c = simp length-set (omega arith)

pub returns : goal.returns
returns c =
    rw (c.from-4.ensures, c.from-3.ensures, c.from-2.ensures, c.from.ensures)
    (over_stores (_ ∷ _ ∷ _ ∷ _ ∷ []) c.args.out.now c.requires)
