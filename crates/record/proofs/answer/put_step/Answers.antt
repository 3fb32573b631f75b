-- The kind, then the number behind it. Assumes nothing.
use mathlib.Core.Path.{refl}
use mathlib.Core.List.{[], ◌∷◌}
use native.Mathlib.Omega.{arith}
use lib.ListN.{set, length-set}
use Rattle.algebra.proofs.Buffer.{over_next, over_stores}
use Rattle.lines.specs.Fields.{number_bytes}
use Rattle.record_definitions.proofs.Feeding.{length_lent}
use Rattle.record.proofs.answer.put_step.Goals as goal

pub slice_bounds-put_number-count : goal.slice_bounds-put_number-count
slice_bounds-put_number-count c = omega (arith, length-set c.args.out.now 0 10)

pub put_number-requires : goal.put_number-requires
put_number-requires c =
    let size = length-set c.args.out.now 0 10 in
    omega (arith, size, length_lent 1 (set c.args.out.now 0 10) (omega (arith, size)))

pub returns : goal.returns
returns c =
    let put_number' = c.put_number in
    let args' = c.args in
    let old = args'.out.now in
    over_next (10 ∷ []) (number_bytes args'.steps) old _ _ 1 refl (over_stores (10 ∷ []) old (omega arith))
    put_number'.ensures
