-- The points stored so far are the first ones. Assumes nothing.
use mathlib.Core.Path.{refl, ◌∙◌, ap}
use Prim.Native.Nat.{◌+◌}
use native.Mathlib.Omega.{arith}
use lib.ListN.{take}
use Rattle.shapes.specs.Coordinates.{points_in}
use Rattle.algebra.proofs.Lists.{copied_next, copied}
use Rattle.shapes.proofs.coordinates.Row.of.Goals as goal

pub invariant_of-row : goal.invariant_of-row
unfolding points_in
invariant_of-row c = record { eight = refl }

pub loop-i-preserved : goal.loop-i-preserved
loop-i-preserved c =
    let vs = c.args.vs in
    let row = points_in c.loop-i.row.xs in
    let i = c.loop-i.i in
    let inv = c.loop-i.invariant in
    let size = inv.1 in
    let eight = c.loop-i.row.eight in (
      omega arith,
      size,
      ap (take (i + 1)) c.put.ensures ∙ copied_next vs row i inv.2 _ _ (omega arith) (omega arith) refl,
    )

pub returns : goal.returns
returns c =
    let inv = c.loop-i.invariant in
    let size = inv.1 in
    let eight = c.loop-i.row.eight in
    copied _ _ c.loop-i.i inv.2 (omega arith) (omega arith)
