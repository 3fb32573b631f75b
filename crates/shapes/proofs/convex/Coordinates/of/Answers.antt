-- The coordinates below j are copied so far. Assumes nothing.
use native.Mathlib.Omega.{arith}
use lib.ListN.{length-set}
use Rattle.algebra.proofs.Lists.{mapped_next, mapped}
use Rattle.shapes.proofs.convex.Coordinates.of.Goals as goal

pub loop-j-preserved : goal.loop-j-preserved
loop-j-preserved c =
    let loop = c.loop-j in
    let vs = c.args.vs in
    let inv = loop.invariant in (
      omega arith,
      inv.1,
      simp length-set inv.2,
      simp length-set inv.3,
      mapped_next (λ v. v.x) vs loop.xs loop.j inv.4 _ (omega arith) (omega arith),
      mapped_next (λ v. v.y) vs loop.ys loop.j inv.5 _ (omega arith) (omega arith),
    )

pub returns : goal.returns
returns c =
    let loop = c.loop-j in
    let vs = c.args.vs in
    let inv = loop.invariant in (
      mapped (λ v. v.x) vs loop.xs loop.j inv.4 (omega arith) (omega arith),
      mapped (λ v. v.y) vs loop.ys loop.j inv.5 (omega arith) (omega arith),
    )
