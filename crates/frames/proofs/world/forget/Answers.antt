-- The loop: the pairs with each of the first j partners are fresh. Assumes nothing.
use mathlib.Core.Path.{◌≡◌, refl}
use native.Mathlib.Numerals.{add-one}
use native.Mathlib.Omega.{arith}
use lib.ListN.{length-set}
use Rattle.record_definitions.specs.World.{forget_below}
use Rattle.frames.proofs.world.forget.Goals as goal

pub loop-j-init : goal.loop-j-init
unfolding forget_below
loop-j-init c =
    let pre = c.requires in
    let good = c.well_formed in
    (omega arith, pre, c.fresh_pair-fresh.ensures, good.0.1.0.1, refl)

pub loop-j-preserved : goal.loop-j-preserved
unfolding forget_below
loop-j-preserved c =
    let loop = c.loop-j in (
      omega arith,
      omega arith,
      loop.invariant.2,
      simp length-set loop.invariant.3,
      rw (add-one, loop.invariant.2, loop.invariant.4) refl,
    )

pub returns : goal.returns
returns c =
    let loop = c.loop-j in
    let all : loop.j ≡ 8 = omega arith in rw all at loop.invariant.4
