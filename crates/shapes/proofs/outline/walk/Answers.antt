-- The corners done, and the row they begin. Assumes nothing.
use mathlib.Core.Path.{refl, sym, ◌∙◌, subst}
use Prim.Native.Nat.{◌+◌}
use native.Mathlib.Omega.{arith}
use lib.ListN.{take}
use Rattle.shapes.specs.Coordinates.{points_in}
use Rattle.shapes.proofs.Tests.{at_first_place}
use Rattle.shapes.proofs.Walking.{Walking, walking_starts, walking_next, walking_back, walking_lost}
use Rattle.shapes.proofs.outline.walk.Goals as goal

pub loop-m-init : goal.loop-m-init
loop-m-init c =
    let n = c.args.n in
    let ps = points_in c.args.ps.now.xs in
    (omega arith, omega arith, omega arith, c.requires.2, walking_starts (take n ps) _ _ c.requires.2)

pub returns-then-ih-i0 : goal.returns-then-ih-i0
returns-then-ih-i0 c =
    let ps = points_in c.args.ps.now.xs in
    let n = c.args.n in
    let ih = c.loop-m.ih in
    let inv = c.loop-m.invariant in
    let corner_is = c.at.ensures ∙ sym (at_first_place ps n ih (omega arith)) in (
      omega arith,
      walking_back (take n ps) _ _ c.loop-m.m ih _ inv.4 (omega arith) c.args.corners.now.eight corner_is _ _
          (sym c.next-ih.ensures.1 ∙ c.if-ih-i0.true ∙ inv.3) refl c.put.ensures,
    )

pub loop-m-preserved : goal.loop-m-preserved
loop-m-preserved c =
    let ps = points_in c.args.ps.now.xs in
    let n = c.args.n in
    let ih = c.loop-m.ih in
    let inv = c.loop-m.invariant in
    let corner_is = c.at.ensures ∙ sym (at_first_place ps n ih (omega arith)) in
    let next_is = c.next-ih.ensures in (
      omega arith,
      omega arith,
      next_is.0,
      inv.3,
      subst (Walking (take n ps) _ (c.loop-m.m + 1) _) (sym c.put.ensures)
          (walking_next (take n ps) _ _ c.loop-m.m ih _ inv.4 (omega arith) c.args.corners.now.eight corner_is _ next_is.1
          (λ same. c.if-ih-i0.false (same ∙ sym inv.3))),
    )

pub returns : goal.returns
returns c = (
  omega arith,
  walking_lost _ _ _ _ c.loop-m.m c.loop-m.ih c.loop-m.invariant.4
      (omega arith),
)
