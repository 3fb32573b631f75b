-- What the scan keeps from here is what it keeps of all places; best is the point kept. Assumes nothing.
use mathlib.Core.Path.{◌∙◌, ap₂}
use native.Mathlib.Omega.{arith}
use lib.ListN.{take}
use Rattle.algebra.proofs.Loops.{scan_ended}
use Rattle.shape_definitions.specs.Outline.{comes_before, earlier, start}
use Rattle.shapes.specs.Coordinates.{points_in}
use Rattle.shapes.proofs.Tests.{earlier_first, scanned_next, scanned_from_one}
use Rattle.algebra.proofs.Booleans.{chosen, unchosen}
use Rattle.shapes.proofs.outline.start.Goals as goal
use Rattle.shapes.proofs.outline.start.Goals.{then-comes_before, else-comes_before}

pub loop-i-init : goal.loop-i-init
unfolding start
loop-i-init c =
    let ps = points_in c.args.ps.now.xs in
    let n = c.args.n in
    let eight = c.args.ps.now.eight in
    (omega arith, omega arith, omega arith, c.at-best.ensures, scanned_from_one _ ps n (omega arith))

pub loop-i-preserved : goal.loop-i-preserved
loop-i-preserved c =
    let ps = points_in c.args.ps.now.xs in
    let n = c.args.n in
    let i0 = c.loop-i.i0 in
    let i = c.loop-i.i in
    let inv = c.loop-i.invariant in
    let test_is = c.comes_before.ensures ∙ ap₂ comes_before inv.3 c.at-p.ensures in
    let same = earlier_first ps n i0 i (omega arith) (omega arith) in
    elim c.if-comes_before.branch [
      | then-comes_before w ↦ rw (w.i0-is, w.best-is) (
        omega arith,
        omega arith,
        omega arith,
        c.at-p.ensures,
        scanned_next (earlier ps i0 i) i i0 i n (chosen _ _ i i0 w.if-comes_before.true test_is) (omega arith)
            (earlier (take n ps)) _ same inv.4,
      )
      | else-comes_before w ↦ rw (w.i0-is, w.best-is) (
        omega arith,
        omega arith,
        omega arith,
        inv.3,
        scanned_next (earlier ps i0 i) i0 i0 i n (unchosen _ _ i i0 w.if-comes_before.false test_is) (omega arith)
            (earlier (take n ps)) _ same inv.4,
      )
    ]

pub returns : goal.returns
returns c =
    (omega arith, scan_ended _ _ c.loop-i.i _ _ (omega arith) c.loop-i.invariant.4)
