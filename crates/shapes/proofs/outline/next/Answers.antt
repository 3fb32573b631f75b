-- What the scan keeps from here, seen from the corner, is what it keeps of all places; r leads to the candidate.
-- Assumes nothing.
use mathlib.Core.Path.{◌∙◌, ap}
use native.Mathlib.Omega.{arith}
use lib.ListN.{take}
use Rattle.algebra.proofs.Loops.{scan_ended}
use Rattle.floats.specs.B2Math.{b2_sub}
use Rattle.shape_definitions.specs.Outline.{replaces, next}
use Rattle.shapes.specs.Coordinates.{points_in}
use Rattle.shapes.proofs.Tests.{replaces_by, replaces_first, scanned_next, scanned_from_one}
use Rattle.algebra.proofs.Booleans.{chosen, unchosen}
use Rattle.shapes.proofs.outline.next.Goals as goal
use Rattle.shapes.proofs.outline.next.Goals.{then-replaced, else-replaced}

pub loop-j-init : goal.loop-j-init
unfolding next
loop-j-init c =
    let ps = points_in c.args.ps.now.xs in
    let n = c.args.n in
    let eight = c.args.ps.now.eight in (
      omega arith,
      omega arith,
      omega arith,
      omega arith,
      c.at-corner.ensures,
      c.b2_sub-r.ensures ∙ ap (λ p. b2_sub p c.at-corner.result) c.at.ensures,
      scanned_from_one _ ps n (omega arith),
    )

pub loop-j-preserved : goal.loop-j-preserved
loop-j-preserved c =
    let corner = c.at-corner.result in
    let ps = points_in c.args.ps.now.xs in
    let n = c.args.n in
    let ih = c.args.ih in
    let ie = c.loop-j.ie in
    let j = c.loop-j.j in
    let inv = c.loop-j.invariant in
    let v_is = c.b2_sub-v.ensures ∙ ap (λ p. b2_sub p corner) c.at-in-loop-j.ensures in
    let test_is = replaces_by ps ih ie j corner _ _ _ inv.4 inv.5 v_is c.replaced.ensures in
    let same = replaces_first ps n ih ie j (omega arith) (omega arith) (omega arith) in
    elim c.if-replaced.branch [
      | then-replaced w ↦ rw (w.ie-is, w.r-is) (
        omega arith,
        omega arith,
        omega arith,
        omega arith,
        inv.4,
        v_is,
        scanned_next (replaces ps ih ie j) j ie j n (chosen _ _ j ie w.if-replaced.true test_is) (omega arith)
            (replaces (take n ps) ih) _ same inv.6,
      )
      | else-replaced w ↦ rw (w.ie-is, w.r-is) (
        omega arith,
        omega arith,
        omega arith,
        omega arith,
        inv.4,
        inv.5,
        scanned_next (replaces ps ih ie j) ie ie j n (unchosen _ _ j ie w.if-replaced.false test_is) (omega arith)
            (replaces (take n ps) ih) _ same inv.6,
      )
    ]

pub returns : goal.returns
returns c =
    (omega arith, scan_ended _ _ c.loop-j.j _ _ (omega arith) c.loop-j.invariant.6)
