-- One of the kept points is too near, or none is: the loop passes the places below j. Assumes nothing.
use mathlib.Core.Path.{◌≡◌, sym, ◌∙◌}
use Prim.Native.Nat.{◌<◌}
use native.Mathlib.Omega.{arith}
use lib.ListN.{length, take}
use lib.Seq.{length-take-le}
use Rattle.algebra.proofs.Loops.{near_found, near_next, near_none}
use Rattle.shape_definitions.specs.Outline.{too_near}
use Rattle.shapes.specs.Coordinates.{points_in}
use Rattle.shapes.proofs.Tests.{at_first_place}
use Rattle.algebra.proofs.Lists.{first_places}
use Rattle.shapes.proofs.outline.near_any.Goals as goal

pub returns-then-too_near : goal.returns-then-too_near
returns-then-too_near c =
    let ps = points_in c.args.ps.now.xs in
    let n = c.args.n in
    let j = c.loop-j.j in
    let eight = c.args.ps.now.eight in
    let within : j < length (take n ps) = first_places n j ps (omega arith) (omega arith) in
    near_found too_near _ (take n ps) j _ _ within (c.at.ensures
    ∙ sym (at_first_place ps n j (omega arith))) c.loop-j.invariant.2
    (sym c.too_near.ensures ∙ c.if-too_near.true)

pub loop-j-preserved : goal.loop-j-preserved
loop-j-preserved c =
    let ps = points_in c.args.ps.now.xs in
    let n = c.args.n in
    let j = c.loop-j.j in
    let eight = c.args.ps.now.eight in
    let within : j < length (take n ps) = first_places n j ps (omega arith) (omega arith) in (
      omega arith,
      omega arith,
      near_next too_near _ (take n ps) j _ _ within (c.at.ensures
          ∙ sym (at_first_place ps n j (omega arith))) c.loop-j.invariant.2
          (sym c.too_near.ensures ∙ c.if-too_near.false),
    )

pub returns : goal.returns
returns c =
    let ps = points_in c.args.ps.now.xs in
    let n = c.args.n in
    let eight = c.args.ps.now.eight in
    let end : c.loop-j.j ≡ length (take n ps) = omega (arith, length-take-le n ps (omega arith)) in
    near_none too_near _ (take n ps) c.loop-j.j end c.loop-j.invariant.2
