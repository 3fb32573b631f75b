-- One of the points is out of range, or none is: the loop passes the places below i. Assumes nothing.
use mathlib.Core.Path.{◌≡◌, sym, ◌∙◌}
use Prim.Native.Nat.{◌<◌}
use native.Mathlib.Omega.{arith}
use lib.ListN.{length, take}
use lib.Seq.{length-take-le}
use Rattle.floats.specs.Ranges.{point_in_range}
use Rattle.shapes.specs.Coordinates.{points_in}
use Rattle.shapes.proofs.Tests.{at_first_place}
use Rattle.algebra.proofs.Lists.{first_places}
use Rattle.algebra.proofs.All.{all_failed, all_next, all_ended}
use Rattle.shapes.proofs.coordinates.Row.in_range.Goals as goal

pub returns-then-not-point_in_range : goal.returns-then-not-point_in_range
returns-then-not-point_in_range c =
    let ps = points_in c.args.self.now.xs in
    let n = c.args.n in
    let i = c.loop-i.i in
    let eight = c.args.self.now.eight in
    let within : i < length (take n ps) = first_places n i ps (omega arith) (omega arith) in
    all_failed point_in_range (take n ps) i _ _ within (c.at.ensures
    ∙ sym (at_first_place ps n i (omega arith)))
    c.loop-i.invariant.2 (sym c.point_in_range.ensures ∙ c.if-not-point_in_range.true)

pub loop-i-preserved : goal.loop-i-preserved
loop-i-preserved c =
    let ps = points_in c.args.self.now.xs in
    let n = c.args.n in
    let i = c.loop-i.i in
    let eight = c.args.self.now.eight in
    let within : i < length (take n ps) = first_places n i ps (omega arith) (omega arith) in (
      omega arith,
      omega arith,
      all_next point_in_range (take n ps) i _ _ within (c.at.ensures
          ∙ sym (at_first_place ps n i (omega arith)))
          c.loop-i.invariant.2 (sym c.point_in_range.ensures ∙ c.if-not-point_in_range.false),
    )

pub returns : goal.returns
returns c =
    let ps = points_in c.args.self.now.xs in
    let n = c.args.n in
    let eight = c.args.self.now.eight in
    let end : c.loop-i.i ≡ length (take n ps) = omega (arith, length-take-le n ps (omega arith)) in
    all_ended point_in_range (take n ps) c.loop-i.i end c.loop-i.invariant.2
