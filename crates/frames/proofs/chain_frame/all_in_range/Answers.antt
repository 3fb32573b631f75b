-- The points below i are in range. Assumes nothing.
use mathlib.Core.Path.{◌≡◌, refl, sym, ◌∙◌}
use native.Mathlib.Omega.{arith}
use lib.ListN.{length, take}
use lib.Seq.{get_or-take, length-take-le}
use Rattle.algebra.proofs.All.{all_failed, all_next, all_ended}
use Rattle.floats.specs.Ranges.{point_in_range}
use Rattle.frames.proofs.chain_frame.all_in_range.Goals as goal

pub loop-i-init : goal.loop-i-init
loop-i-init c = (omega arith, omega arith, c.well_formed.0.1.0.1, refl)

pub returns-then-not-point_in_range : goal.returns-then-not-point_in_range
returns-then-not-point_in_range c =
    let in_range = c.point_in_range in
    let loop = c.loop-i in
    let args = c.args in
    let first = take args.n args.points in
    let size : length first ≡ args.n = length-take-le args.n args.points (omega (arith, loop.invariant.2)) in
    all_failed point_in_range first loop.i _ _ (omega arith)
    (sym (get_or-take args.n args.points loop.i _ (omega arith))) loop.invariant.3
    (sym in_range.ensures ∙ c.if-not-point_in_range.true)

pub loop-i-preserved : goal.loop-i-preserved
loop-i-preserved c =
    let in_range = c.point_in_range in
    let loop = c.loop-i in
    let args = c.args in
    let first = take args.n args.points in
    let size : length first ≡ args.n = length-take-le args.n args.points (omega (arith, loop.invariant.2)) in (
      omega arith,
      loop.invariant.1,
      loop.invariant.2,
      all_next point_in_range first loop.i _ _ (omega arith)
          (sym (get_or-take args.n args.points loop.i _ (omega arith)))
          loop.invariant.3 (sym in_range.ensures ∙ c.if-not-point_in_range.false),
    )

pub returns : goal.returns
returns c =
    let loop = c.loop-i in
    let args = c.args in
    let size : length (take args.n args.points) ≡ args.n =
    length-take-le args.n args.points (omega (arith, loop.invariant.2)) in
    all_ended point_in_range (take args.n args.points) loop.i (omega arith) loop.invariant.3
