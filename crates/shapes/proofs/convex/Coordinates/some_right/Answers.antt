-- The corners below j, and no more than count, are asked so far. Assumes nothing.
use mathlib.Core.Path.{◌∙◌, ap}
use mathlib.Core.Bool.{not}
use mathlib.Core.List.{zip_with}
use native.Mathlib.Nat.{min-eq_left, min-eq_right}
use native.Mathlib.Omega.{arith}
use Rattle.floats.specs.B2Math.{vec2}
use Rattle.shape_definitions.specs.Validate.{corners_not_right}
use Rattle.shapes.proofs.Sides.{corners_next, right_is}
use Rattle.shapes.proofs.convex.Coordinates.some_right.Goals as goal

pub loop-j-init : goal.loop-j-init
unfolding corners_not_right
loop-j-init c =
    let none = min-eq_left {n = 0} {m = c.args.count} (omega arith) in
    (omega arith, omega arith, simp none)

pub loop-j-preserved : goal.loop-j-preserved
loop-j-preserved c =
    let vs = zip_with vec2 c.args.self.now.xs c.args.self.now.ys in
    let count = c.args.count in
    let i = c.args.i in (
      omega arith,
      omega arith,
      corners_next vs count i c.loop-j.j _ _ c.loop-j.invariant.2
          (right_is vs count i c.loop-j.j _ _ _ _ _ _ c.corner-p.ensures
          c.after.ensures.1 c.corner.ensures c.b2_sub-e.ensures
          c.corner-in-loop-j.ensures c.right_of-here.ensures),
    )

pub returns : goal.returns
returns c =
    let loop = c.loop-j in
    let args = c.args in
    loop.invariant.2
    ∙ ap (λ k. not (corners_not_right (zip_with vec2 args.self.now.xs args.self.now.ys) args.count args.i k))
    (min-eq_right {n = args.count} {m = loop.j} (omega arith))
