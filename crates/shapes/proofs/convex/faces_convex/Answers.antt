-- No face so far has a corner right of it. Assumes nothing.
use mathlib.Core.Path.{◌≡◌, refl, sym, ◌∙◌, ap}
use native.Mathlib.Omega.{arith}
use Rattle.shape_definitions.specs.Validate.{faces_convex}
use Rattle.shapes.proofs.Sides.{faces_next, faces_failed, joined_faces}
use Rattle.shapes.proofs.convex.faces_convex.Goals as goal

pub loop-i-init : goal.loop-i-init
unfolding faces_convex
loop-i-init c = (omega arith, omega arith, refl)

pub returns-then-some_right : goal.returns-then-some_right
returns-then-some_right c =
    let args = c.args in
    sym (faces_failed _ args.count c.loop-i.i args.count _ c.some_right.ensures c.if-some_right.true
    (omega arith))
    ∙ joined_faces args.vs _ _ args.count c.of-corners.ensures.0
    c.of-corners.ensures.1

pub loop-i-preserved : goal.loop-i-preserved
loop-i-preserved c =
    let count = c.args.count in (
      omega arith,
      omega arith,
      faces_next _ count c.loop-i.i _ c.some_right.ensures c.if-some_right.false
          c.loop-i.invariant.2,
    )

pub returns : goal.returns
returns c =
    let args = c.args in
    let all : c.loop-i.i ≡ args.count = omega arith in
    sym c.loop-i.invariant.2 ∙ ap (faces_convex _ args.count) all
    ∙ joined_faces args.vs _ _ args.count c.of-corners.ensures.0
    c.of-corners.ensures.1
