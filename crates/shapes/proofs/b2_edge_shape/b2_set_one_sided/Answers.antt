-- All four points are in range, or not. Assumes nothing.
use mathlib.Core.Bool.{◌&&◌}
use Rattle.floats.specs.Ranges.{point_in_range}
use Rattle.shape_definitions.specs.Edge.{b2_set_one_sided}
use Rattle.algebra.proofs.Booleans.{chosen, unchosen}
use Rattle.shapes.proofs.b2_edge_shape.b2_set_one_sided.Goals as goal

pub returns-then-not-in0-in1 : goal.returns-then-not-in0-in1
unfolding b2_set_one_sided
returns-then-not-in0-in1 c =
    let args = c.args in
    unchosen (point_in_range args.v0 && point_in_range args.v1 && point_in_range args.v2
    && point_in_range args.v3) _ _ _
    c.if-not-in0-in1.true
    (simp (
      c.point_in_range-in3.ensures,
      c.point_in_range-in2.ensures,
      c.point_in_range-in1.ensures,
      c.point_in_range-in0.ensures,
    ))

pub returns : goal.returns
unfolding b2_set_one_sided
returns c =
    let args = c.args in
    chosen (point_in_range args.v0 && point_in_range args.v1 && point_in_range args.v2
    && point_in_range args.v3) _ _ _
    c.if-not-in0-in1.false
    (simp (
      c.point_in_range-in3.ensures,
      c.point_in_range-in2.ensures,
      c.point_in_range-in1.ensures,
      c.point_in_range-in0.ensures,
    ))
