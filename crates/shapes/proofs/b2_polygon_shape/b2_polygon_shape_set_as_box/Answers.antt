-- Both half-widths are in range, or not. Assumes nothing.
use mathlib.Core.Path.{◌∙◌}
use mathlib.Core.Bool.{◌&&◌}
use Rattle.floats.specs.Ranges.{coordinate_in_range}
use Rattle.shape_definitions.specs.Refusal.{shape_out_of_range}
use Rattle.shape_definitions.specs.Outline.{origin}
use Rattle.shape_definitions.specs.Polygon.{refused}
use Rattle.shape_definitions.specs.Boxes.{box_corners, box_normals, box_with, b2_polygon_shape_set_as_box}
use Rattle.algebra.proofs.Booleans.{chosen, unchosen}
use Rattle.shapes.proofs.b2_polygon_shape.b2_polygon_shape_set_as_box.Goals as goal

pub returns-then-not-hx_in-hy_in : goal.returns-then-not-hx_in-hy_in
unfolding b2_polygon_shape_set_as_box
returns-then-not-hx_in-hy_in c =
    let args = c.args in
    let both = c.coordinate_in_range-hx_in.result && c.coordinate_in_range-hy_in.result in
    unchosen (coordinate_in_range args.hx && coordinate_in_range args.hy) both _ _ c.if-not-hx_in-hy_in.true
    (simp (c.coordinate_in_range-hy_in.ensures, c.coordinate_in_range-hx_in.ensures))

pub returns : goal.returns
unfolding b2_polygon_shape_set_as_box
returns c =
    let args = c.args in
    let both = c.coordinate_in_range-hx_in.result && c.coordinate_in_range-hy_in.result in
    c.box_with.ensures
    ∙ chosen (coordinate_in_range args.hx && coordinate_in_range args.hy) both
    (box_with args.old origin (box_corners args.hx args.hy) box_normals)
    (refused shape_out_of_range args.old) c.if-not-hx_in-hy_in.false
    (simp (c.coordinate_in_range-hy_in.ensures, c.coordinate_in_range-hx_in.ensures))
