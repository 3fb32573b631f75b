-- The shape numbers are in range, or not; then sine and cosine. Assumes nothing.
use mathlib.Core.Path.{◌≡◌, ◌∙◌, ap, ap₂}
use mathlib.Core.Bool.{Bool, false, not, ◌&&◌}
use mathlib.Core.List.{[], ◌∷◌, map}
use lib.Ieee.{Float}
use Rattle.floats.specs.declared.b2_math.B2vec2.{B2vec2}
use Rattle.floats.specs.declared.b2_math.B2Rot.{B2Rot}
use Rattle.floats.specs.B2Math.{b2_mul_rot_by_vec2, b2_mul_transform_by_vec2}
use Rattle.floats.specs.Ranges.{coordinate_in_range, point_in_range, rotation_in_range}
use Rattle.shape_definitions.specs.declared.b2_polygon_shape.B2polygonShape.{B2polygonShape}
use Rattle.shape_definitions.specs.Refusal.{shape_out_of_range, placement_out_of_range}
use Rattle.shape_definitions.specs.Polygon.{refused}
use Rattle.shape_definitions.specs.Boxes.{box_corners, box_normals, box_with, b2_polygon_shape_set_as_box_angle}
use Rattle.std.proofs.Common.{rules}
use Rattle.algebra.proofs.Booleans.{chosen, unchosen}
use Rattle.shapes.proofs.b2_polygon_shape.b2_polygon_shape_set_as_box_angle.Goals as goal

-- ---- both tests passed: outside and turned-too-far are their answers
box_built : (old : B2polygonShape) (hx hy : Float) (center : B2vec2) (q : B2Rot) (outside turned_too_far : Bool)
    → outside ≡ false → outside ≡ not (coordinate_in_range hx && coordinate_in_range hy && point_in_range center)
    → turned_too_far ≡ false → turned_too_far ≡ not (rotation_in_range q)
    → box_with old center (map (b2_mul_transform_by_vec2 (record { p = center; q = q })) (box_corners hx hy))
    (map (b2_mul_rot_by_vec2 q) box_normals)
    ≡ b2_polygon_shape_set_as_box_angle old hx hy center q
unfolding b2_polygon_shape_set_as_box_angle
box_built old hx hy center q outside turned_too_far inside outside_is turned turned_is =
    unchosen (not (rotation_in_range q)) turned_too_far (refused placement_out_of_range old) _ turned turned_is
    ∙ unchosen (not (coordinate_in_range hx && coordinate_in_range hy && point_in_range center)) outside
    (refused shape_out_of_range old) _ inside outside_is

pub returns-then-not-hx_in-hy_in : goal.returns-then-not-hx_in-hy_in
unfolding b2_polygon_shape_set_as_box_angle
returns-then-not-hx_in-hy_in c =
    let args = c.args in
    chosen (not (coordinate_in_range args.hx && coordinate_in_range args.hy && point_in_range args.center)) _
    _ _ (ap not c.if-not-hx_in-hy_in.true)
    (simp (
      c.point_in_range-center_in.ensures,
      c.coordinate_in_range-hy_in.ensures,
      c.coordinate_in_range-hx_in.ensures,
    ))

pub returns-then-not-rotation_in_range : goal.returns-then-not-rotation_in_range
unfolding b2_polygon_shape_set_as_box_angle
returns-then-not-rotation_in_range c =
    let args = c.args in
    chosen (not (rotation_in_range args.q)) _ _ _ (ap not c.if-not-rotation_in_range.true) (simp c.rotation_in_range.ensures)
    ∙ unchosen (not (coordinate_in_range args.hx && coordinate_in_range args.hy
    && point_in_range args.center)) _ _ _
    (ap not c.if-not-hx_in-hy_in.false)
    (simp (
      c.point_in_range-center_in.ensures,
      c.coordinate_in_range-hy_in.ensures,
      c.coordinate_in_range-hx_in.ensures,
    ))

-- four points, each of them f of another
four : (f : B2vec2 → B2vec2) (p q r s a b c d : B2vec2) → a ≡ f p → b ≡ f q → c ≡ f r → d ≡ f s
    → a ∷ b ∷ c ∷ d ∷ [] ≡ map f (p ∷ q ∷ r ∷ s ∷ [])
four f p q r s a b c d a_is b_is c_is d_is = simp (a_is, b_is, c_is, d_is)

pub returns : goal.returns
unfolding b2_polygon_shape_set_as_box_angle
returns c =
    let args = c.args in
    c.box_with.ensures
    ∙ ap₂ (box_with args.old args.center)
    (four (b2_mul_transform_by_vec2 (record { p = args.center; q = args.q })) _ _ _ _ _ _ _ _
    (search rules) (search rules) (search rules) (search rules))
    (four (b2_mul_rot_by_vec2 args.q) _ _ _ _ _ _ _ _
    (search rules) (search rules) (search rules) (search rules))
    ∙ box_built args.old args.hx args.hy args.center args.q _ _ (ap not c.if-not-hx_in-hy_in.false)
    (simp (
      c.point_in_range-center_in.ensures,
      c.coordinate_in_range-hy_in.ensures,
      c.coordinate_in_range-hx_in.ensures,
    ))
    (ap not c.if-not-rotation_in_range.false) (simp c.rotation_in_range.ensures)
