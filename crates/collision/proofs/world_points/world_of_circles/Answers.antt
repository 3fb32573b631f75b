-- One point over the first place; the second stays. Assumes nothing.
use mathlib.Core.Path.{ap, ◌∙◌}
use Rattle.rounding.specs.Literals.{half32}
use Rattle.floats.specs.declared.b2_math.B2vec2.{B2vec2}
use Rattle.floats.specs.B2Math.{b2_add, b2_sub, b2_scale, b2_dot}
use Rattle.collision.proofs.WorldOfCircles.{circles_are}
use Rattle.collision.proofs.world_points.world_of_circles.Goals as goal

pub returns : goal.returns
returns c =
    let good = c.well_formed in
    let m_two = good.1.0.1.1.0.1.0.1 in
    let points_two = good.0.1.1.1.0.1.0.1 in
    let separations_two = good.0.1.1.1.1.0.1.0.1 in
    circles_are c.args.old c.args.m _ _ _ _ _ _ _ m_two points_two separations_two _ _ _ _ _ _ _
    c.b2_mul_transform_by_vec2-a.ensures c.b2_mul_transform_by_vec2-b.ensures c.circles_normal-normal.ensures
    (c.b2_add-on_a.ensures ∙ ap (b2_add _) c.b2_scale.ensures)
    (c.b2_sub-on_b.ensures ∙ ap (b2_sub _) c.b2_scale-2.ensures)
    (c.b2_scale-middle.ensures ∙ ap (b2_scale half32) c.b2_add.ensures)
    (c.b2_dot-separation.ensures
    ∙ ap (λ (v : B2vec2). b2_dot v c.circles_normal-normal.result) c.b2_sub.ensures)
