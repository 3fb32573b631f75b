-- Too far, or one point. Assumes nothing.
use Rattle.circle_contacts.proofs.CircleManifolds.{circles_far, circles_near}
use Rattle.circle_contacts.proofs.b2_collide_circle.circles_manifold.Goals as goal

pub returns-then-farther_than : goal.returns-then-farther_than
returns-then-farther_than c =
    circles_far _ _ _ _ _ _ _ _ c.b2_mul_transform_by_vec2-at_a.ensures
    c.b2_mul_transform_by_vec2-at_b.ensures
    c.farther_than.ensures _ c.if-farther_than.true c.no_points.ensures

pub returns : goal.returns
returns c =
    circles_near _ _ _ _ _ _ _ _ c.b2_mul_transform_by_vec2-at_a.ensures
    c.b2_mul_transform_by_vec2-at_b.ensures
    c.farther_than.ensures _ c.if-farther_than.false c.circle_point.ensures
