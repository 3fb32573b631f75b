-- Accepted, or by the ranges. Assumes nothing.
use mathlib.Core.Path.{refl}
use Rattle.contact_definitions.specs.Manifold.{with_count}
use Rattle.contact_definitions.specs.B2CollideCircle.{circles_manifold, b2_collide_circles}
use Rattle.collision.proofs.Refused.{made_in_range, not_in_range}
use Rattle.circle_contacts.proofs.b2_collide_circle.b2_collide_circles.Goals as goal

pub returns-then-shapes-placed : goal.returns-then-shapes-placed
unfolding b2_collide_circles
returns-then-shapes-placed c =
    let args = c.args in
    made_in_range _ _ _ _ _ _ _ c.circles_in_range-shapes.ensures c.placements_in_range-placed.ensures _
    (circles_manifold (with_count args.m 0) args.a args.xfa args.b args.xfb) refl c.if-shapes-placed.true c.circles_manifold.ensures

pub returns : goal.returns
unfolding b2_collide_circles
returns c =
    not_in_range _ _ _ _ _ _ _ c.circles_in_range-shapes.ensures
    c.placements_in_range-placed.ensures _ c.if-shapes-placed.false
    c.out_of_range.ensures
