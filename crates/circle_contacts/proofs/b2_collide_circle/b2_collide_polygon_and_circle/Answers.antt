-- 7, then by the ranges, or accepted. Assumes nothing.
use mathlib.Core.Path.{refl, sym, ◌∙◌}
use Rattle.contact_definitions.specs.B2CollideCircle.{b2_collide_polygon_and_circle}
use Rattle.circle_contacts.specs.Meetings.{outline_circle}
use Rattle.collision.proofs.Refused.{made_in_range, not_in_range, count_refused, count_taken}
use Rattle.circle_contacts.proofs.b2_collide_circle.b2_collide_polygon_and_circle.Goals as goal

pub returns-then-miscounted : goal.returns-then-miscounted
unfolding b2_collide_polygon_and_circle
returns-then-miscounted c =
    count_refused _ _ _ (sym c.miscounted.ensures ∙ c.if-miscounted.true)

pub returns-then-shapes-placed : goal.returns-then-shapes-placed
unfolding b2_collide_polygon_and_circle
returns-then-shapes-placed c =
    let args = c.args in
    count_taken _ _ _ _ (sym c.miscounted.ensures ∙ c.if-miscounted.false)
    (made_in_range _ _ _ _ _ _ _ c.polygon_circle_in_range-shapes.ensures c.placements_in_range-placed.ensures _
    (outline_circle args.m args.a args.xfa args.b args.xfb) refl c.if-shapes-placed.true c.polygon_circle_manifold.ensures)

pub returns : goal.returns
unfolding b2_collide_polygon_and_circle
returns c =
    count_taken _ _ _ _ (sym c.miscounted.ensures ∙ c.if-miscounted.false)
    (not_in_range _ _ _ _ _ _ _ c.polygon_circle_in_range-shapes.ensures c.placements_in_range-placed.ensures _
    c.if-shapes-placed.false
    c.out_of_range.ensures)
