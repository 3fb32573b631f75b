-- Answered, or by the ranges. Assumes nothing.
use Rattle.contact_definitions.specs.B2CollideEdge.{b2_collide_edge_and_circle}
use Rattle.collision.proofs.Refused.{all_in_range, not_in_range}
use Rattle.wall_contacts.specs.EdgeCircle.{wall_circle}
use Rattle.wall_contacts.proofs.b2_collide_edge.b2_collide_edge_and_circle.Goals as goal

pub returns-then-shapes-placed : goal.returns-then-shapes-placed
unfolding b2_collide_edge_and_circle
returns-then-shapes-placed c =
    let args = c.args in
    all_in_range _ _ _ _ (wall_circle args.m args.a args.xfa args.b args.xfb) _ _
    c.edge_circle_in_range-shapes.ensures c.placements_in_range-placed.ensures _ c.if-shapes-placed.true
    c.wall_circle_answer.ensures

pub returns : goal.returns
unfolding b2_collide_edge_and_circle
returns c =
    not_in_range _ _ _ _ _ _ _ c.edge_circle_in_range-shapes.ensures c.placements_in_range-placed.ensures
    _ c.if-shapes-placed.false
    c.out_of_range.ensures
