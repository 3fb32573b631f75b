-- 7, then by the ranges, or accepted. Assumes nothing.
use mathlib.Core.Path.{refl, sym, ◌∙◌}
use Rattle.contact_definitions.specs.B2CollideEdge.{b2_collide_edge_and_polygon}
use Rattle.collision.proofs.Refused.{made_in_range, not_in_range, count_refused, count_taken}
use Rattle.wall_contacts.proofs.Manifolds.{at_placement}
use Rattle.wall_contacts.proofs.b2_collide_edge.b2_collide_edge_and_polygon.Goals as goal

pub returns-then-miscounted : goal.returns-then-miscounted
unfolding b2_collide_edge_and_polygon
returns-then-miscounted c =
    count_refused _ _ _ (sym c.miscounted.ensures ∙ c.if-miscounted.true)

pub returns-then-shapes-placed : goal.returns-then-shapes-placed
unfolding b2_collide_edge_and_polygon
returns-then-shapes-placed c =
    let given = c.args in
    count_taken _ _ _ _ (sym c.miscounted.ensures ∙ c.if-miscounted.false)
    (made_in_range _ _ _ _ _ _ _ c.edge_polygon_in_range-shapes.ensures c.placements_in_range-placed.ensures _ _
    refl c.if-shapes-placed.true
    (at_placement given.m given.a _ _ given.b _ c.b2_mul_t_transform-xf.ensures
    c.edge_polygon_manifold.ensures))

pub returns : goal.returns
unfolding b2_collide_edge_and_polygon
returns c =
    count_taken _ _ _ _ (sym c.miscounted.ensures ∙ c.if-miscounted.false)
    (not_in_range _ _ _ _ _ _ _ c.edge_polygon_in_range-shapes.ensures c.placements_in_range-placed.ensures _
    c.if-shapes-placed.false
    c.out_of_range.ensures)
