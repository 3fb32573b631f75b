-- The wall and what heads the outline, then the outline's points. Assumes nothing.
use Rattle.collision.proofs.PairTests.{by_wall_fails, by_wall_holds}
use Rattle.collision.proofs.pair_ranges.edge_polygon_in_range.Goals as goal

pub returns-then-not-edge_and_head_in_range : goal.returns-then-not-edge_and_head_in_range
returns-then-not-edge_and_head_in_range c =
    let args = c.args in
    by_wall_fails args.a args.b _ c.edge_and_head_in_range.ensures c.if-not-edge_and_head_in_range.true

pub returns : goal.returns
returns c =
    let args = c.args in
    by_wall_holds args.a args.b _ c.edge_and_head_in_range.ensures _ c.outline_points_in_range.ensures
    c.if-not-edge_and_head_in_range.false
