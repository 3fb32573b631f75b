-- Radii, the wall's ends and the place, then the wall's ghost points. Assumes nothing.
use Rattle.collision.proofs.PairTests.{ghosts_count, ghosts_pass, wall_fails, wall_holds}
use Rattle.collision.proofs.pair_ranges.edge_and_head_in_range.Goals as goal

pub returns-then-not-radii-ends : goal.returns-then-not-radii-ends
returns-then-not-radii-ends c =
    let args = c.args in
    wall_fails args.a args.radius args.x args.y _ _ _ _ c.radii_in_range-radii.ensures
    c.four_in_range-ends.ensures
    c.coordinate_in_range-x_in.ensures c.coordinate_in_range-y_in.ensures c.if-not-radii-ends.true

pub returns-then-a : goal.returns-then-a
returns-then-a c =
    let args = c.args in
    wall_holds args.a args.radius args.x args.y _ _ _ _ c.radii_in_range-radii.ensures
    c.four_in_range-ends.ensures
    c.coordinate_in_range-x_in.ensures c.coordinate_in_range-y_in.ensures _
    (ghosts_count args.a _ c.if-a.true c.four_in_range.ensures) c.if-not-radii-ends.false

pub returns : goal.returns
returns c =
    let args = c.args in
    wall_holds args.a args.radius args.x args.y _ _ _ _ c.radii_in_range-radii.ensures
    c.four_in_range-ends.ensures
    c.coordinate_in_range-x_in.ensures c.coordinate_in_range-y_in.ensures _ (ghosts_pass args.a c.if-a.false)
    c.if-not-radii-ends.false
