-- Radii and centres of both, then the outline's points. Assumes nothing.
use Rattle.collision.proofs.PairTests.{with_circle_fails, with_circle_holds}
use Rattle.collision.proofs.pair_ranges.polygon_circle_in_range.Goals as goal

pub returns-then-not-radii-centres : goal.returns-then-not-radii-centres
returns-then-not-radii-centres c =
    with_circle_fails c.args.a c.args.b _ _ c.radii_in_range-radii.ensures
    c.four_in_range-centres.ensures c.if-not-radii-centres.true

pub returns : goal.returns
returns c =
    with_circle_holds c.args.a c.args.b _ _ c.radii_in_range-radii.ensures
    c.four_in_range-centres.ensures _ c.outline_points_in_range.ensures c.if-not-radii-centres.false
