-- Radii and centroids of both, then the points of both. Assumes nothing.
use Rattle.collision.proofs.PairTests.{both_fail, both_hold}
use Rattle.collision.proofs.pair_ranges.polygons_in_range.Goals as goal

pub returns-then-not-radii-centres : goal.returns-then-not-radii-centres
returns-then-not-radii-centres c =
    both_fail c.args.a c.args.b _ _ c.radii_in_range-radii.ensures
    c.four_in_range-centres.ensures c.if-not-radii-centres.true

pub returns : goal.returns
returns c =
    both_hold c.args.a c.args.b _ _ c.radii_in_range-radii.ensures
    c.four_in_range-centres.ensures _ c.points_of_both.ensures c.if-not-radii-centres.false
