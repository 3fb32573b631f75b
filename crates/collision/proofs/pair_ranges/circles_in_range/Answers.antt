-- Radii and centres of both. Assumes nothing.
use Rattle.shape_definitions.specs.Circle.{circle_in_range}
use Rattle.collision.proofs.PairTests.{heads}
use Rattle.collision.proofs.pair_ranges.circles_in_range.Goals as goal

pub returns : goal.returns
unfolding circle_in_range
returns c =
    let a = c.args.a in
    let b = c.args.b in
    heads a.m_radius b.m_radius a.m_p b.m_p _ _ c.radii_in_range-radii.ensures
    c.four_in_range-centres.ensures
