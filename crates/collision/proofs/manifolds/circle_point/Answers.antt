-- One point over the first place; the second stays. Assumes nothing.
use Rattle.contact_definitions.specs.Manifold.{with_local_point, with_one_point}
use Rattle.collision.proofs.CirclePoint.{with_first}
use Rattle.collision.proofs.manifolds.circle_point.Goals as goal

pub returns : goal.returns
unfolding with_one_point with_local_point
returns c =
    let args = c.args in
    let good = c.well_formed in
    let id = c.contact_id-id in
    let m = args.m in
    let m_two = good.0.1.1.0.1.0.1 in
    with_first m _ args.t _ _ args.centre _ _ id.ensures m_two
