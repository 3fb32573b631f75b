-- All but the second point, then that one. Assumes nothing.
use Rattle.collision.proofs.WorldRanges.{numbers_out, one_in, second_decides}
use Rattle.collision.proofs.b2_world_manifold.numbers_in_range.Goals as goal

pub returns-then-not-normal-point : goal.returns-then-not-normal-point
returns-then-not-normal-point c =
    let size = c.well_formed.0.1.1.0.1.0.1 in
    numbers_out c.args.m _ size c.requires.0 c.requires.1 _ _ _ _ _ _ _
    c.local_normal_in_range-normal.ensures c.contact_point_in_range-point.ensures
    c.contact_point_in_range-first.ensures c.radius_in_range-a_in.ensures c.radius_in_range-b_in.ensures
    (c.if-not-normal-point.true)

pub returns-then-m-eq1 : goal.returns-then-m-eq1
returns-then-m-eq1 c =
    let size = c.well_formed.0.1.1.0.1.0.1 in
    one_in c.args.m _ size c.requires.0 c.requires.1 _ _ _ _ _ _ _
    c.local_normal_in_range-normal.ensures c.contact_point_in_range-point.ensures
    c.contact_point_in_range-first.ensures c.radius_in_range-a_in.ensures c.radius_in_range-b_in.ensures
    (c.if-not-normal-point.false) c.if-m-eq1.true

pub returns : goal.returns
returns c =
    let size = c.well_formed.0.1.1.0.1.0.1 in
    second_decides c.args.m _ size c.requires.0 c.requires.1 _ _ _ _ _ _ _
    c.local_normal_in_range-normal.ensures c.contact_point_in_range-point.ensures
    c.contact_point_in_range-first.ensures c.radius_in_range-a_in.ensures c.radius_in_range-b_in.ensures _ _
    (c.if-not-normal-point.false) c.if-m-eq1.false c.contact_point_in_range.ensures
