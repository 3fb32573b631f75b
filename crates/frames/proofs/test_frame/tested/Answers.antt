-- Refused by the contact, by its world points, or answered. Assumes nothing.
use Rattle.frames.proofs.Tested.{answered, contact_refused, points_refused}
use Rattle.frames.proofs.test_frame.tested.Goals as goal

pub returns-in-Err : goal.returns-in-Err
returns-in-Err c =
    let args = c.args in
    contact_refused args.ida args.idb args.a args.b args.kept c.refused.result _ c.refused.ensures.why _
    c.default_manifold.ensures c.in-Err.ensures c.refused.ensures.made

pub returns-in-Err-world_points_of : goal.returns-in-Err-world_points_of
returns-in-Err-world_points_of c =
    let args = c.args in
    points_refused args.ida args.idb args.a args.b args.kept c.refused-in-Err-world_points_of.result _
    c.refused-in-Err-world_points_of.ensures.why _ c.in-Ok.ensures c.in-Err-world_points_of.ensures
    c.refused-in-Err-world_points_of.ensures.made

pub returns : goal.returns
returns c =
    let args = c.args in
    answered args.ida args.idb args.a args.b args.kept _ _ _ c.in-Ok.ensures c.in-Ok-world_points_of.ensures
    c.made_of.ensures
