-- The first point over its place, the second by the count; the normal by the parameter. Assumes nothing.
use borrow.Author.Tests.{ne_eqb}
use Rattle.collision.proofs.WorldOfFaces.{face_is}
use Rattle.collision.proofs.world_points.world_of_face.Goals as goal
use Rattle.collision.proofs.world_points.world_of_face.Goals.{then-this-ne0, else-this-ne0}

pub returns : goal.returns
returns g c =
    let good = c.well_formed in
    let m_two = good.1.0.1.1.0.1.0.1 in
    let points_two = good.0.1.1.1.0.1.0.1 in
    let separations_two = good.0.1.1.1.1.0.1.0.1 in
    face_is _ c.args.old c.args.m _ _ _ _ _ m_two points_two separations_two c.requires.0
    c.requires.1 _ _ _ _ _ _ c.b2_mul_rot_by_vec2-normal.ensures c.b2_mul_transform_by_vec2-plane.ensures
    c.b2_mul_transform_by_vec2-carried.ensures c.face_point-first.ensures c.second_point-second.ensures
    (elim c.if-this-ne0.branch [
      | then-this-ne0 w ↦ simp (ne_eqb _ _ w.if-this-ne0.true, w.result-is, w.b2_neg.ensures)
      | else-this-ne0 w ↦ simp (w.if-this-ne0.false, w.result-is)
    ])
