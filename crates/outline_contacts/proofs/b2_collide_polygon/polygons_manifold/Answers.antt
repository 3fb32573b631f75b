-- By the axis. Assumes nothing.
use mathlib.Core.Path.{◌∙◌}
use lib.Ieee.{binary32, add}
use Rattle.outline_contacts.proofs.Axes.{when_apart, on_face_of_a, on_face_of_b}
use Rattle.outline_contacts.proofs.b2_collide_polygon.polygons_manifold.Goals as goal
use Rattle.outline_contacts.proofs.b2_collide_polygon.polygons_manifold.Goals.{in-FaceA, in-FaceB}

pub returns-in-Apart : goal.returns-in-Apart
returns-in-Apart c =
    let polygons_axis = c.polygons_axis-axis in
    let args = c.args in
    when_apart args.m (add binary32 args.pa.m_radius args.pb.m_radius) args.pa args.xa args.pb
    args.xb _ polygons_axis.ensures.0 _ c.in-Apart.is _ c.no_points.ensures

pub returns : goal.returns
returns c =
    let polygons_axis = c.polygons_axis-axis in
    let args = c.args in
    let total = add binary32 args.pa.m_radius args.pb.m_radius in
    elim c.match-axis.branch [
      | in-FaceA w ↦ on_face_of_a args.m total args.pa args.xa args.pb args.xb _ polygons_axis.ensures.0
          _ _ _ _ _ _ c.collide_face.ensures w.in-FaceA.is polygons_axis.ensures.1
          (w.f-is ∙ w.face_of-f.ensures)
      | in-FaceB w ↦ on_face_of_b args.m total args.pa args.xa args.pb args.xb _ polygons_axis.ensures.0
          _ _ _ _ _ _ c.collide_face.ensures w.in-FaceB.is polygons_axis.ensures.1
          (w.f-is ∙ w.face_of-f-in-FaceB.ensures)
    ]
