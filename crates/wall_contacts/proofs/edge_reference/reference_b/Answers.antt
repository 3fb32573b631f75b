-- From the parts. Assumes nothing.
use Rattle.wall_contacts.proofs.References.{face_reference_is}
use Rattle.wall_contacts.proofs.edge_reference.reference_b.Goals as goal

pub returns : goal.returns
returns c =
    let clip_vertex' = c.clip_vertex in
    let face_between' = c.face_between in
    let b2_neg' = c.b2_neg in
    let row_point3' = c.row_point-normal in
    let row_point2' = c.row_point-w2 in
    let row_point' = c.row_point-w1 in
    let after' = c.after-i2 in
    let pre' = c.requires in
    let next = after'.ensures in
    λ xf poly count_is corners normals.
    face_reference_is xf poly _ _ _ count_is _ _ _ _ _ _ _ _ _ _ _ next.1
    (row_point'.ensures _ _ pre'.0 corners) (row_point2'.ensures _ _ next.0 corners)
    (row_point3'.ensures _ _ pre'.0 normals) b2_neg'.ensures face_between'.ensures
    clip_vertex'.ensures c.clip_vertex-2.ensures
