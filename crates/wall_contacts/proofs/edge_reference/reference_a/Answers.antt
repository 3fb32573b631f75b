-- From the parts. Assumes nothing.
use Rattle.wall_contacts.proofs.References.{wall_reference_is}
use Rattle.wall_contacts.proofs.edge_reference.reference_a.Goals as goal

pub returns : goal.returns
returns c =
    let clip_vertex' = c.clip_vertex in
    let face_between' = c.face_between in
    let b2_neg' = c.b2_neg in
    let row_point' = c.row_point-w2 in
    let after' = c.after-i2 in
    let most_against' = c.most_against-c in
    let most = most_against'.ensures in
    let next = after'.ensures in
    λ xf poly count_is corners normals.
    wall_reference_is xf poly _ _ _ count_is _ _ _ _ _ _ _ _ _ _ (most.2 xf poly count_is normals) next.1
    (most.1 _ corners) (row_point'.ensures _ _ next.0 corners) b2_neg'.ensures face_between'.ensures
    clip_vertex'.ensures c.clip_vertex-2.ensures
