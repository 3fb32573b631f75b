-- The calls, last first. Assumes nothing.
use Rattle.wall_contacts.specs.PlacedRows.{face_distance}
use Rattle.wall_contacts.proofs.edge_separation.face_distance.Goals as goal

pub returns : goal.returns
unfolding face_distance
returns c =
    let b2_dot2' = c.b2_dot-2 in
    let b2_sub2' = c.b2_sub-2 in
    let b2_dot' = c.b2_dot in
    let b2_sub' = c.b2_sub in
    let b2_neg' = c.b2_neg-m in
    simp (
      c.b2_min.ensures,
      b2_dot2'.ensures,
      b2_sub2'.ensures,
      b2_dot'.ensures,
      b2_sub'.ensures,
      b2_neg'.ensures,
    )
