-- The least distances of both sides, from the rows of distances. Assumes nothing.
use Prim.Native.Nat.{◌≤◌}
use Rattle.wall_contacts.proofs.RowsFilled.{row_fewer}
use Rattle.wall_contacts.proofs.EdgeSide.{edge_separation_from}
use native.Mathlib.Omega.{arith}
use Rattle.wall_contacts.proofs.edge_separation.b2_compute_edge_separation.Goals as goal

pub returns : goal.returns
returns c =
    let least_of' = c.least_of in
    let side_rows' = c.side_rows in
    let args' = c.args in
    λ xf poly count_is rows.
    let count : args'.count ≤ args'.n = omega arith in
    let distances = side_rows'.ensures _ rows in
    let least = least_of'.ensures _ _ (row_fewer count distances.0) (row_fewer count distances.1) in
    edge_separation_from xf poly _ _ _ _ _ _ count_is least.0 least.1 c.farther_side.ensures
