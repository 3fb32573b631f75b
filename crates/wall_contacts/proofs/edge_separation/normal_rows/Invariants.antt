-- The places below i are filled, whatever points the rows hold. Assumes nothing.
use Prim.Native.Nat.{ℕ}
use Rattle.floats.specs.declared.b2_math.B2vec2.{B2vec2}
use Rattle.floats.specs.B2Math.{b2_mul_rot_by_vec2}
use Rattle.shape_definitions.specs.Outline.{point_at}
use Rattle.wall_contacts.specs.PlacedRows.{Row, PointRows, face_distance}
use Rattle.wall_contacts.proofs.edge_separation.normal_rows.Given as goal

abbrev pub invariant-loop-i : goal.invariant-loop-i
invariant-loop-i l =
    PointRows (λ k. b2_mul_rot_by_vec2 l.q (point_at l.ns k)) l.i l.normals.xs l.normals.ys
    × ((corner : ℕ → B2vec2) → PointRows corner l.n l.corners.xs l.corners.ys
    → Row (λ k. face_distance (b2_mul_rot_by_vec2 l.q (point_at l.ns k)) (corner k) l.v1 l.v2) l.i l.faces)
