-- The places below i are filled. Assumes nothing.
use Rattle.floats.specs.B2Math.{b2_mul_transform_by_vec2}
use Rattle.shape_definitions.specs.Outline.{point_at}
use Rattle.wall_contacts.specs.PlacedRows.{PointRows}
use Rattle.wall_contacts.proofs.edge_separation.place_rows.Given as goal

abbrev pub invariant-loop-i : goal.invariant-loop-i
invariant-loop-i l = PointRows (λ k. b2_mul_transform_by_vec2 l.xf (point_at l.vs k)) l.i l.corners.xs l.corners.ys
