-- What the scan keeps from here is what it keeps of all faces. Assumes nothing.
use mathlib.Core.Path.{◌≡◌}
use Rattle.floats.specs.declared.b2_math.B2vec2.{B2vec2}
use Rattle.floats.specs.declared.b2_math.B2Transform.{B2Transform}
use Rattle.shape_definitions.specs.declared.b2_polygon_shape.B2polygonShape.{B2polygonShape}
use Rattle.contact_definitions.specs.declared.axis.Axis.TheVariants.{FaceB}
use Rattle.contact_definitions.specs.EdgeAxis.{placed_corner, placed_normal}
use Rattle.contact_definitions.specs.EdgeAxis.{b2_compute_polygon_separation}
use Rattle.wall_contacts.specs.PlacedRows.{Row, PointRows, face_distance}
use Rattle.wall_contacts.proofs.FaceScan.{faces_from}
use Rattle.wall_contacts.proofs.edge_separation.b2_compute_polygon_separation.Given as goal

abbrev pub invariant-loop-i : goal.invariant-loop-i
invariant-loop-i l =
    (xf : B2Transform) (poly : B2polygonShape) (v1 v2 : B2vec2) → poly.m_count ≡ l.count
    → Row (λ k. face_distance (placed_normal xf poly k) (placed_corner xf poly k) v1 v2) l.count l.faces
    → PointRows (placed_normal xf poly) l.count l.normals.xs l.normals.ys
    → faces_from xf poly v1 v2 (FaceB l.separation l.x l.y l.place) l.i l.count ≡ b2_compute_polygon_separation xf poly v1 v2
