-- What the scan keeps from here is what it keeps of all places; best is the value of the one kept. Assumes nothing.
use mathlib.Core.Path.{◌≡◌}
use Prim.Native.Nat.{ℕ, ◌<◌}
use Rattle.floats.specs.declared.b2_math.B2vec2.{B2vec2}
use Rattle.floats.specs.declared.b2_math.B2Transform.{B2Transform}
use Rattle.shape_definitions.specs.declared.b2_polygon_shape.B2polygonShape.{B2polygonShape}
use Rattle.contact_definitions.specs.EdgeAxis.{placed_normal}
use Rattle.contact_definitions.specs.EdgeReference.{most_against}
use Rattle.wall_contacts.specs.PlacedRows.{PointRows}
use Rattle.wall_contacts.proofs.Against.{dot_at, against_from}
use Rattle.wall_contacts.proofs.edge_reference.most_against.Given as goal

abbrev pub invariant-loop-i : goal.invariant-loop-i
invariant-loop-i l =
    (l.index < l.count)
    × ((corner : ℕ → B2vec2) → PointRows corner l.count l.corners.xs l.corners.ys → l.v ≡ corner l.index)
    × ((xf : B2Transform) (poly : B2polygonShape) → poly.m_count ≡ l.count
    → PointRows (placed_normal xf poly) l.count l.normals.xs l.normals.ys
    → (l.best ≡ dot_at xf poly l.n l.index) × (against_from xf poly l.n l.index l.i l.count ≡ most_against xf poly l.n))
