-- By the axis. Assumes nothing.
use mathlib.Core.Path.{refl, sym, ◌∙◌, ap, subst}
use native.Mathlib.Omega.{arith}
use lib.Ieee.{Float}
use Rattle.contact_definitions.specs.declared.axis.Axis.{Axis}
use Rattle.contact_definitions.specs.declared.b2_collision.B2manifold.{B2manifold}
use Rattle.wall_contacts.specs.declared.edge_reference.Reference.{Reference}
use Rattle.contact_definitions.specs.EdgeReference.{edge_manifold_on}
use Rattle.contact_definitions.specs.Manifold.{with_count}
use Rattle.wall_contacts.specs.Reference.{reference_manifold}
use Rattle.wall_contacts.specs.AxisParts.{place_below}
use Rattle.wall_contacts.proofs.References.{on_wall, on_face_read}
use Rattle.floats.specs.declared.b2_math.B2vec2.{B2vec2}
use Rattle.floats.specs.declared.b2_math.B2Transform.{B2Transform}
use Rattle.shape_definitions.specs.declared.b2_polygon_shape.B2polygonShape.{B2polygonShape}
use Rattle.shape_definitions.specs.declared.b2_edge_shape.B2edgeShape.{B2edgeShape}
use Rattle.wall_contacts.proofs.edge_manifold.edge_manifold_on.Goals as goal
use Rattle.wall_contacts.proofs.edge_manifold.edge_manifold_on.Goals.{in-FaceA, in-FaceB}

abbrev made : B2manifold → B2Transform → Float → Reference → B2manifold
made m xf radius f = reference_manifold f m xf radius

abbrev on : B2manifold → B2edgeShape → B2vec2 → B2Transform → B2polygonShape → Float → Axis → B2manifold
on m edge edge1 xf polygon radius axis = edge_manifold_on axis (with_count m 0) edge edge1 xf polygon radius

pub returns : goal.returns
returns c =
    let args = c.args in
    let pre = c.requires in
    let made' = made args.m args.xf args.radius in
    let on' = on args.m args.edge args.edge1 args.xf args.polygon args.radius in
    elim c.match-axis.branch [
      | in-FaceA w ↦
          c.reference_manifold.ensures ∙ ap made' (w.f-is ∙ w.reference_a-f.ensures args.xf args.polygon refl pre.3 pre.4)
          ∙ on_wall args.m args.edge args.xf args.polygon args.radius args.edge1 _
          ∙ ap on' (sym w.in-FaceA.is)
      | in-FaceB w ↦
          let below = subst (place_below args.polygon.m_count) w.in-FaceB.is pre.2 in
          let polygon = c.well_formed.1.1.1.1.1.0 in
          c.reference_manifold.ensures ∙ ap made' (w.f-is ∙ w.reference_b-f.ensures args.xf args.polygon refl pre.3 pre.4)
          ∙ on_face_read args.m args.edge args.xf args.polygon args.radius _ _ _ (omega arith) polygon.1.1.1.1.1.0.1.0.1 polygon.1.1.1.1.0.1.0.1
          ∙ ap on' (sym w.in-FaceB.is)
    ]
