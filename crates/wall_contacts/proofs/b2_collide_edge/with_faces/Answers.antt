-- The axis found is that of the definition. Assumes nothing.
use mathlib.Core.Path.{refl, ◌∙◌, ap}
use native.Mathlib.Omega.{arith}
use Rattle.contact_definitions.specs.Manifold.{with_count}
use Rattle.contact_definitions.specs.EdgeAxis.{primary_axis}
use Rattle.wall_contacts.proofs.RowsFilled.{row_fewer, points_fewer}
use Rattle.wall_contacts.proofs.FacePlaces.{found_place}
use Rattle.wall_contacts.proofs.AxisFound.{normals_placed, faces_placed}
use Rattle.wall_contacts.proofs.Manifolds.{on_found}
use Rattle.wall_contacts.proofs.b2_collide_edge.with_faces.Goals as goal

pub edge_manifold_on-requires : goal.edge_manifold_on-requires
edge_manifold_on-requires c =
    let args = c.args in
    let few = c.requires.1 in
    let rows = c.normal_rows.ensures in
    let faces = row_fewer few (faces_placed args.xf args.polygon _ _ (rows.1 _ c.requires.4)) in
    let normals = points_fewer few (normals_placed args.xf args.polygon rows.0) in
    let face_is = c.b2_compute_polygon_separation-face.ensures args.xf args.polygon _ _ refl faces normals in
    let axis_is = c.edge_polygon_axis-axis.ensures.1 args.radius args.xf args.polygon c.requires.3
    (c.primary_axis.ensures ∙ ap (primary_axis args.radius _) face_is) in (
      c.requires.0,
      omega arith,
      found_place args.xf args.polygon _ args.edge _ _ c.requires.0 axis_is,
      points_fewer few c.requires.4,
      normals,
    )

pub returns : goal.returns
returns c =
    let args = c.args in
    let few = c.requires.1 in
    let rows = c.normal_rows.ensures in
    let faces = row_fewer few (faces_placed args.xf args.polygon _ _ (rows.1 _ c.requires.4)) in
    let normals = points_fewer few (normals_placed args.xf args.polygon rows.0) in
    let face_is = c.b2_compute_polygon_separation-face.ensures args.xf args.polygon _ _ refl faces normals in
    let axis_is = c.edge_polygon_axis-axis.ensures.1 args.radius args.xf args.polygon c.requires.3
    (c.primary_axis.ensures ∙ ap (primary_axis args.radius _) face_is) in
    on_found (with_count args.m 0) args.edge args.edge1 args.xf args.polygon args.radius _ _
    axis_is c.edge_manifold_on.ensures
