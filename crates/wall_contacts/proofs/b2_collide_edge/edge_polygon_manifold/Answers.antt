-- Behind the wall, kept off by its own sides, or by the axis found with the outline's faces. Assumes nothing.
use mathlib.Core.Path.{refl, ◌∙◌, ap}
use Rattle.floats.specs.B2Math.{b2_normalize, unit_or_same}
use Rattle.contact_definitions.specs.Manifold.{with_count}
use Rattle.contact_definitions.specs.EdgeAxis.{right_of}
use Rattle.wall_contacts.proofs.AxisFound.{corners_placed, apart_found}
use Rattle.wall_contacts.proofs.Manifolds.{on_found, none_behind, in_front}
use Rattle.wall_contacts.proofs.b2_collide_edge.edge_polygon_manifold.Goals as goal

pub returns-then-centroid_behind : goal.returns-then-centroid_behind
returns-then-centroid_behind c =
    let args = c.args in
    let edge1_is = c.scaled-edge1.ensures ∙ ap (λ e. unit_or_same (b2_normalize e)) c.b2_sub.ensures in
    none_behind args.m args.edge _ args.xf args.polygon _ edge1_is
    c.centroid_behind.ensures _ c.if-centroid_behind.true c.no_points.ensures

pub returns-then-separation_of-radius : goal.returns-then-separation_of-radius
unfolding right_of
returns-then-separation_of-radius c =
    let args = c.args in
    let edge1_is = c.scaled-edge1.ensures ∙ ap (λ e. unit_or_same (b2_normalize e)) c.b2_sub.ensures in
    let wall_is = c.b2_compute_edge_separation-wall.ensures args.xf args.polygon refl
    (corners_placed args.xf args.polygon c.place_rows.ensures) in
    in_front args.m args.edge _ args.xf args.polygon _ edge1_is c.centroid_behind.ensures _ c.if-centroid_behind.false
    (on_found (with_count args.m 0) args.edge _ args.xf args.polygon _ _ _
    (apart_found args.edge _ args.xf args.polygon _ _ _ wall_is c.separation_of.ensures
    c.if-separation_of-radius.true) c.no_points-then-separation_of-radius.ensures)

pub with_faces-requires : goal.with_faces-requires
unfolding right_of
with_faces-requires c =
    let args = c.args in
    let few = c.padded-n.ensures in
    let wall_is = c.b2_compute_edge_separation-wall.ensures args.xf args.polygon refl
    (corners_placed args.xf args.polygon c.place_rows.ensures) in (
      c.requires.0,
      few.0,
      few.1,
      wall_is,
      corners_placed args.xf args.polygon c.place_rows.ensures,
    )

pub returns : goal.returns
returns c =
    let args = c.args in
    let edge1_is = c.scaled-edge1.ensures ∙ ap (λ e. unit_or_same (b2_normalize e)) c.b2_sub.ensures in
    in_front args.m args.edge _ args.xf args.polygon _ edge1_is c.centroid_behind.ensures _ c.if-centroid_behind.false
    c.with_faces.ensures
