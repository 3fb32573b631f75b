-- 7 of either, then by the ranges, or accepted. Assumes nothing.
use mathlib.Core.Path.{refl, sym, ◌∙◌, ap₂}
use mathlib.Core.Bool.{◌||◌}
use lib.Ieee.{binary32, add}
use Rattle.contact_definitions.specs.Manifold.{with_count}
use Rattle.contact_definitions.specs.B2CollidePolygon.{polygons_manifold, b2_collide_polygons}
use Rattle.collision.proofs.Refused.{made_in_range, not_in_range, count_refused, count_taken}
use Rattle.outline_contacts.proofs.b2_collide_polygon.b2_collide_polygons.Goals as goal

pub returns-then-wrong_a-wrong_b : goal.returns-then-wrong_a-wrong_b
unfolding b2_collide_polygons
returns-then-wrong_a-wrong_b c =
    count_refused _ _ _ (sym (ap₂ ◌||◌ c.miscounted-wrong_a.ensures c.miscounted-wrong_b.ensures)
    ∙ c.if-wrong_a-wrong_b.true)

pub returns-then-shapes-placed : goal.returns-then-shapes-placed
unfolding b2_collide_polygons
returns-then-shapes-placed c =
    let args = c.args in
    count_taken _ _ _ _ (sym (ap₂ ◌||◌ c.miscounted-wrong_a.ensures c.miscounted-wrong_b.ensures)
    ∙ c.if-wrong_a-wrong_b.false)
    (made_in_range _ _ _ _ _ _ _ c.polygons_in_range-shapes.ensures c.placements_in_range-placed.ensures _
    (polygons_manifold (with_count args.m 0) (add binary32 args.a.m_radius args.b.m_radius) args.a
    args.xfa args.b args.xfb) refl c.if-shapes-placed.true c.polygons_manifold.ensures)

pub returns : goal.returns
unfolding b2_collide_polygons
returns c =
    count_taken _ _ _ _ (sym (ap₂ ◌||◌ c.miscounted-wrong_a.ensures c.miscounted-wrong_b.ensures)
    ∙ c.if-wrong_a-wrong_b.false)
    (not_in_range _ _ _ _ _ _ _ c.polygons_in_range-shapes.ensures c.placements_in_range-placed.ensures _
    c.if-shapes-placed.false
    c.out_of_range.ensures)
