-- By what the clipping leaves. Assumes nothing.
use mathlib.Core.Path.{◌∙◌, ap}
use Rattle.floats.specs.declared.b2_math.B2vec2.{B2vec2}
use Rattle.floats.specs.B2Math.{b2_scale, b2_normalize, unit_or_same}
use Rattle.rounding.specs.Literals.{half32}
use Rattle.outline_contacts.proofs.Written.{only_the_kind, with_its_points}
use Rattle.outline_contacts.proofs.b2_collide_polygon.collide_face.Goals as goal

pub returns-then-c-lt2 : goal.returns-then-c-lt2
returns-then-c-lt2 c =
    let if1 = c.if-c-lt2 in
    let clip_to_sides = c.clip_to_sides-c in
    let incident_ends = c.incident_ends-ends in
    let placed_face = c.placed_face-face in
    let unit = c.unit-local_tangent in
    let b2_sub = c.b2_sub in
    let args = c.args in
    only_the_kind args.m args.f args.total_radius _ _ _ _
    (unit.ensures ∙ ap (λ (v : B2vec2). unit_or_same (b2_normalize v)) b2_sub.ensures)
    placed_face.ensures incident_ends.ensures clip_to_sides.ensures if1.true _ c.only_kind.ensures

pub returns : goal.returns
returns c =
    let b2_scale' = c.b2_scale in
    let b2_add = c.b2_add in
    let b2_cross_vec_by_scalar = c.b2_cross_vec_by_scalar in
    let kept_points = c.kept_points-k in
    let placed_end2 = c.placed_end-w1 in
    let placed_end = c.placed_end-w0 in
    let within_skins2 = c.within_skins-near1 in
    let within_skins = c.within_skins-near0 in
    let if1 = c.if-c-lt2 in
    let clip_to_sides = c.clip_to_sides-c in
    let incident_ends = c.incident_ends-ends in
    let placed_face = c.placed_face-face in
    let unit = c.unit-local_tangent in
    let b2_sub = c.b2_sub in
    let args = c.args in
    with_its_points args.m args.f args.total_radius _ _ _ _
    (unit.ensures ∙ ap (λ (v : B2vec2). unit_or_same (b2_normalize v)) b2_sub.ensures) placed_face.ensures
    incident_ends.ensures clip_to_sides.ensures if1.false _ _ _ _ _ _ _ _ _
    within_skins.ensures within_skins2.ensures
    placed_end.ensures placed_end2.ensures kept_points.ensures b2_cross_vec_by_scalar.ensures
    (b2_scale'.ensures ∙ ap (b2_scale half32) b2_add.ensures) c.kind_of.ensures
