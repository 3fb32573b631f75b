-- By the regions. Assumes nothing.
use mathlib.Core.Path.{refl, sym, ◌∙◌, ap}
use mathlib.Core.Bool.{◌&&◌}
use lib.Ieee.{Float, lt}
use Rattle.rounding.specs.Literals.{zero32}
use Rattle.floats.specs.B2Math.{b2_dot}
use Rattle.wall_contacts.proofs.Regions.{touch_behind, touch_before, touch_end1, touch_after, touch_end2}
use Rattle.wall_contacts.proofs.Regions.{touch_middle}
use Rattle.wall_contacts.proofs.edge_circle.wall_touch.Goals as goal

pub returns-then-behind : goal.returns-then-behind
returns-then-behind c =
    let args = c.args in
    λ old centre.
    touch_behind old args.edge centre args.q _ _ args.radius _ _ _ c.b2_sub-e.ensures
    c.b2_sub-qa.ensures refl refl refl (sym c.behind.ensures ∙ c.if-behind.true)

pub returns-then-over_before : goal.returns-then-over_before
returns-then-over_before c =
    let if2 = c.if-v in
    let v_is = c.b2_dot-v.ensures in
    let u_is = c.b2_dot-u.ensures
    ∙ ap (b2_dot _) c.b2_sub.ensures in
    let if1 = c.if-behind in
    let behind = c.behind in
    let args = c.args in
    let e_is = c.b2_sub-e.ensures in
    let front = sym behind.ensures ∙ if1.false in
    λ old centre.
    touch_before old args.edge centre args.q _ _ _ _ _ _ e_is c.b2_sub-qa.ensures refl u_is v_is front
    if2.true (sym c.over_before.ensures ∙ c.if-over_before.true)

pub returns-then-v : goal.returns-then-v
returns-then-v c =
    let if2 = c.if-v in
    let v_is = c.b2_dot-v.ensures in
    let u_is = c.b2_dot-u.ensures
    ∙ ap (b2_dot _) c.b2_sub.ensures in
    let if1 = c.if-behind in
    let behind = c.behind in
    let args = c.args in
    let e_is = c.b2_sub-e.ensures in
    let front = sym behind.ensures ∙ if1.false in
    λ old centre.
    touch_end1 old args.edge centre args.q _ _ _ _ _ _ e_is c.b2_sub-qa.ensures refl u_is v_is front
    _ if2.true (sym c.over_before.ensures ∙ c.if-over_before.false) c.end_touch.ensures

pub returns-then-over_after : goal.returns-then-over_after
returns-then-over_after c =
    let if2 = c.if-v in
    let v_is = c.b2_dot-v.ensures in
    let u_is = c.b2_dot-u.ensures
    ∙ ap (b2_dot _) c.b2_sub.ensures in
    let if1 = c.if-behind in
    let behind = c.behind in
    let args = c.args in
    let e_is = c.b2_sub-e.ensures in
    let front = sym behind.ensures ∙ if1.false in
    λ old centre.
    touch_after old args.edge centre args.q _ _ _ _ _ _ e_is c.b2_sub-qa.ensures refl u_is v_is front
    if2.false c.if-u.true (sym c.over_after.ensures ∙ c.if-over_after.true)

pub returns-then-u : goal.returns-then-u
returns-then-u c =
    let if2 = c.if-v in
    let v_is = c.b2_dot-v.ensures in
    let u_is = c.b2_dot-u.ensures
    ∙ ap (b2_dot _) c.b2_sub.ensures in
    let if1 = c.if-behind in
    let behind = c.behind in
    let args = c.args in
    let e_is = c.b2_sub-e.ensures in
    let front = sym behind.ensures ∙ if1.false in
    λ old centre.
    touch_end2 old args.edge centre args.q _ _ _ _ _ _ e_is c.b2_sub-qa.ensures refl u_is v_is front
    _ if2.false c.if-u.true
    (sym c.over_after.ensures ∙ c.if-over_after.false) c.end_touch-then-u.ensures

pub returns : goal.returns
returns c =
    let if2 = c.if-v in
    let v_is = c.b2_dot-v.ensures in
    let u_is = c.b2_dot-u.ensures
    ∙ ap (b2_dot _) c.b2_sub.ensures in
    let if1 = c.if-behind in
    let behind = c.behind in
    let args = c.args in
    let e_is = c.b2_sub-e.ensures in
    let front = sym behind.ensures ∙ if1.false in
    let offset_is = c.b2_dot.ensures in
    let one_sided = args.edge.m_one_sided in
    λ old centre.
    touch_middle old args.edge centre args.q _ _ _ _ _ _ e_is c.b2_sub-qa.ensures offset_is u_is v_is
    (ap (λ (offset : Float). one_sided && lt offset zero32) offset_is ∙ front)
    _ if2.false c.if-u.false c.face_touch.ensures
