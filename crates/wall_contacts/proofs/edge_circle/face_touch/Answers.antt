-- By the tests on the way. Assumes nothing.
use mathlib.Core.Path.{sym, ◌∙◌, ap}
use lib.Ieee.{lt}
use Rattle.rounding.specs.Literals.{zero32}
use Rattle.contact_definitions.specs.B2CollideCircle.{farther}
use Rattle.wall_contacts.specs.EdgeCircle.{face_touch}
use Rattle.wall_contacts.proofs.Regions.{foot_is}
use Rattle.wall_contacts.proofs.edge_circle.face_touch.Goals as goal

pub returns-then-farther_than : goal.returns-then-farther_than
unfolding face_touch
returns-then-farther_than c =
    let farther' = c.farther_than in
    let b2_scale3' = c.b2_scale-p in
    let b2_add' = c.b2_add in
    let b2_scale2' = c.b2_scale-then-den in
    let b2_scale' = c.b2_scale in
    let if1' = c.if-den in
    let b2_dot' = c.b2_dot-den in
    let args' = c.args in
    let foot = foot_is _ args'.a args'.b _ _ _ _ _ _ _ b2_dot'.ensures b2_scale'.ensures
    b2_scale2'.ensures b2_add'.ensures b2_scale3'.ensures in
    let test = farther'.ensures ∙ ap (farther args'.radius args'.q) foot in
    let long = sym (ap (lt zero32) b2_dot'.ensures) ∙ if1'.true in
    simp (long, sym test ∙ c.if-farther_than.true)

pub returns-then-den : goal.returns-then-den
unfolding face_touch
returns-then-den c =
    let facing' = c.facing in
    let if2' = c.if-farther_than in
    let farther' = c.farther_than in
    let b2_scale3' = c.b2_scale-p in
    let b2_add' = c.b2_add in
    let b2_scale2' = c.b2_scale-then-den in
    let b2_scale' = c.b2_scale in
    let if1' = c.if-den in
    let b2_dot' = c.b2_dot-den in
    let args' = c.args in
    let foot = foot_is _ args'.a args'.b _ _ _ _ _ _ _ b2_dot'.ensures b2_scale'.ensures
    b2_scale2'.ensures b2_add'.ensures b2_scale3'.ensures in
    let test = farther'.ensures ∙ ap (farther args'.radius args'.q) foot in
    let long = sym (ap (lt zero32) b2_dot'.ensures) ∙ if1'.true in
    simp (long, sym test ∙ if2'.false, c.unit-normal.ensures, facing'.ensures)

pub returns : goal.returns
unfolding face_touch
returns c =
    let b2_dot' = c.b2_dot-den in
    simp (sym (ap (lt zero32) b2_dot'.ensures) ∙ c.if-den.false)
