-- By whether the axis says apart; then the calls, last first. Assumes nothing.
use mathlib.Core.Path.{sym, ◌∙◌, ap}
use Rattle.contact_definitions.specs.EdgeAxis.{gauss_region, in_region}
use Rattle.wall_contacts.proofs.Smoothing.{smoothed_apart, smoothed_face}
use Rattle.wall_contacts.proofs.edge_axis.smoothed.Goals as goal

pub returns-then-is_apart : goal.returns-then-is_apart
returns-then-is_apart c =
    let is_apart' = c.is_apart in
    let args' = c.args in
    smoothed_apart args'.edge args'.edge1 args'.edge_axis args'.axis
    (sym is_apart'.ensures ∙ c.if-is_apart.true)

pub returns : goal.returns
returns c =
    let gauss_region' = c.gauss_region in
    let axis_normal' = c.axis_normal in
    let if1' = c.if-is_apart in
    let is_apart' = c.is_apart in
    let args' = c.args in
    c.in_region.ensures
    ∙ ap (λ region. in_region region args'.edge_axis args'.axis)
    (gauss_region'.ensures ∙ ap (gauss_region args'.edge args'.edge1) axis_normal'.ensures)
    ∙ smoothed_face args'.edge args'.edge1 args'.edge_axis args'.axis
    (sym is_apart'.ensures ∙ if1'.false)
