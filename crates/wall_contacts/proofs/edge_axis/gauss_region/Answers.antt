-- By the side that the normal leans to; then the calls, last first. Assumes nothing.
use mathlib.Core.Path.{sym, ◌∙◌, ap}
use lib.Ieee.{Float, le}
use Rattle.rounding.specs.Literals.{zero32}
use Rattle.contact_definitions.specs.EdgeAxis.{gauss_region}
use Rattle.wall_contacts.proofs.edge_axis.gauss_region.Goals as goal

pub returns-then-b2_dot : goal.returns-then-b2_dot
unfolding gauss_region
returns-then-b2_dot c =
    let unit' = c.unit-edge0 in
    let b2_sub' = c.b2_sub in
    let if1' = c.if-b2_dot in
    let b2_dot' = c.b2_dot in
    let leans = sym (ap (λ (x : Float). le x zero32) b2_dot'.ensures) ∙ if1'.true in
    simp (leans, c.region_before.ensures, unit'.ensures, b2_sub'.ensures)

pub returns : goal.returns
unfolding gauss_region
returns c =
    let unit2' = c.unit-edge2 in
    let b2_sub2' = c.b2_sub-2 in
    let if1' = c.if-b2_dot in
    let b2_dot' = c.b2_dot in
    let leans = sym (ap (λ (x : Float). le x zero32) b2_dot'.ensures) ∙ if1'.false in
    simp (leans, c.region_after.ensures, unit2'.ensures, b2_sub2'.ensures)
