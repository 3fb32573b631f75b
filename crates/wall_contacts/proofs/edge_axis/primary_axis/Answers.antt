-- By the tests on the way. Assumes nothing.
use Rattle.contact_definitions.specs.EdgeAxis.{clearly_above, primary_axis}
use Rattle.wall_contacts.proofs.edge_axis.primary_axis.Goals as goal

pub returns-then-wall-radius : goal.returns-then-wall-radius
unfolding primary_axis
returns-then-wall-radius c =
    let wall = c.separation_of-wall in
    simp (← wall.ensures, c.if-wall-radius.true)

pub returns-then-face-radius : goal.returns-then-face-radius
unfolding primary_axis
returns-then-face-radius c =
    let face = c.separation_of-face in
    let wall = c.separation_of-wall in
    simp (← face.ensures, ← wall.ensures, c.if-wall-radius.false, c.if-face-radius.true)

pub returns-then-face-radius-2 : goal.returns-then-face-radius-2
unfolding primary_axis clearly_above
returns-then-face-radius-2 c =
    let face = c.separation_of-face in
    let wall = c.separation_of-wall in
    simp (← face.ensures, ← wall.ensures, c.if-wall-radius.false, c.if-face-radius.false, c.if-face-radius-2.true)

pub returns : goal.returns
unfolding primary_axis clearly_above
returns c =
    let face = c.separation_of-face in
    let wall = c.separation_of-wall in
    simp (← face.ensures, ← wall.ensures, c.if-wall-radius.false, c.if-face-radius.false, c.if-face-radius-2.false)
