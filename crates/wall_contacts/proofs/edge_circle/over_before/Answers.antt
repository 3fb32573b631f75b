-- A two-sided wall has no neighbours. Assumes nothing.
use Rattle.contact_definitions.specs.B2CollideEdge.{over_before}
use Rattle.wall_contacts.proofs.edge_circle.over_before.Goals as goal

pub returns-then-edge : goal.returns-then-edge
unfolding over_before
returns-then-edge c =
    let b2_sub2' = c.b2_sub-then-edge in
    let b2_sub' = c.b2_sub in
    let if1' = c.if-edge in
    simp (if1'.true, c.b2_dot.ensures, b2_sub2'.ensures, b2_sub'.ensures)

pub returns : goal.returns
unfolding over_before
returns c = simp c.if-edge.false
