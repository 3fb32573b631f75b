-- The calls, last first. Assumes nothing.
use Rattle.contact_definitions.specs.EdgeAxis.{right_of, region_after}
use Rattle.wall_contacts.proofs.edge_axis.region_after.Goals as goal

pub returns : goal.returns
unfolding region_after right_of
returns c =
    let b2_cross2' = c.b2_cross in
    let b2_cross' = c.b2_cross-convex in
    simp (c.region_by.ensures, b2_cross2'.ensures, b2_cross'.ensures)
