-- By whether the wall is one-sided. Assumes nothing.
use Rattle.wall_contacts.proofs.AxisFound.{searched}
use Rattle.wall_contacts.proofs.edge_axis.edge_polygon_axis.Goals as goal

pub returns-then-edge : goal.returns-then-edge
returns-then-edge c =
    let args = c.args in
    searched args.edge args.edge1 args.edge_axis args.primary _
    (simp (c.if-edge.true, c.smoothed.ensures))

pub returns : goal.returns
returns c =
    let args = c.args in
    searched args.edge args.edge1 args.edge_axis args.primary _ (simp c.if-edge.false)
