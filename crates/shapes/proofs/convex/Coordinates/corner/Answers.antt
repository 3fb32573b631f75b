-- Two reads, joined. Assumes nothing.
use Rattle.std.proofs.Common.{rules}
use Rattle.shapes.proofs.Sides.{joined_at}
use Rattle.shapes.proofs.convex.Coordinates.corner.Goals as goal

pub returns : goal.returns
returns c =
    let args = c.args in
    let corners = args.self.now in
    joined_at corners.xs corners.ys args.j _ (search rules) (search rules)
