-- An outline from thirty-six words. Assumes nothing.
use Rattle.wire.specs.Records.{polygon_at}
use Rattle.algebra.proofs.Lists.{whole_row}
use Rattle.wire.proofs.records.polygon.Goals as goal

pub returns : goal.returns
unfolding polygon_at
returns c =
    let vertices = c.points-vertices in
    simp (
      whole_row 8 c.points-normals.result _ c.points-normals.ensures.0 c.points-normals.ensures.1,
      whole_row 8 vertices.result _ vertices.ensures.0 vertices.ensures.1,
      c.word-count.ensures,
      c.vector-centroid.ensures,
      c.float-radius.ensures,
    )
