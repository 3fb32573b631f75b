-- The eight places hold all points of the slice, or there are too many. Assumes nothing.
use Rattle.std.proofs.Common.{rules}
use Rattle.shapes.proofs.EightPlaces.{lent_is}
use Rattle.shapes.proofs.b2_polygon_shape.b2_polygon_shape_set.Goals as goal

pub returns : goal.returns
returns c =
    lent_is _ _ _ _ _ _ _ _ _ _ _ (search rules) (search rules) (search rules) (search rules) (search rules)
    (search rules) (search rules) (search rules) c.b2_polygon_shape_set_core.ensures
