-- Corners first, then normals.  Assumes nothing.
use mathlib.Core.Path.{◌∙◌}
use Rattle.floats.specs.Ranges.{point_in_range, normal_in_range}
use Rattle.shape_ranges.proofs.InTurn.{first_fails, first_holds}
use Rattle.collision.proofs.pair_ranges.points_in_range.Goals as goal

pub returns-then-not-counted_within : goal.returns-then-not-counted_within
unfolding point_in_range normal_in_range
returns-then-not-counted_within c = first_fails _ _ _ c.counted_within.ensures c.if-not-counted_within.true

pub returns : goal.returns
unfolding point_in_range normal_in_range
returns c =
    c.counted_within-2.ensures
    ∙ first_holds _ _ _ c.counted_within.ensures c.if-not-counted_within.false
