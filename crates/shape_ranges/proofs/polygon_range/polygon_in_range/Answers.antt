-- Each part of the test has its own function; the first that fails decides. Assumes nothing.
use mathlib.Core.Path.{sym, ◌∙◌, ap₂}
use mathlib.Core.Bool.{◌&&◌}
use Rattle.floats.specs.Ranges.{point_in_range, normal_in_range}
use Rattle.shape_definitions.specs.Validate.{polygon_in_range}
use Rattle.shape_ranges.proofs.InTurn.{first_fails, first_holds, fails_before}
use Rattle.shape_ranges.proofs.polygon_range.polygon_in_range.Goals as goal

pub returns-then-not-radius-centroid : goal.returns-then-not-radius-centroid
unfolding polygon_in_range point_in_range normal_in_range
returns-then-not-radius-centroid c =
    fails_before _ _
    (first_fails _ _ _ (ap₂ ◌&&◌ c.radius_in_range-radius.ensures
    c.point_in_range-centroid.ensures) c.if-not-radius-centroid.true)

pub returns-then-not-points_within : goal.returns-then-not-points_within
unfolding polygon_in_range point_in_range normal_in_range
returns-then-not-points_within c =
    fails_before _ _
    (sym (c.if-not-points_within.true) ∙ c.points_within.ensures
    ∙ first_holds _ _ _ (ap₂ ◌&&◌ c.radius_in_range-radius.ensures
    c.point_in_range-centroid.ensures) c.if-not-radius-centroid.false)

pub returns : goal.returns
unfolding polygon_in_range point_in_range normal_in_range
returns c =
    c.points_within-2.ensures
    ∙ first_holds _ _ _ (c.points_within.ensures
    ∙ first_holds _ _ _ (ap₂ ◌&&◌ c.radius_in_range-radius.ensures
    c.point_in_range-centroid.ensures) c.if-not-radius-centroid.false)
    c.if-not-points_within.false
