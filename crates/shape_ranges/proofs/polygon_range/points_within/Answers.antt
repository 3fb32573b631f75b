-- Four places at a time, or one. Assumes nothing.
use mathlib.Core.Path.{sym, ◌∙◌}
use Rattle.floats.specs.Ranges.{vec2_within}
use Rattle.shape_ranges.proofs.FourPlaces.{first_four, both_fours}
use Rattle.shape_ranges.proofs.polygon_range.points_within.Goals as goal

pub returns-then-n-le4 : goal.returns-then-n-le4
returns-then-n-le4 c =
    let args = c.args in
    first_four (vec2_within args.limit) args.ps args.n c.if-n-le4.true
    (sym c.four_within.ensures ∙ c.if-four_within.true)

pub returns-then-four_within-2 : goal.returns-then-four_within-2
returns-then-four_within-2 c =
    both_fours (vec2_within c.args.limit) c.args.ps c.args.n c.well_formed.1.0.1.0.1
    (sym c.four_within.ensures ∙ c.if-four_within.true) (sym c.four_within-then-four_within.ensures ∙ c.if-four_within-2.true)
