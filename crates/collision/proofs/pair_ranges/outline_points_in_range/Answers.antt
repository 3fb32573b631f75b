-- Four places at a time, or one. Assumes nothing.
use mathlib.Core.Path.{sym, ◌∙◌, ap₂}
use mathlib.Core.Bool.{◌&&◌}
use Rattle.floats.specs.Ranges.{point_in_range, normal_in_range}
use Rattle.collision.proofs.PairTests.{first_decide, all_decide}
use Rattle.collision.proofs.pair_ranges.outline_points_in_range.Goals as goal

pub returns-then-count-le4 : goal.returns-then-count-le4
unfolding point_in_range normal_in_range
returns-then-count-le4 g c =
    let args = c.args in
    first_decide args.vs args.ns args.count
    (sym (ap₂ ◌&&◌ c.four_within-v.ensures c.four_within-n.ensures) ∙ c.if-v-n.true)
    c.if-count-le4.true

pub returns-then-w-m : goal.returns-then-w-m
unfolding point_in_range normal_in_range
returns-then-w-m g c =
    all_decide c.args.vs c.args.ns c.args.count
    (sym (ap₂ ◌&&◌ c.four_within-v.ensures c.four_within-n.ensures) ∙ c.if-v-n.true)
    c.well_formed.0.1.0.1 c.well_formed.1.0.1.0.1
    (sym (ap₂ ◌&&◌ c.four_within-w.ensures c.four_within-m.ensures) ∙ c.if-w-m.true)
