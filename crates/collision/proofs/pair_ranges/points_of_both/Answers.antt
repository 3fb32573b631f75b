-- Four places of both at a time, or one. Assumes nothing.
use mathlib.Core.Path.{sym, ◌∙◌, ap₂}
use mathlib.Core.Bool.{◌&&◌, and-eq-true_iff}
use native.Mathlib.Omega.{arith}
use Rattle.floats.specs.Ranges.{point_in_range, normal_in_range}
use Rattle.collision.proofs.PairTests.{first_decide, all_decide}
use Rattle.collision.proofs.pair_ranges.points_of_both.Goals as goal

pub returns-then-max-le4 : goal.returns-then-max-le4
unfolding point_in_range normal_in_range
returns-then-max-le4 c =
    let greater = c.max.ensures in
    let args = c.args in
    let first = (and-eq-true_iff _ _).0 (sym (ap₂ ◌&&◌ (ap₂ ◌&&◌ c.four_within-v1.ensures c.four_within-n1.ensures)
    (ap₂ ◌&&◌ c.four_within-v2.ensures c.four_within-n2.ensures)) ∙ c.if-v1-n1.true) in
    ap₂ ◌&&◌ (first_decide args.va args.na args.ca first.0 (omega arith))
    (first_decide args.vb args.nb args.cb first.1 (omega arith))

pub returns-then-w1-m1 : goal.returns-then-w1-m1
unfolding point_in_range normal_in_range
returns-then-w1-m1 c =
    let args = c.args in
    let first = (and-eq-true_iff _ _).0 (sym (ap₂ ◌&&◌ (ap₂ ◌&&◌ c.four_within-v1.ensures c.four_within-n1.ensures)
    (ap₂ ◌&&◌ c.four_within-v2.ensures c.four_within-n2.ensures)) ∙ c.if-v1-n1.true) in
    let last = (and-eq-true_iff _ _).0 (sym (ap₂ ◌&&◌ (ap₂ ◌&&◌ c.four_within-w1.ensures c.four_within-m1.ensures)
    (ap₂ ◌&&◌ c.four_within-w2.ensures c.four_within-m2.ensures)) ∙ c.if-w1-m1.true) in
    ap₂ ◌&&◌ (all_decide args.va args.na args.ca first.0 c.well_formed.0.1.0.1
    c.well_formed.1.0.1.0.1 last.0)
    (all_decide args.vb args.nb args.cb first.1 c.well_formed.1.1.1.0.1.0.1
    c.well_formed.1.1.1.1.0.1.0.1 last.1)
