-- The iterator tests the first n points. Assumes nothing.
use Rattle.std.proofs.Common.{rules, ◌∙◌}
use Rattle.std.proofs.lemmas.Iterator.{YieldsList-from_slice, YieldsList-from_take}
use Rattle.std.proofs.lemmas.Iterator.Search.{all_from_yields_List}
use Rattle.floats.specs.Ranges.{vec2_within}
use Rattle.shape_ranges.proofs.FourPlaces.{list_all_points}
use Rattle.shape_ranges.proofs.polygon_range.counted_within.Goals as goal

pub returns : goal.returns
returns c =
    let args = c.args in
    all_from_yields_List (vec2_within args.limit) _ _ _ c.all.ensures.ran
    (YieldsList-from_take args.n (YieldsList-from_slice args.ps (cc)) (cc)) (λ x b q k. search rules)
    ∙ list_all_points (vec2_within args.limit) _
