-- The factor from the length's square. Assumes nothing.
use mathlib.Core.Path.{ap, ◌∙◌}
use Rattle.floats.specs.Unit.{inverse_root}
use Rattle.floats.proofs.Scale.{scale_by_square}
use Rattle.floats.proofs.unit.unit_scale.Goals as goal

pub returns : goal.returns
returns c =
    c.inverse_root.ensures ∙ ap inverse_root c.b2_length_squared.ensures ∙ scale_by_square _
