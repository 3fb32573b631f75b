-- The two tests joined, as the definition joins them. Assumes nothing.
use mathlib.Core.Path.{refl}
use Rattle.shape_definitions.specs.Outline.{comes_before}
use Rattle.shapes.proofs.outline.comes_before.Goals as goal

pub returns : goal.returns
unfolding comes_before
returns c = refl
