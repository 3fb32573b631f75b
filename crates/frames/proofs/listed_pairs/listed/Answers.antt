-- The seven rows. Assumes nothing.
use mathlib.Core.Path.{refl}
use Rattle.record_definitions.specs.Frame.{listed}
use Rattle.frames.proofs.listed_pairs.listed.Goals as goal

pub returns : goal.returns
unfolding listed
returns c = refl
