-- The program's table holds the floats of the patterns, in order. Assumes nothing.
use mathlib.Core.Path.{refl}
use Rattle.headings.specs.Sines.{sines}
use Rattle.headings.specs.Headings.{quarter_waves}
use Rattle.headings.proofs.turns.sines.Goals as goal

pub returns : goal.returns
unfolding quarter_waves sines
returns c = refl
