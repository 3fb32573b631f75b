-- Only the place changes. Assumes nothing.
use mathlib.Core.Path.{refl}
use Rattle.record_definitions.specs.World.{placed}
use Rattle.frames.proofs.world.placed.Goals as goal

pub returns : goal.returns
unfolding placed
returns c = refl
