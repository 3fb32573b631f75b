-- No input yet. Assumes nothing.
use mathlib.Core.Path.{ap}
use mathlib.Core.List.{[]}
use Rattle.record_definitions.specs.declared.world.World.{World}
use Rattle.record.proofs.feed.start.Goals as goal

pub returns : goal.returns
returns c = ap (λ (w : World). record { server = record { world = w; steps = 0 }; line = [] }) c.fresh_world-world.ensures
