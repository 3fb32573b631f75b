-- The ids at both places. Assumes nothing.
use mathlib.Core.Path.{refl}
use Rattle.collision.proofs.States.{ids_read}
use Rattle.collision.proofs.b2_collision.counted_ids.Goals as goal

pub returns : goal.returns
returns c =
    ids_read _ c.well_formed.0.1.1.0.1.0.1 _ _ _ refl refl
