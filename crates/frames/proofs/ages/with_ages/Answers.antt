-- Both points are those that were there, but for their ages. Assumes nothing.
use mathlib.Core.Path.{◌≡◌}
use native.Mathlib.Omega.{arith}
use lib.ListN.{length}
use Rattle.record_definitions.specs.Ages.{with_ages}
use Rattle.frames.proofs.NextAges.{point_read}
use Rattle.frames.proofs.ages.with_ages.Goals as goal

pub returns : goal.returns
unfolding with_ages
returns c =
    let m = c.args.m in
    let two : length m.points ≡ 2 = c.well_formed.0.1.1.0.1.0.1 in
    simp (point_read m 0 two (omega arith), point_read m 1 two (omega arith))
