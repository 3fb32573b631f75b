-- The first k points are read. Assumes nothing.
use mathlib.Core.Path.{refl}
use native.Mathlib.Omega.{arith}
use lib.ListN.{length-replicate}
use Rattle.lines.specs.Fields.{points_at}
use Rattle.lines.proofs.Points.{point_read, points_read}
use Rattle.lines.proofs.fields.points.Goals as goal

pub loop-k-init : goal.loop-k-init
unfolding points_at
loop-k-init g c =
    record { within = omega arith; few = omega arith; room = omega arith; all = length-replicate _ _; read = refl }

pub loop-k-preserved : goal.loop-k-preserved
loop-k-preserved g c =
    let loop' = c.loop-k in
    point_read _ _ _ _ _ loop'.ps loop'.k _ (omega arith) c.vector.ensures loop'.invariant

pub returns : goal.returns
returns g c = points_read _ _ _ _ _ c.loop-k.ps c.loop-k.k c.loop-k-test.false c.loop-k.invariant
