-- The ends that look away from each other. Assumes nothing.
use lib.Dec.{lit≤}
use Rattle.std.proofs.Common.{arith}
use Rattle.std.proofs.lemmas.Int.{to_z-of_z}
use Rattle.algebra.proofs.Signed.{sum_fits}
use Rattle.measured_definitions.specs.Axes.{farthest}
use Rattle.measured_bodies.proofs.ReadBack.{held_ends}
use Rattle.measured_bodies.proofs.axes.farthest.Goals as goal

pub overflow_add-a : goal.overflow_add-a
overflow_add-a c =
    sum_fits (held_ends c.args.a c.requires.coordinate).low (held_ends c.args.a c.requires.coordinate).high (lit≤ tt)

pub overflow_add-b : goal.overflow_add-b
overflow_add-b c =
    sum_fits (held_ends c.args.b c.requires.coordinate_2).low (held_ends c.args.b c.requires.coordinate_2).high (lit≤ tt)

pub returns-then-a-b : goal.returns-then-a-b
unfolding farthest
returns-then-a-b c = grind (arith, to_z-of_z)

pub returns-else-a-b : goal.returns-else-a-b
unfolding farthest
returns-else-a-b c = grind (arith, to_z-of_z)
