-- The factor by the test of the root. Assumes nothing.
use mathlib.Core.Path.{sym}
use Rattle.floats.specs.Unit.{inverse_root}
use Rattle.floats.proofs.unit.inverse_root.Goals as goal

pub returns-then-length : goal.returns-then-length
unfolding inverse_root
returns-then-length c =
    let b2_sqrt = c.b2_sqrt-length in
    simp (sym b2_sqrt.ensures, c.if-length.true)

pub returns-else-length : goal.returns-else-length
unfolding inverse_root
returns-else-length c =
    let b2_sqrt = c.b2_sqrt-length in
    simp (sym b2_sqrt.ensures, c.if-length.false)
