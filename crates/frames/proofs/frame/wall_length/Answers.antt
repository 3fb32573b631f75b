-- By the flag. Assumes nothing.
use mathlib.Core.Path.{refl}
use native.Mathlib.Omega.{arith}
use borrow.Author.Tests.{eq-eqb, ne_eqb}
use Rattle.frames.proofs.frame.wall_length.Goals as goal

pub returns-in-0-clause-length : goal.returns-in-0-clause-length
returns-in-0-clause-length c = simp (eq-eqb _ _ c.in-0.is)

pub returns-in-1-clause-length : goal.returns-in-1-clause-length
returns-in-1-clause-length c = rw c.in-1.is refl

pub returns-in_default-clause-length : goal.returns-in_default-clause-length
returns-in_default-clause-length c =
    simp (ne_eqb _ _ c.in_default.in_default-own.rest.0.1, ne_eqb _ _ c.in_default.in_default-own.rest.1)
