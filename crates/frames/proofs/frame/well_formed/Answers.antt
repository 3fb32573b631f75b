-- Some length, and that one. Assumes nothing.
use mathlib.Core.Path.{refl}
use native.Mathlib.Omega.{arith}
use borrow.Author.Tests.{ne_eqb}
use Rattle.record_definitions.specs.Frame.{well_formed}
use Rattle.frames.proofs.frame.well_formed.Goals as goal

pub returns-in-Some : goal.returns-in-Some
unfolding well_formed
returns-in-Some c =
    rw (← c.byte.ensures, ← c.byte-2.ensures, ← c.in-Some.ensures.length)
    (simp (ne_eqb c.in-Some.size 0 (λ none. omega (arith, c.in-Some.ensures.some))))

pub returns-in-None : goal.returns-in-None
unfolding well_formed
returns-in-None c = rw (← c.byte.ensures, ← c.byte-2.ensures, ← c.in-None.ensures.length) refl
