-- `heading` goes by the quarter, as its definition does. Assumes nothing.
use native.Mathlib.Omega.{arith}
use Rattle.headings.proofs.Table.{lent_length}
use Rattle.headings.proofs.Quarters.{first_is, second_is, third_is, fourth_is}
use Rattle.headings.proofs.turns.heading.Goals as goal

pub bounds-sines-k : goal.bounds-sines-k
bounds-sines-k c =
    omega (arith, lent_length _ c.requires)

pub bounds-sines-k-2 : goal.bounds-sines-k-2
bounds-sines-k-2 c =
    omega (arith, lent_length _ c.requires)

pub returns-in-0 : goal.returns-in-0
returns-in-0 c =
    first_is _ c.requires c.args.number c.in-0.is

pub returns-in-1 : goal.returns-in-1
returns-in-1 c =
    second_is _ c.requires c.args.number _ c.opposite.ensures c.in-1.is

pub returns-in-2 : goal.returns-in-2
returns-in-2 c =
    third_is _ c.requires c.args.number _ _ c.opposite-in-2.ensures c.opposite-in-2-2.ensures
    c.in-2.is

pub returns-in_default : goal.returns-in_default
returns-in_default c =
    let rest = c.before.before.in_default.in_default-own.rest in
    fourth_is _ c.requires c.args.number _ c.opposite-in_default.ensures rest.0.0.1 rest.0.1 rest.1
