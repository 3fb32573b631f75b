-- By the tests of the two distances: what is left, over the places. Assumes nothing.
use mathlib.Core.Path.{refl}
use Rattle.contact_definitions.proofs.Clipping.{both_left, first_and_crossing, first_left, second_and_crossing}
use Rattle.contact_definitions.proofs.Clipping.{second_left, none_left}
use Rattle.collision.proofs.Clips.{two_left, one_left, nothing_left}
use Rattle.collision.proofs.clip.clip_by.Goals as goal

pub returns-then-d1 : goal.returns-then-d1
returns-then-d1 c =
    two_left _ _ _ _ _ _ c.well_formed.0.1.0.1
    (both_left _ _ _ _ _ c.if-d0.true c.if-d1.true) c.both_left.ensures refl

pub returns-then-d0-d1 : goal.returns-then-d0-d1
returns-then-d0-d1 c =
    two_left _ _ _ _ _ _ c.well_formed.0.1.0.1
    (first_and_crossing _ _ _ _ _ c.if-d0.true c.if-d1.false c.if-d0-d1.true)
    c.both_left-then-d0-d1.ensures c.cut.ensures

pub returns-then-d0 : goal.returns-then-d0
returns-then-d0 c =
    one_left _ _ _ _ (first_left _ _ _ _ _ c.if-d0.true c.if-d1.false c.if-d0-d1.false)
    c.one_left.ensures

pub returns-then-d0-d1-2 : goal.returns-then-d0-d1-2
returns-then-d0-d1-2 c =
    two_left _ _ _ _ _ _ c.well_formed.0.1.0.1
    (second_and_crossing _ _ _ _ _ c.if-d0.false c.if-d1-2.true c.if-d0-d1-2.true)
    c.both_left-then-d0-d1-2.ensures c.cut-then-d0-d1-2.ensures

pub returns-then-d1-2 : goal.returns-then-d1-2
returns-then-d1-2 c =
    one_left _ _ _ _ (second_left _ _ _ _ _ c.if-d0.false c.if-d1-2.true c.if-d0-d1-2.false)
    c.one_left-then-d1-2.ensures

pub returns : goal.returns
returns c = nothing_left _ _ (none_left _ _ _ _ _ c.if-d0.false c.if-d1-2.false)
