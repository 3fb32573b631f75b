-- Too far, or at the corner. Assumes nothing.
use Rattle.circle_contacts.proofs.Meets.{corner_far, corner_near}
use Rattle.circle_contacts.proofs.outline_meeting.corner_meeting.Goals as goal

pub returns-then-farther_than : goal.returns-then-farther_than
returns-then-farther_than c = corner_far _ _ _ _ _ c.farther_than.ensures c.if-farther_than.true

pub returns : goal.returns
returns c = corner_near _ _ _ _ _ c.farther_than.ensures _ _
    c.if-farther_than.false c.b2_sub.ensures c.unit_or-n.ensures
