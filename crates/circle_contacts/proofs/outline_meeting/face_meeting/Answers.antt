-- At the middle, at an end, or not at all. Assumes nothing.
use Rattle.circle_contacts.proofs.Meets.{face_inside, face_corner, face_far, face_near}
use Rattle.circle_contacts.proofs.outline_meeting.face_meeting.Goals as goal

pub returns-then-separation : goal.returns-then-separation
returns-then-separation c =
    face_inside _ _ _ _ _ _ _ _ c.b2_add.ensures c.b2_scale-middle.ensures c.if-separation.true

pub returns-then-first-second : goal.returns-then-first-second
returns-then-first-second c =
    face_corner _ _ _ _ _ _ _ _ c.b2_add.ensures c.b2_scale-middle.ensures _ _ _ _ _ _
    c.if-separation.false
    c.b2_sub.ensures c.b2_sub-2.ensures c.b2_dot-first.ensures c.b2_sub-3.ensures
    c.b2_sub-4.ensures c.b2_dot-second.ensures _ c.corner_meeting.result c.if-first-second.true
    c.nearer_end-v.ensures c.corner_meeting.ensures

pub returns-then-b2_dot-radius : goal.returns-then-b2_dot-radius
returns-then-b2_dot-radius c =
    face_far _ _ _ _ _ _ _ _ c.b2_add.ensures c.b2_scale-middle.ensures _ _ _ _ _ _ c.if-separation.false
    c.b2_sub.ensures c.b2_sub-2.ensures c.b2_dot-first.ensures c.b2_sub-3.ensures
    c.b2_sub-4.ensures c.b2_dot-second.ensures _ _ c.if-first-second.false
    c.b2_sub-5.ensures c.b2_dot.ensures c.if-b2_dot-radius.true

pub returns : goal.returns
returns c =
    face_near _ _ _ _ _ _ _ _ c.b2_add.ensures c.b2_scale-middle.ensures _ _ _ _ _ _ c.if-separation.false
    c.b2_sub.ensures c.b2_sub-2.ensures c.b2_dot-first.ensures c.b2_sub-3.ensures
    c.b2_sub-4.ensures c.b2_dot-second.ensures _ _ c.if-first-second.false
    c.b2_sub-5.ensures c.b2_dot.ensures c.if-b2_dot-radius.false
