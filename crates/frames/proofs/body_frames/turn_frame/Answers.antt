-- No shape; an unknown turn; or the placement. Assumes nothing.
use mathlib.Core.Path.{◌∙◌}
use Rattle.frames.proofs.BodyFrames.{turn_nothing, turn_unknown, turn_made}
use Rattle.frames.proofs.body_frames.turn_frame.Goals as goal

pub returns-then-body-eq-NO_BODY : goal.returns-then-body-eq-NO_BODY
returns-then-body-eq-NO_BODY c = λ pair. turn_nothing _ pair _ c.if-body-eq-NO_BODY.true

pub returns-then-number-gt-LARGEST_TURN : goal.returns-then-number-gt-LARGEST_TURN
returns-then-number-gt-LARGEST_TURN c =
    λ pair. turn_unknown _ pair _ _ c.turn_number-number.ensures c.if-body-eq-NO_BODY.false
    c.if-number-gt-LARGEST_TURN.true

pub returns : goal.returns
returns c =
    λ pair. c.moved.ensures pair
    ∙ turn_made _ pair _ _ c.turn_number-number.ensures c.if-body-eq-NO_BODY.false _ _
    c.vector-p.ensures c.heading-q.ensures c.if-number-gt-LARGEST_TURN.false
