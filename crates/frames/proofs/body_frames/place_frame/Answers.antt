-- No shape, or the placement. Assumes nothing.
use mathlib.Core.Path.{◌∙◌}
use Rattle.frames.proofs.BodyFrames.{place_nothing, place_made}
use Rattle.frames.proofs.body_frames.place_frame.Goals as goal

pub returns-then-body-eq-NO_BODY : goal.returns-then-body-eq-NO_BODY
returns-then-body-eq-NO_BODY c = λ pair. place_nothing _ pair _ c.if-body-eq-NO_BODY.true

pub returns : goal.returns
returns c = λ pair. c.moved.ensures pair ∙ place_made _ pair _ _ c.placement.ensures c.if-body-eq-NO_BODY.false
