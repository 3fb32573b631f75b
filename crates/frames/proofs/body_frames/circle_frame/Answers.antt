-- The numbers are in range, or refused. Assumes nothing.
use mathlib.Core.Path.{sym, ◌∙◌}
use Rattle.frames.proofs.BodyFrames.{circle_taken, circle_refused}
use Rattle.frames.proofs.body_frames.circle_frame.Goals as goal

pub returns-then-not-circle_in_range : goal.returns-then-not-circle_in_range
returns-then-not-circle_in_range c =
    λ body pair. circle_refused body pair _ _ _ c.vector-m_p.ensures c.float-m_radius.ensures
    (sym c.circle_in_range.ensures ∙ c.if-not-circle_in_range.true)

pub returns : goal.returns
returns c =
    λ body pair. rw c.circle_body.ensures
    (circle_taken body pair _ _ _ c.vector-m_p.ensures c.float-m_radius.ensures
    (sym c.circle_in_range.ensures ∙ c.if-not-circle_in_range.false))
