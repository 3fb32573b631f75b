-- The builder's outline, or its refusal. Assumes nothing.
use Rattle.std.proofs.lemmas.Result.{err_from_is_err_and}
use Rattle.shape_definitions.proofs.Numbers.{no_acceptance}
use Rattle.frames.proofs.BodyFrames.{outline_taken, outline_refused}
use Rattle.frames.proofs.body_frames.outline_frame.Goals as goal
use mathlib.Core.Path.{refl}

pub returns-in_err-shape : goal.returns-in_err-shape
returns-in_err-shape c =
    let gone = err_from_is_err_and c.from_residual.result c.from_residual.ensures.1 in
    λ body pair. rw (gone.1, gone.2)
    (outline_refused body pair _ c.points-points.result _ _ _ c.byte-count.ensures c.points-points.ensures.0
    c.blank_outline.ensures c.in_err-shape.ensures (no_acceptance _))

pub returns : goal.returns
returns c =
    λ body pair. rw c.outline_body.ensures
    (outline_taken body pair _ c.points-points.result _ _ _ c.byte-count.ensures c.points-points.ensures.0
    c.blank_outline.ensures c.in_ok-shape.ensures refl)
