-- The wall, or its refusal. Assumes nothing.
use mathlib.Core.Path.{refl}
use Rattle.std.proofs.lemmas.Result.{err_from_is_err_and}
use Rattle.shape_definitions.proofs.Numbers.{no_acceptance}
use Rattle.frames.proofs.BodyFrames.{wall_taken, wall_refused}
use Rattle.frames.proofs.body_frames.wall_frame.Goals as goal

pub returns-in_err-shape : goal.returns-in_err-shape
returns-in_err-shape c =
    let gone = err_from_is_err_and c.from_residual.result c.from_residual.ensures.1 in
    λ body pair. rw (gone.1, gone.2) (wall_refused body pair _ _ c.in_err-shape.ensures (no_acceptance _))

pub returns : goal.returns
returns c = λ body pair. rw c.wall_body.ensures (wall_taken body pair _ _ c.in_ok-shape.ensures refl)
