-- From the distances of both ends. Assumes nothing.
use Rattle.collision.proofs.Clips.{clipped_of}
use Rattle.collision.proofs.clip.clip_ends.Goals as goal

pub returns : goal.returns
returns c =
    clipped_of c.args.vs _ _ _ _ _ _ c.well_formed.1.0.1.0.1 c.clip_distance-d0.ensures
    c.clip_distance-d1.ensures _ _ c.clip_by.ensures
