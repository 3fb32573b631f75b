-- By what the first clip leaves. Assumes nothing.
use Rattle.collision.proofs.Clips.{none_after}
use Rattle.collision.proofs.clip.clip_to_sides.Goals as goal

pub returns-then-first-lt2 : goal.returns-then-first-lt2
returns-then-first-lt2 c =
    let clip_ends = c.clip_ends-first in
    let args = c.args in
    let good = c.well_formed in
    let ends_two = good.0.1.0.1 in
    none_after args.ends ends_two args.normal1 args.offset1 args.index1 args.normal2 args.offset2
    args.index2 _ clip_ends.ensures c.if-first-lt2.true
