-- Both ends, the normal and the offset. Assumes nothing.
use Rattle.collision.proofs.Clips.{ends_in_range}
use Rattle.collision.proofs.b2_collision.clip_in_range.Goals as goal

pub returns : goal.returns
returns c =
    ends_in_range c.args.ends _ _ _ _ _ _ _ c.well_formed.0.1.0.1 c.contact_point_in_range-a_in.ensures
    c.contact_point_in_range-b_in.ensures c.contact_point_in_range-normal_in.ensures
    c.contact_number_in_range-offset_in.ensures
