-- Where they meet, by cases. Assumes nothing.
use Rattle.circle_contacts.proofs.CircleManifolds.{meets_not, meets_at}
use Rattle.circle_contacts.proofs.b2_collide_circle.polygon_circle_manifold.Goals as goal

pub returns-in-None : goal.returns-in-None
returns-in-None c =
    meets_not _ _ _ _ _ _ _ c.polygon_meeting.result c.b2_mul_transform_by_vec2.ensures
    c.b2_mul_t_transform_by_vec2-c.ensures c.polygon_meeting.ensures _ c.in-None.is
    c.no_points.ensures

pub returns-in-Some : goal.returns-in-Some
returns-in-Some c =
    meets_at _ _ _ _ _ _ _ c.polygon_meeting.result c.b2_mul_transform_by_vec2.ensures
    c.b2_mul_t_transform_by_vec2-c.ensures c.polygon_meeting.ensures _ _
    c.in-Some.is c.circle_point.ensures
