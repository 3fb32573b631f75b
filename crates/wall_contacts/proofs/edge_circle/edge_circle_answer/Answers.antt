-- By the way that they touch. Assumes nothing.
use mathlib.Core.Path.{refl, ap}
use Rattle.contact_definitions.specs.Manifold.{manifold_accepted}
use Rattle.wall_contacts.specs.EdgeCircle.{touch_answer}
use Rattle.wall_contacts.proofs.Regions.{answered, end_answered, face_answered}
use Rattle.wall_contacts.proofs.edge_circle.edge_circle_answer.Goals as goal

pub returns-in-Nothing : goal.returns-in-Nothing
unfolding touch_answer
returns-in-Nothing c =
    let wall_touch' = c.wall_touch in
    let args' = c.args in
    answered args'.m args'.edge args'.centre _ _ _ _ c.in-Nothing.is
    (ap manifold_accepted c.no_points.ensures) (wall_touch'.ensures args'.m args'.centre)

pub returns-in-End : goal.returns-in-End
returns-in-End c =
    let wall_touch' = c.wall_touch in
    let args' = c.args in
    end_answered args'.m args'.edge args'.centre _ _ _ _ _ _ c.in-End.is c.circle_point.ensures
    (wall_touch'.ensures args'.m args'.centre)

pub returns-in-Face : goal.returns-in-Face
returns-in-Face c =
    let wall_touch' = c.wall_touch in
    let args' = c.args in
    face_answered args'.m args'.edge args'.centre _ _ _ _ _ c.in-Face.is c.circle_point-in-Face.ensures
    (wall_touch'.ensures args'.m args'.centre)

pub returns-in-Flat : goal.returns-in-Flat
unfolding touch_answer
returns-in-Flat c =
    let wall_touch' = c.wall_touch in
    let args' = c.args in
    answered args'.m args'.edge args'.centre _ _ _ _ c.in-Flat.is
    (refl) (wall_touch'.ensures args'.m args'.centre)
