-- `contact_call` answers what the entry of its number answers, and nothing under another number. Assumes nothing.
use native.Mathlib.Omega.{arith}
use Rattle.test_entries.specs.ByNumber.{contact_answer}
use Rattle.test_entries.proofs.UnderNumber.{under_number, no_contact}
use Rattle.test_entries.proofs.by_number.contact_call.Goals as goal

pub returns-in-7 : goal.returns-in-7
unfolding contact_answer
returns-in-7 c =
    under_number contact_answer 7 _ _ _ _ _ c.in-7.is c.circles.ensures

pub returns-in-8 : goal.returns-in-8
unfolding contact_answer
returns-in-8 c =
    under_number contact_answer 8 _ _ _ _ _ c.in-8.is c.polygon_and_circle.ensures

pub returns-in-9 : goal.returns-in-9
unfolding contact_answer
returns-in-9 c =
    under_number contact_answer 9 _ _ _ _ _ c.in-9.is c.polygons.ensures

pub returns-in-10 : goal.returns-in-10
unfolding contact_answer
returns-in-10 c =
    under_number contact_answer 10 _ _ _ _ _ c.in-10.is c.edge_and_circle.ensures

pub returns-in-11 : goal.returns-in-11
unfolding contact_answer
returns-in-11 c =
    under_number contact_answer 11 _ _ _ _ _ c.in-11.is c.edge_and_polygon.ensures

pub returns-in-12 : goal.returns-in-12
unfolding contact_answer
returns-in-12 c =
    under_number contact_answer 12 _ _ _ _ _ c.in-12.is c.clip.ensures

pub returns-in-13 : goal.returns-in-13
unfolding contact_answer
returns-in-13 c =
    under_number contact_answer 13 _ _ _ _ _ c.in-13.is c.world_points.ensures

pub returns-in-14 : goal.returns-in-14
unfolding contact_answer
returns-in-14 c =
    under_number contact_answer 14 _ _ _ _ _ c.in-14.is c.states.ensures

pub returns-in_default : goal.returns-in_default
returns-in_default c =
    no_contact _ _ _ (λ is. omega arith) (λ is. omega arith) (λ is. omega arith) (λ is. omega arith)
    (λ is. omega arith) (λ is. omega arith) (λ is. omega arith) (λ is. omega arith)
