-- `shape_call` answers what the entry of its number answers, and nothing under another number. Assumes nothing.
use native.Mathlib.Omega.{arith}
use Rattle.test_entries.specs.ByNumber.{shape_answer}
use Rattle.test_entries.proofs.UnderNumber.{under_number, no_shape}
use Rattle.test_entries.proofs.by_number.shape_call.Goals as goal

pub returns-in-1 : goal.returns-in-1
unfolding shape_answer
returns-in-1 c =
    under_number shape_answer 1 _ _ _ _ _ c.in-1.is c.set.ensures

pub returns-in-2 : goal.returns-in-2
unfolding shape_answer
returns-in-2 c =
    under_number shape_answer 2 _ _ _ _ _ c.in-2.is c.set_as_box.ensures

pub returns-in-3 : goal.returns-in-3
unfolding shape_answer
returns-in-3 c =
    under_number shape_answer 3 _ _ _ _ _ c.in-3.is c.set_as_box_angle.ensures

pub returns-in-4 : goal.returns-in-4
unfolding shape_answer
returns-in-4 c =
    under_number shape_answer 4 _ _ _ _ _ c.in-4.is c.validate.ensures

pub returns-in-5 : goal.returns-in-5
unfolding shape_answer
returns-in-5 c =
    under_number shape_answer 5 _ _ _ _ _ c.in-5.is c.set_one_sided.ensures

pub returns-in-6 : goal.returns-in-6
unfolding shape_answer
returns-in-6 c =
    under_number shape_answer 6 _ _ _ _ _ c.in-6.is c.set_two_sided.ensures

pub returns-in_default : goal.returns-in_default
returns-in_default c =
    no_shape _ _ _ (λ is. omega arith) (λ is. omega arith) (λ is. omega arith) (λ is. omega arith)
    (λ is. omega arith) (λ is. omega arith)
