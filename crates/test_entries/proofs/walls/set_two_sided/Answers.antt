-- Entry 6 answers a wall that is met from both sides, or nothing to another length or flag. Assumes nothing.
use mathlib.Core.Path.{refl, sym, ap, ◌∙◌}
use mathlib.Core.Bool.{true, false}
use Rattle.wire.specs.Answers.{edge_words}
use Rattle.wire.proofs.Bytes.{answered_words}
use Rattle.wire.proofs.Requests.{other_length, unknown, answered, not_known, is_known}
use Rattle.test_entries.specs.Walls.{two_sided_answer, wall_words}
use Rattle.test_entries.proofs.walls.set_two_sided.Goals as goal

pub returns-then-input-ne60 : goal.returns-then-input-ne60
unfolding two_sided_answer
returns-then-input-ne60 c = other_length 15 _ _ _ _ c.if-input-ne60.true

pub returns-in_default : goal.returns-in_default
unfolding two_sided_answer
returns-in_default c =
    unknown 15 _ _ _ _ false c.if-input-ne60.false (sym (not_known _ _ c.in_default.ensures)) refl

pub returns : goal.returns
unfolding two_sided_answer
returns c =
    let old = is_known _ _ c.in-Some.old c.in-Some.ensures in
    answered 15 _ _ _ _ true c.if-input-ne60.false (sym old.0) _ _ _ refl
    (answered_words edge_words _ _ _ c.of.ensures
    ∙ ap wall_words c.b2_set_two_sided-answer.ensures ∙ simp (
      old.1,
      c.vector-v1.ensures,
      c.vector-v2.ensures,
    ))
    c.put_edge.ensures
