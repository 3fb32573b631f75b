-- Entry 5 answers a wall that is met from one side, or nothing to another length or flag. Assumes nothing.
use mathlib.Core.Path.{refl, sym, ap, ◌∙◌}
use mathlib.Core.Bool.{true, false}
use Rattle.wire.specs.Answers.{edge_words}
use Rattle.wire.proofs.Bytes.{answered_words}
use Rattle.wire.proofs.Requests.{other_length, unknown, answered, not_known, is_known}
use Rattle.test_entries.specs.Walls.{one_sided_answer, wall_words}
use Rattle.test_entries.proofs.walls.set_one_sided.Goals as goal

pub returns-then-input-ne76 : goal.returns-then-input-ne76
unfolding one_sided_answer
returns-then-input-ne76 c = other_length 19 _ _ _ _ c.if-input-ne76.true

pub returns-in_default : goal.returns-in_default
unfolding one_sided_answer
returns-in_default c =
    unknown 19 _ _ _ _ false c.if-input-ne76.false (sym (not_known _ _ c.in_default.ensures)) refl

pub returns : goal.returns
unfolding one_sided_answer
returns c =
    let old = is_known _ _ c.in-Some.old c.in-Some.ensures in
    answered 19 _ _ _ _ true c.if-input-ne76.false (sym old.0) _ _ _ refl
    (answered_words edge_words _ _ _ c.of.ensures
    ∙ ap wall_words c.b2_set_one_sided-answer.ensures ∙ simp (
      old.1,
      c.vector-v0.ensures,
      c.vector-v1.ensures,
      c.vector-v2.ensures,
      c.vector-v3.ensures,
    ))
    c.put_edge.ensures
