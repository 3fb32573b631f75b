-- Entry 13 answers the world points, or nothing to another length or kind. Assumes nothing.
use mathlib.Core.Path.{refl, sym, ap, ◌∙◌}
use mathlib.Core.Bool.{true, false}
use Rattle.wire.specs.ContactAnswers.{world_manifold_words, world_answer_words}
use Rattle.wire.proofs.Bytes.{answered_words}
use Rattle.wire.proofs.Requests.{other_length, unknown, answered, not_known, is_known}
use Rattle.test_entries.specs.Points.{world_points_answer}
use Rattle.test_entries.proofs.points.world_points.Goals as goal

pub returns-then-input-ne140 : goal.returns-then-input-ne140
unfolding world_points_answer
returns-then-input-ne140 c = other_length 35 _ _ _ _ c.if-input-ne140.true

pub returns-in_default : goal.returns-in_default
unfolding world_points_answer
returns-in_default c =
    unknown 35 _ _ _ _ false c.if-input-ne140.false (sym (not_known _ _ c.in_default.ensures)) refl

pub returns : goal.returns
unfolding world_points_answer
returns c =
    let m = is_known _ _ c.in-Some.m c.in-Some.ensures in
    answered 35 _ _ _ _ true c.if-input-ne140.false (sym m.0) _ _ _ refl
    (answered_words world_manifold_words _ _ _ c.of.ensures
    ∙ ap world_answer_words c.b2_world_manifold_initialize_core-answer.ensures ∙ simp (
      c.world_manifold-old.ensures,
      m.1,
      c.transform-xfa.ensures,
      c.float-radius_a.ensures,
      c.transform-xfb.ensures,
      c.float-radius_b.ensures,
    ))
    c.put_world.ensures
