-- Entry 14 answers the point states of two manifolds, or nothing to another length, state or kind. Assumes nothing.
use mathlib.Core.Path.{refl, sym, ap, ◌∙◌}
use mathlib.Core.Bool.{true, false}
use Rattle.wire.specs.ContactAnswers.{states_words, states_answer_words}
use Rattle.wire.proofs.Bytes.{answered_words}
use Rattle.wire.proofs.Requests.{other_length, unknown, answered, not_known, is_known}
use Rattle.test_entries.specs.Points.{point_states_answer}
use Rattle.test_entries.proofs.points.states.Goals as goal

pub returns-then-input-ne148 : goal.returns-then-input-ne148
unfolding point_states_answer
returns-then-input-ne148 c = other_length 37 _ _ _ _ c.if-input-ne148.true

pub returns-in_default : goal.returns-in_default
unfolding point_states_answer
returns-in_default c =
    unknown 37 _ _ _ _ false c.if-input-ne148.false (sym (simp (not_known _ _ c.in_default.ensures))) refl

pub returns-in_default-known_manifold : goal.returns-in_default-known_manifold
unfolding point_states_answer
returns-in_default-known_manifold c =
    let given = is_known _ _ c.in-Some.given c.in-Some.ensures in
    unknown 37 _ _ _ _ false c.if-input-ne148.false
    (sym (simp (given.0, not_known _ _ c.in_default-known_manifold.ensures))) refl

pub returns-in_default-known_manifold-2 : goal.returns-in_default-known_manifold-2
unfolding point_states_answer
returns-in_default-known_manifold-2 c =
    let given = is_known _ _ c.in-Some.given c.in-Some.ensures in
    let m1 = is_known _ _ c.in-Some-known_manifold.m1 c.in-Some-known_manifold.ensures in
    unknown 37 _ _ _ _ false c.if-input-ne148.false
    (sym (simp (given.0, m1.0, not_known _ _ c.in_default-known_manifold-2.ensures))) refl

pub returns : goal.returns
unfolding point_states_answer
returns c =
    let given = is_known _ _ c.in-Some.given c.in-Some.ensures in
    let m1 = is_known _ _ c.in-Some-known_manifold.m1 c.in-Some-known_manifold.ensures in
    let m2 = is_known _ _ c.in-Some-known_manifold-2.m2 c.in-Some-known_manifold-2.ensures in
    answered 37 _ _ _ _ true c.if-input-ne148.false (sym (simp (given.0, m1.0, m2.0))) _ _ _ refl
    (answered_words states_words _ _ _ c.of.ensures
    ∙ ap states_answer_words c.b2_get_point_states-answer.ensures ∙ simp (
      given.1,
      m1.1,
      m2.1,
    ))
    c.put_states.ensures
