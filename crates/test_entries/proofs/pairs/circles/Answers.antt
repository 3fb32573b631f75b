-- Entry 7 answers the manifold of two circles, or nothing to another length, or to another kind. Assumes nothing.
use mathlib.Core.Path.{ap, ◌∙◌}
use Rattle.std.proofs.Math.Bool.{and-true}
use Rattle.contact_definitions.specs.B2CollideCircle.{b2_collide_circles}
use Rattle.wire.specs.ContactAnswers.{manifold_words, manifold_answer_words}
use Rattle.wire.proofs.Bytes.{answered_words}
use Rattle.wire.proofs.Requests.{unread, read}
use Rattle.test_entries.specs.Pairs.{circles_answer, pair_at}
use Rattle.test_entries.proofs.pairs.circles.Goals as goal

pub returns-in_default : goal.returns-in_default
unfolding circles_answer pair_at
returns-in_default c = unread _ 31 _ _ _ (and-true _) _ _ c.in_default.ensures

pub returns : goal.returns
unfolding circles_answer pair_at
returns c =
    read _ 31 _ _ _ (and-true _)
    (λ p. manifold_answer_words (b2_collide_circles p.old p.a p.xfa p.b p.xfb)) _ _ _ _ _ c.in-Some.ensures
    (answered_words manifold_words _ _ _ c.of.ensures
    ∙ ap manifold_answer_words c.b2_collide_circles-answer.ensures)
    c.put_manifold.ensures
