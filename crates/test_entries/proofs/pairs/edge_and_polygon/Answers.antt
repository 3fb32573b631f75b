-- Entry 11 answers the manifold of a wall and an outline, or nothing to another length, or to another kind or flag.
-- Assumes nothing.
use mathlib.Core.Path.{ap, ◌∙◌}
use mathlib.Core.Bool.{Bool, ◌&&◌}
use Rattle.std.proofs.Math.Bool.{and-true}
use Rattle.wire.specs.ContactRecords.{kind_known}
use Rattle.contact_definitions.specs.B2CollideEdge.{b2_collide_edge_and_polygon}
use Rattle.wire.specs.ContactAnswers.{manifold_words, manifold_answer_words}
use Rattle.wire.proofs.Bytes.{answered_words}
use Rattle.wire.proofs.Requests.{unread, read}
use Rattle.test_entries.specs.Pairs.{edge_and_polygon_answer, pair_at}
use Rattle.test_entries.proofs.pairs.edge_and_polygon.Goals as goal

pub returns-in_default : goal.returns-in_default
unfolding edge_and_polygon_answer pair_at
returns-in_default c =
    unread _ 71 _ _ _
    (ap (λ (b : Bool). kind_known c.args.input.now 1 && b) (and-true _))
    _ _ c.in_default.ensures

pub returns : goal.returns
unfolding edge_and_polygon_answer pair_at
returns c =
    read _ 71 _ _ _ (ap (λ (b : Bool). kind_known c.args.input.now 1 && b) (and-true _))
    (λ p. manifold_answer_words (b2_collide_edge_and_polygon p.old p.a p.xfa p.b p.xfb)) _ _ _ _ _ c.in-Some.ensures
    (answered_words manifold_words _ _ _ c.of.ensures
    ∙ ap manifold_answer_words c.b2_collide_edge_and_polygon-answer.ensures)
    c.put_manifold.ensures
