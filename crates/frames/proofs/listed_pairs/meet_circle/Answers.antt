-- By the first body's kind. Assumes nothing.
use mathlib.Core.Path.{sym, ◌∙◌, ap}
use borrow.Author.Tests.{eq-eqb, ne_eqb}
use Rattle.contact_definitions.specs.declared.b2_collision.B2manifold.{B2manifold}
use Rattle.contact_definitions.specs.Answers.{manifold_answered}
use Rattle.record_definitions.specs.Touch.{meet_circle}
use Rattle.frames.proofs.listed_pairs.meet_circle.Goals as goal

pub returns-then-kind-eq-CIRCLE : goal.returns-then-kind-eq-CIRCLE
unfolding meet_circle
returns-then-kind-eq-CIRCLE c =
    ap (λ (old : B2manifold). manifold_answered old c.b2_collide_circles.result) (sym c.default_manifold-m.ensures)
    ∙ c.b2_collide_circles.ensures
    ∙ simp (c.default_manifold-m.ensures, eq-eqb _ _ c.if-kind-eq-CIRCLE.true)

pub returns-then-kind-eq-OUTLINE : goal.returns-then-kind-eq-OUTLINE
unfolding meet_circle
returns-then-kind-eq-OUTLINE c =
    ap (λ (old : B2manifold). manifold_answered old c.b2_collide_polygon_and_circle.result) (sym c.default_manifold-m.ensures)
    ∙ c.b2_collide_polygon_and_circle.ensures
    ∙ simp (c.default_manifold-m.ensures, ne_eqb _ _ c.if-kind-eq-CIRCLE.false, eq-eqb _ _ c.if-kind-eq-OUTLINE.true)

pub returns : goal.returns
unfolding meet_circle
returns c =
    ap (λ (old : B2manifold). manifold_answered old c.b2_collide_edge_and_circle.result) (sym c.default_manifold-m.ensures)
    ∙ c.b2_collide_edge_and_circle.ensures
    ∙ simp (c.default_manifold-m.ensures, ne_eqb _ _ c.if-kind-eq-CIRCLE.false, ne_eqb _ _ c.if-kind-eq-OUTLINE.false)
