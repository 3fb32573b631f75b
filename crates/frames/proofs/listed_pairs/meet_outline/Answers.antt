-- By the first body's kind. Assumes nothing.
use mathlib.Core.Path.{sym, ◌∙◌, ap}
use borrow.Author.Tests.{eq-eqb, ne_eqb}
use Rattle.contact_definitions.specs.declared.b2_collision.B2manifold.{B2manifold}
use Rattle.contact_definitions.specs.Answers.{manifold_answered}
use Rattle.record_definitions.specs.Touch.{meet_outline}
use Rattle.frames.proofs.listed_pairs.meet_outline.Goals as goal

pub returns-then-kind-eq-OUTLINE : goal.returns-then-kind-eq-OUTLINE
unfolding meet_outline
returns-then-kind-eq-OUTLINE c =
    ap (λ (old : B2manifold). manifold_answered old c.b2_collide_polygons.result) (sym c.default_manifold-m.ensures)
    ∙ c.b2_collide_polygons.ensures
    ∙ simp (c.default_manifold-m.ensures, eq-eqb _ _ c.if-kind-eq-OUTLINE.true)

pub returns : goal.returns
unfolding meet_outline
returns c =
    ap (λ (old : B2manifold). manifold_answered old c.b2_collide_edge_and_polygon.result) (sym c.default_manifold-m.ensures)
    ∙ c.b2_collide_edge_and_polygon.ensures
    ∙ simp (c.default_manifold-m.ensures, ne_eqb _ _ c.if-kind-eq-OUTLINE.false)
