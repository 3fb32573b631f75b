-- By the flag. Assumes nothing.
use mathlib.Core.Path.{sym, ◌∙◌, ap}
use native.Mathlib.Omega.{arith}
use borrow.Author.Tests.{eq-eqb, ne_eqb}
use Rattle.shape_definitions.specs.declared.b2_edge_shape.B2edgeShape.{B2edgeShape}
use Rattle.shape_definitions.specs.Answers.{edge_answered}
use Rattle.record_definitions.specs.Frame.{wall_at}
use Rattle.frames.proofs.body_frames.wall_read.Goals as goal

pub returns-then-byte-eq0 : goal.returns-then-byte-eq0
unfolding wall_at
returns-then-byte-eq0 c =
    ap (λ (old : B2edgeShape). edge_answered old c.b2_set_two_sided.result) (sym c.blank_wall.ensures)
    ∙ c.b2_set_two_sided.ensures
    ∙ simp (
      c.blank_wall.ensures,
      c.vector-v0.ensures,
      c.vector-v1.ensures,
      eq-eqb _ _ (sym c.byte.ensures ∙ c.if-byte-eq0.true),
    )

pub vector-v2-requires : goal.vector-v2-requires
vector-v2-requires c = omega (arith, c.requires.1 (λ none. c.if-byte-eq0.false (c.byte.ensures ∙ none)))

pub vector-v3-requires : goal.vector-v3-requires
vector-v3-requires c = omega (arith, c.requires.1 (λ none. c.if-byte-eq0.false (c.byte.ensures ∙ none)))

pub returns : goal.returns
unfolding wall_at
returns c =
    ap (λ (old : B2edgeShape). edge_answered old c.b2_set_one_sided.result) (sym c.blank_wall-2.ensures)
    ∙ c.b2_set_one_sided.ensures
    ∙ simp (
      c.blank_wall-2.ensures,
      c.vector-v0.ensures,
      c.vector-v1.ensures,
      c.vector-v2.ensures,
      c.vector-v3.ensures,
      ne_eqb _ _ (λ none. c.if-byte-eq0.false (c.byte.ensures ∙ none)),
    )
