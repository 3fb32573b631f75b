-- By the tests in order. Assumes nothing.
use mathlib.Core.Path.{sym}
use borrow.Author.Tests.{lt-ltb, le-ltb, eq-eqb, ne_eqb}
use Rattle.contact_definitions.specs.WorldManifold.{b2_world_manifold_initialize}
use Rattle.collision.proofs.b2_world_manifold.b2_world_manifold_initialize_core.Goals as goal

pub returns-then-count-gt-B2_MAX_MANIFOLD_POINTS : goal.returns-then-count-gt-B2_MAX_MANIFOLD_POINTS
unfolding b2_world_manifold_initialize
returns-then-count-gt-B2_MAX_MANIFOLD_POINTS c = simp (lt-ltb _ _ c.if-count-gt-B2_MAX_MANIFOLD_POINTS.true)

pub returns-then-count-eq0 : goal.returns-then-count-eq0
unfolding b2_world_manifold_initialize
returns-then-count-eq0 c = simp (le-ltb _ _ c.if-count-gt-B2_MAX_MANIFOLD_POINTS.false, eq-eqb _ _ c.if-count-eq0.true)

pub returns-then-not-numbers_in_range : goal.returns-then-not-numbers_in_range
unfolding b2_world_manifold_initialize
returns-then-not-numbers_in_range c =
    simp (
      le-ltb _ _ c.if-count-gt-B2_MAX_MANIFOLD_POINTS.false,
      ne_eqb _ _ c.if-count-eq0.false,
      sym c.numbers_in_range.ensures,
      c.if-not-numbers_in_range.true,
    )

pub returns-then-not-placements_in_range : goal.returns-then-not-placements_in_range
unfolding b2_world_manifold_initialize
returns-then-not-placements_in_range c =
    simp (
      le-ltb _ _ c.if-count-gt-B2_MAX_MANIFOLD_POINTS.false,
      ne_eqb _ _ c.if-count-eq0.false,
      sym c.numbers_in_range.ensures,
      c.if-not-numbers_in_range.false,
      sym c.placements_in_range.ensures,
      c.if-not-placements_in_range.true,
    )

pub returns : goal.returns
unfolding b2_world_manifold_initialize
returns c =
    simp (
      le-ltb _ _ c.if-count-gt-B2_MAX_MANIFOLD_POINTS.false,
      ne_eqb _ _ c.if-count-eq0.false,
      sym c.numbers_in_range.ensures,
      c.if-not-numbers_in_range.false,
      sym c.placements_in_range.ensures,
      c.if-not-placements_in_range.false,
      c.world_of_kind.ensures,
    )
