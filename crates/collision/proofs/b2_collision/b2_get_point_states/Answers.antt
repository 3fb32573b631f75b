-- `b2_get_point_states` meets its contract: 7, or the states. Assumes nothing.
use borrow.Author.Tests.{lt-ltb, le-ltb}
use Rattle.collision.proofs.States.{ids_of_two}
use Rattle.contact_definitions.specs.PointStates.{b2_get_point_states}
use Rattle.collision.proofs.b2_collision.b2_get_point_states.Goals as goal

pub returns-then-count1-gt-B2_MAX_MANIFOLD_POINTS : goal.returns-then-count1-gt-B2_MAX_MANIFOLD_POINTS
unfolding b2_get_point_states
returns-then-count1-gt-B2_MAX_MANIFOLD_POINTS c = simp (lt-ltb _ _ c.if-count1-gt-B2_MAX_MANIFOLD_POINTS.true)

pub returns-then-count2-gt-B2_MAX_MANIFOLD_POINTS : goal.returns-then-count2-gt-B2_MAX_MANIFOLD_POINTS
unfolding b2_get_point_states
returns-then-count2-gt-B2_MAX_MANIFOLD_POINTS c = simp (le-ltb _ _ c.if-count1-gt-B2_MAX_MANIFOLD_POINTS.false, lt-ltb _ _ c.if-count2-gt-B2_MAX_MANIFOLD_POINTS.true)

pub returns : goal.returns
unfolding b2_get_point_states
returns c =
    let m1 = c.args.manifold1 in
    let m2 = c.args.manifold2 in
    simp (
      le-ltb _ _ c.if-count1-gt-B2_MAX_MANIFOLD_POINTS.false,
      le-ltb _ _ c.if-count2-gt-B2_MAX_MANIFOLD_POINTS.false,
      c.states_of_ids.ensures,
      c.counted_ids.ensures,
      c.counted_ids-2.ensures,
      ids_of_two m1 c.well_formed.1.0.1.1.0.1.0.1
          c.if-count1-gt-B2_MAX_MANIFOLD_POINTS.false,
      ids_of_two m2 c.well_formed.1.1.0.1.1.0.1.0.1
          c.if-count2-gt-B2_MAX_MANIFOLD_POINTS.false,
    )
