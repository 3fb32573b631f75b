-- Both places of the world points, and of the manifold. Assumes nothing.
use mathlib.Core.Path.{◌≡◌}
use native.Mathlib.Omega.{arith}
use lib.Ieee.{nan}
use lib.ListN.{length}
use Rattle.algebra.proofs.Lists.{getD_within}
use Rattle.floats.specs.declared.b2_math.B2vec2.{B2vec2}
use Rattle.floats.specs.B2Math.{vec2}
use Rattle.rounding.specs.Literals.{zero32}
use Rattle.shape_definitions.specs.Outline.{origin}
use Rattle.record_definitions.specs.Touch.{touch_of}
use Rattle.frames.proofs.NextAges.{point_read}
use Rattle.frames.proofs.test_result.touch_of.Goals as goal

pub returns : goal.returns
unfolding touch_of
returns c =
    let args = c.args in
    let good = c.well_formed in
    let m = args.m in
    let ps = args.w.points in
    let ss = args.w.separations in
    let world = good.1.1.1.1.1.0.1.1 in
    let ps_two : length ps ≡ 2 = world.1.0.1.0.1 in
    let ss_two : length ss ≡ 2 = world.1.1.0.1.0.1 in
    let m_two : length m.points ≡ 2 = good.1.1.0.1.1.0.1.0.1 in
    let past : B2vec2 = vec2 nan nan in
    simp (
      c.shown_kind.ensures,
      point_read m 0 m_two (omega arith),
      point_read m 1 m_two (omega arith),
      getD_within ps 0 past origin (omega arith),
      getD_within ps 1 past origin (omega arith),
      getD_within ss 0 nan zero32 (omega arith),
      getD_within ss 1 nan zero32 (omega arith),
    )
