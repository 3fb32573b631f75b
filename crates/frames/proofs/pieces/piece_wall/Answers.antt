-- Four points, one behind the other. Assumes nothing.
use mathlib.Core.Path.{◌≡◌}
use Prim.Native.Nat.{◌+◌}
use native.Mathlib.Omega.{arith}
use lib.Ieee.{nan}
use lib.ListN.{length}
use Rattle.algebra.proofs.Lists.{getD_within}
use Rattle.floats.specs.declared.b2_math.B2vec2.{B2vec2}
use Rattle.floats.specs.B2Math.{vec2}
use Rattle.shape_definitions.specs.Outline.{origin}
use Rattle.record_definitions.specs.World.{piece_wall}
use Rattle.frames.proofs.pieces.piece_wall.Goals as goal

pub returns : goal.returns
unfolding piece_wall
returns c =
    let ps = c.args.chain.points in
    let i = c.args.i in
    let ten : length ps ≡ 10 = c.well_formed.0.1.1.0.1.0.1 in
    let past : B2vec2 = vec2 nan nan in
    simp (
      getD_within ps i past origin (omega arith),
      getD_within ps (i + 1) past origin (omega arith),
      getD_within ps (i + 2) past origin (omega arith),
      getD_within ps (i + 3) past origin (omega arith),
    )
