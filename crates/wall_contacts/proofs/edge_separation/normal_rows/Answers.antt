-- The places below i are filled, whatever points the rows hold. Assumes nothing.
use mathlib.Core.Path.{◌∙◌, ap}
use native.Mathlib.Omega.{arith}
use Rattle.floats.specs.B2Math.{b2_mul_rot_by_vec2}
use Rattle.wall_contacts.proofs.RowsFilled.{row_fewer, row_next, points_fewer}
use Rattle.wall_contacts.proofs.RowsFilled.{points_next, at_place, face_read}
use Rattle.wall_contacts.proofs.edge_separation.normal_rows.Goals as goal

pub loop-i-preserved : goal.loop-i-preserved
loop-i-preserved c =
    let i = c.loop-i.i in
    let inv = c.loop-i.invariant in
    let m_is = c.b2_mul_rot_by_vec2-m.ensures ∙ ap (b2_mul_rot_by_vec2 c.args.q)
    (at_place c.args.ns i _ (omega arith)) in (
      points_next _ (omega arith) inv.0 m_is,
      λ corner rows. row_next _ (omega arith) (inv.1 corner rows)
          (face_read i _ _ _ _ _ _ _ (omega arith) rows m_is c.face_distance.ensures),
    )

pub returns : goal.returns
returns c =
    let inv = c.loop-i.invariant in
    (points_fewer (omega arith) inv.0, λ corner rows. row_fewer (omega arith) (inv.1 corner rows))
