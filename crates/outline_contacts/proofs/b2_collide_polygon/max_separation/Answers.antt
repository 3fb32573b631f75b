-- The rows are filled, lowered by every corner of the other outline, and searched. Assumes nothing.
use native.Mathlib.Omega.{arith}
use lib.ListN.{get_or-replicate}
use lib.Ieee.{nan}
use Rattle.floats.specs.B2Common.{b2_max_float}
use Rattle.outline_contacts.proofs.Separation.{greatest_separation}
use Rattle.outline_contacts.proofs.b2_collide_polygon.max_separation.Goals as goal

pub returns : goal.returns
returns g c =
    let lower_all = c.lower_all in
    let face_rows = c.face_rows in
    let padded = c.padded-n in
    let args = c.args in (
      c.greatest.ensures.0,
      greatest_separation args.xf args.v1s args.n1s args.v2s args.count1 args.count2
          padded.result _ _ _ _ _ _
          face_rows.ensures (omega arith) (λ i below. get_or-replicate 8 i b2_max_float nan (omega arith))
          lower_all.ensures _ c.greatest.ensures.1,
    )
