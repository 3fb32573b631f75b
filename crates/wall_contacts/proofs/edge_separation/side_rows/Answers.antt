-- The places below i are filled, whatever points the rows hold. Assumes nothing.
use mathlib.Core.Path.{◌∙◌, ap, ap₂}
use native.Mathlib.Omega.{arith}
use Rattle.floats.specs.B2Math.{b2_dot}
use Rattle.wall_contacts.proofs.RowsFilled.{row_fewer, row_next, difference_read}
use Rattle.wall_contacts.proofs.edge_separation.side_rows.Goals as goal

pub loop-i-preserved : goal.loop-i-preserved
loop-i-preserved c =
    let loop' = c.loop-i in
    let i = loop'.i in
    λ corner rows.
    let d_is = difference_read i _ _ _ _ (omega arith) rows c.b2_sub-d.ensures in
    let so_far = loop'.invariant corner rows in (
      row_next _ (omega arith) so_far.0 (c.b2_dot.ensures ∙ ap (b2_dot _) d_is),
      row_next _ (omega arith) so_far.1 (c.b2_dot-in-loop-i.ensures ∙ ap₂ b2_dot c.b2_neg.ensures d_is),
    )

pub returns : goal.returns
returns c = λ corner rows.
    let so_far = c.loop-i.invariant corner rows in
    (row_fewer (omega arith) so_far.0, row_fewer (omega arith) so_far.1)
