-- The places below i are done, the others as they were. Assumes nothing.
use mathlib.Core.Path.{◌∙◌, ap₂}
use native.Mathlib.Omega.{arith}
use Rattle.floats.specs.B2Math.{b2_min}
use Rattle.outline_contacts.specs.FaceRows.{at, distance_at}
use Rattle.outline_contacts.proofs.RowPlaces.{eight_set, row_next, rest_next, distance_is}
use Rattle.outline_contacts.proofs.rows.lower.Goals as goal

pub loop-i-preserved : goal.loop-i-preserved
loop-i-preserved c =
    let args = c.args in
    let nxs = args.rows.now.nxs in
    let nys = args.rows.now.nys in
    let xs = args.rows.now.xs in
    let ys = args.rows.now.ys in
    let v = args.v in
    let old = args.s.now in
    let s = c.loop-i.s in
    let i = c.loop-i.i in
    let inv = c.loop-i.invariant in (
      eight_set s i _ inv.0,
      row_next s i _ (λ k. b2_min (distance_at nxs nys xs ys v k) (at old k)) (omega arith) inv.1
          (c.b2_min.ensures ∙ ap₂ b2_min (distance_is nxs nys xs ys v i) (inv.2 i (omega arith))),
      rest_next s i _ old inv.2,
    )
