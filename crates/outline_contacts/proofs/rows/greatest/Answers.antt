-- What the scan keeps from here is what it keeps of all places. Assumes nothing.
use mathlib.Core.Path.{refl}
use native.Mathlib.Omega.{arith}
use Rattle.contact_definitions.specs.Searches.{valued, is_greater, first_greatest}
use Rattle.contact_definitions.proofs.Searches.{scan_starts, replaced_by, kept_over, scanned_all}
use Rattle.contact_definitions.specs.declared.axis.Best.{Best}
use Rattle.outline_contacts.specs.FaceRows.{at}
use Rattle.outline_contacts.proofs.RowPlaces.{faced_is}
use Rattle.outline_contacts.proofs.rows.greatest.Goals as goal
use Rattle.outline_contacts.proofs.rows.greatest.Goals.{then-x-value, else-x-value}

pub loop-i-init : goal.loop-i-init
unfolding first_greatest
loop-i-init c = (omega arith, scan_starts is_greater (valued (at c.args.s.now)) _ c.args.count)

pub loop-i-preserved : goal.loop-i-preserved
loop-i-preserved c =
    let loop = c.loop-i in
    let s = c.args.s.now in
    let count = c.args.count in
    let i = loop.i in
    let inv = loop.invariant in
    let best : Best = record { place = loop.place; value = loop.value } in
    elim c.if-x-value.branch [
      | then-x-value w ↦ rw (w.place-is, w.value-is) (
        omega arith,
        replaced_by is_greater (valued (at s)) best _ i count inv.1 (valued (at s) i) (omega arith) w.if-x-value.true refl,
      )
      | else-x-value w ↦ rw (w.place-is, w.value-is) (
        inv.0,
        kept_over is_greater (valued (at s)) best _ i count inv.1 (omega arith) w.if-x-value.false,
      )
    ]

pub returns : goal.returns
returns c =
    let loop = c.loop-i in
    let args = c.args in
    let s = args.s.now in
    let place = loop.place in
    let inv = loop.invariant in
    let best : Best = record { place = place; value = loop.value } in (
      inv.0,
      faced_is args.ns place loop.value _ _ (omega arith)
          (scanned_all is_greater (valued (at s)) best _ loop.i args.count inv.1 (omega arith)),
    )
