-- What the scan keeps from here is what it keeps of all places. Assumes nothing.
use mathlib.Core.Path.{sym, ◌∙◌, ap}
use Prim.Native.Nat.{ℕ, ◌<◌}
use native.Mathlib.Omega.{arith}
use lib.ListN.{length}
use lib.Ieee.{Float, lt}
use Rattle.floats.specs.B2Math.{b2_dot}
use Rattle.shape_definitions.specs.Outline.{point_at}
use Rattle.contact_definitions.specs.declared.axis.Best.{Best}
use Rattle.contact_definitions.specs.Searches.{valued, is_less, first_least}
use Rattle.contact_definitions.proofs.Searches.{scan_starts, replaced_by, kept_over, scanned_all}
use Rattle.outline_contacts.proofs.Gathered.{dot_is, corner_is}
use Rattle.outline_contacts.proofs.faces.b2_find_incident_edge.Goals as goal
use Rattle.outline_contacts.proofs.faces.b2_find_incident_edge.Goals.{then-dot-min_dot, else-dot-min_dot}

pub loop-i-init : goal.loop-i-init
unfolding first_least
loop-i-init c = (omega arith, scan_starts is_less (valued (λ k. b2_dot c.args.n (point_at c.args.ns k))) _ c.args.count)

pub loop-i-preserved : goal.loop-i-preserved
loop-i-preserved c =
    let loop = c.loop-i in
    let args = c.args in
    let f : ℕ → Float = λ k. b2_dot args.n (point_at args.ns k) in
    let i = loop.i in
    let inv = loop.invariant in
    let best : Best = record { place = loop.index; value = loop.min_dot } in
    let within : i < length args.ns = omega arith in
    let value_is = dot_is args.n args.ns i in
    elim c.if-dot-min_dot.branch [
      | then-dot-min_dot w ↦ rw (w.index-is, w.min_dot-is) (
        omega arith,
        replaced_by is_less (valued f) best _ i args.count inv.1 _ (omega arith)
            (ap (λ (x : Float). lt x loop.min_dot) (sym (value_is _ within)) ∙ w.if-dot-min_dot.true)
            (ap (λ (x : Float). record { place = i; value = x }) (value_is _ within)),
      )
      | else-dot-min_dot w ↦ rw (w.index-is, w.min_dot-is) (
        inv.0,
        kept_over is_less (valued f) best _ i args.count inv.1 (omega arith)
            (ap (λ (x : Float). lt x loop.min_dot) (sym (value_is _ within)) ∙ w.if-dot-min_dot.false),
      )
    ]

pub returns : goal.returns
returns c =
    let loop = c.loop-i in
    let args = c.args in
    let f : ℕ → Float = λ k. b2_dot args.n (point_at args.ns k) in
    let inv = loop.invariant in
    let best : Best = record { place = loop.index; value = loop.min_dot } in (
      inv.0,
      corner_is args.vs loop.index loop.min_dot _ _ (omega arith)
          (scanned_all is_less (valued f) best _ loop.i args.count inv.1 (omega arith)),
    )
