-- What both scans keep from here is what they keep of all places. Assumes nothing.
use native.Mathlib.Omega.{arith}
use Rattle.contact_definitions.specs.Searches.{below_value}
use Rattle.contact_definitions.proofs.Searches.{scanned_all}
use Rattle.wall_contacts.proofs.Scans.{least_begun, least_next}
use Rattle.wall_contacts.proofs.edge_separation.least_of.Goals as goal

pub loop-i-init : goal.loop-i-init
loop-i-init c = λ ahead behind f b. (least_begun ahead _, least_begun behind _)

pub loop-i-preserved : goal.loop-i-preserved
loop-i-preserved c =
    let i = c.loop-i.i in
    λ ahead behind f b.
    let so_far = c.loop-i.invariant ahead behind f b in (
      least_next ahead _ _ _ _ i _ (omega arith) (f.at i _ (omega arith)) c.b2_min-front.ensures so_far.0,
      least_next behind _ _ _ _ i _ (omega arith) (b.at i _ (omega arith)) c.b2_min-back.ensures so_far.1,
    )

pub returns : goal.returns
returns c =
    let i = c.loop-i.i in
    λ ahead behind f b.
    let so_far = c.loop-i.invariant ahead behind f b in (
      scanned_all below_value ahead _ _ i _ so_far.0 (omega arith),
      scanned_all below_value behind _ _ i _ so_far.1 (omega arith),
    )
