-- What the scan keeps from here is what it keeps of all faces. Assumes nothing.
use native.Mathlib.Omega.{arith}
use Rattle.contact_definitions.specs.Axis.{keeps_farther}
use Rattle.contact_definitions.specs.EdgeAxis.{outline_axis}
use Rattle.contact_definitions.proofs.Searches.{scanned}
use Rattle.wall_contacts.proofs.FaceScan.{faces_begun, face_taken, face_left}
use Rattle.wall_contacts.proofs.edge_separation.b2_compute_polygon_separation.Goals as goal
use Rattle.wall_contacts.proofs.edge_separation.b2_compute_polygon_separation.Goals.{then-s-separation, else-s-separation}

pub loop-i-init : goal.loop-i-init
loop-i-init c = λ xf poly v1 v2 count_is rows normals. faces_begun xf poly v1 v2 _ count_is

pub loop-i-preserved : goal.loop-i-preserved
loop-i-preserved c =
    let i = c.loop-i.i in
    let inv = c.loop-i.invariant in
    elim c.if-s-separation.branch [
      | then-s-separation w ↦ rw (w.separation-is, w.x-is, w.y-is, w.place-is) (λ xf poly v1 v2 count_is rows normals.
          scanned keeps_farther (outline_axis xf poly v1 v2) _ _ i _ (inv xf poly v1 v2 count_is rows normals) _
          (omega arith)
          (face_taken xf poly v1 v2 i _ _ _ _ _ (rows.at i _ (omega arith)) _ _ (normals.x.at i _ (omega arith))
          (normals.y.at i _ (omega arith)) w.if-s-separation.true))
      | else-s-separation w ↦ rw (w.separation-is, w.x-is, w.y-is, w.place-is) (λ xf poly v1 v2 count_is rows normals.
          scanned keeps_farther (outline_axis xf poly v1 v2) _ _ i _ (inv xf poly v1 v2 count_is rows normals) _
          (omega arith)
          (face_left xf poly v1 v2 i _ _ _ _ _ (rows.at i _ (omega arith)) w.if-s-separation.false))
    ]
