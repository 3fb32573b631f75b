-- The places and corners are gathered. Assumes nothing.
use native.Mathlib.Omega.{arith}
use Rattle.outline_contacts.proofs.Gathered.{face_is}
use Rattle.outline_contacts.proofs.faces.face_of.Goals as goal

pub returns : goal.returns
returns c =
    let after2 = c.after-iv2 in
    let after = c.after-i2 in
    let b2_find_incident_edge = c.b2_find_incident_edge-c in
    let b2_mul_t_rot_by_vec2 = c.b2_mul_t_rot_by_vec2-n in
    let b2_mul_rot_by_vec2 = c.b2_mul_rot_by_vec2 in
    let args = c.args in
    let good = c.well_formed in
    let pre = c.requires in
    let v1s_size = good.0.1.0.1 in
    let v2s_size = good.1.1.1.1.1.0.1.0.1 in
    let i2_in = after.ensures.0 in
    let iv2_in = after2.ensures.0 in
    face_is args.v1s args.edge args.normal args.count1 args.xf1 args.v2s args.n2s args.count2
    args.xf2
    args.flip _ _ _ _ _ _ b2_mul_rot_by_vec2.ensures b2_mul_t_rot_by_vec2.ensures
    b2_find_incident_edge.ensures.1
    after.ensures.1 after2.ensures.1 (omega (arith, pre.0, pre.1)) (omega (arith, pre.1))
    (omega (arith, pre.3))
