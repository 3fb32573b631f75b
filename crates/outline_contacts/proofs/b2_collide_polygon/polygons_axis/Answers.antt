-- By the three tests. Assumes nothing.
use Rattle.outline_contacts.proofs.Chosen.{found, apart_by_a, apart_by_b, on_face_b, on_face_a}
use Rattle.outline_contacts.proofs.b2_collide_polygon.polygons_axis.Goals as goal

pub returns-then-a-total_radius : goal.returns-then-a-total_radius
returns-then-a-total_radius c =
    let max_separation_a = c.max_separation-a in
    let b2_mul_t_transform = c.b2_mul_t_transform in
    let args = c.args in
    let a_found = found args.va args.na args.ca args.xa args.vb args.nb args.cb args.xb _ _
    b2_mul_t_transform.ensures max_separation_a.ensures.1 in (
      apart_by_a args.total_radius args.va args.na args.ca args.xa args.vb args.nb args.cb
          args.xb _ a_found
          c.if-a-total_radius.true,
      tt,
    )

pub returns-then-b-total_radius : goal.returns-then-b-total_radius
returns-then-b-total_radius c =
    let max_separation_b = c.max_separation-b in
    let b2_mul_t_transform2 = c.b2_mul_t_transform-2 in
    let if1 = c.if-a-total_radius in
    let max_separation_a = c.max_separation-a in
    let b2_mul_t_transform = c.b2_mul_t_transform in
    let args = c.args in
    let a_found = found args.va args.na args.ca args.xa args.vb args.nb args.cb args.xb _ _
    b2_mul_t_transform.ensures max_separation_a.ensures.1 in
    let b_found = found args.vb args.nb args.cb args.xb args.va args.na args.ca args.xa _ _
    b2_mul_t_transform2.ensures max_separation_b.ensures.1 in (
      apart_by_b args.total_radius args.va args.na args.ca args.xa args.vb args.nb args.cb
          args.xb _ a_found
          _ b_found if1.false c.if-b-total_radius.true,
      tt,
    )

pub returns-then-b-a : goal.returns-then-b-a
returns-then-b-a c =
    let if2 = c.if-b-total_radius in
    let max_separation_b = c.max_separation-b in
    let b2_mul_t_transform2 = c.b2_mul_t_transform-2 in
    let if1 = c.if-a-total_radius in
    let max_separation_a = c.max_separation-a in
    let b2_mul_t_transform = c.b2_mul_t_transform in
    let args = c.args in
    let a_found = found args.va args.na args.ca args.xa args.vb args.nb args.cb args.xb _ _
    b2_mul_t_transform.ensures max_separation_a.ensures.1 in
    let b_found = found args.vb args.nb args.cb args.xb args.va args.na args.ca args.xa _ _
    b2_mul_t_transform2.ensures max_separation_b.ensures.1 in (
      on_face_b args.total_radius args.va args.na args.ca args.xa args.vb args.nb args.cb
          args.xb _ a_found
          _ b_found if1.false if2.false c.if-b-a.true,
      (max_separation_b.ensures.0, b_found.normal_there),
    )

pub returns : goal.returns
returns c =
    let if2 = c.if-b-total_radius in
    let max_separation_b = c.max_separation-b in
    let b2_mul_t_transform2 = c.b2_mul_t_transform-2 in
    let if1 = c.if-a-total_radius in
    let max_separation_a = c.max_separation-a in
    let b2_mul_t_transform = c.b2_mul_t_transform in
    let args = c.args in
    let a_found = found args.va args.na args.ca args.xa args.vb args.nb args.cb args.xb _ _
    b2_mul_t_transform.ensures max_separation_a.ensures.1 in
    let b_found = found args.vb args.nb args.cb args.xb args.va args.na args.ca args.xa _ _
    b2_mul_t_transform2.ensures max_separation_b.ensures.1 in (
      on_face_a args.total_radius args.va args.na args.ca args.xa args.vb args.nb args.cb
          args.xb _ a_found
          _ b_found if1.false if2.false c.if-b-a.false,
      (max_separation_a.ensures.0, a_found.normal_there),
    )
