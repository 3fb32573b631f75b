-- Each field in its turn. Assumes nothing.
use Rattle.contact_definitions.specs.B2CollidePolygon.{face_along}
use Rattle.outline_contacts.proofs.faces.placed_face.Goals as goal

pub returns : goal.returns
unfolding face_along
returns c =
    let b2_dot = c.b2_dot in
    let b2_neg = c.b2_neg in
    let b2_cross_vec_by_scalar = c.b2_cross_vec_by_scalar in
    let b2_mul_rot_by_vec2 = c.b2_mul_rot_by_vec2-tangent in
    let b2_mul_transform_by_vec22 = c.b2_mul_transform_by_vec2-w12 in
    let b2_mul_transform_by_vec2 = c.b2_mul_transform_by_vec2-w11 in
    simp (
      c.b2_dot-2.ensures,
      b2_dot.ensures,
      b2_neg.ensures,
      b2_cross_vec_by_scalar.ensures,
      b2_mul_rot_by_vec2.ensures,
      b2_mul_transform_by_vec22.ensures,
      b2_mul_transform_by_vec2.ensures,
    )
