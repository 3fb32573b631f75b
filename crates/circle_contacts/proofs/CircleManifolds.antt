-- The manifolds of two circles, and of an outline and a circle, from what the code found; and what a manifold without
-- points keeps. Assumes nothing.
use mathlib.Core.Path.{◌≡◌, sym, ◌∙◌, ap, ap₂}
use mathlib.Core.Bool.{Bool, true, false}
use Rattle.std.specs.declared.option.Option.{Option}
use Rattle.std.specs.declared.option.Option.TheVariants.{None, Some}
use lib.Ieee.{binary32, add}
use Rattle.floats.specs.declared.b2_math.B2vec2.{B2vec2}
use Rattle.floats.specs.declared.b2_math.B2Transform.{B2Transform}
use Rattle.floats.specs.B2Math.{vec2, b2_mul_transform_by_vec2, b2_mul_t_transform_by_vec2}
use Rattle.shape_definitions.specs.declared.b2_circle_shape.B2circleShape.{B2circleShape}
use Rattle.shape_definitions.specs.declared.b2_polygon_shape.B2polygonShape.{B2polygonShape}
use Rattle.shape_definitions.specs.Outline.{origin}
use Rattle.contact_definitions.specs.declared.b2_collision.B2manifold.{B2manifold}
use Rattle.contact_definitions.specs.declared.b2_collision.B2manifoldType.TheVariants.{ECircles, EFaceA}
use Rattle.contact_definitions.specs.Manifold.{default_id, with_count, with_one_point}
use Rattle.contact_definitions.specs.B2CollideCircle.{farther, circles_manifold, circle_separation, circle_at_best}
use Rattle.contact_definitions.specs.B2CollideCircle.{polygon_circle_manifold}
use Rattle.contact_definitions.proofs.Counts.{one_point_anew}
use Rattle.circle_contacts.specs.declared.outline_meeting.Meeting.{Meeting}
use Rattle.circle_contacts.specs.Meetings.{met, AtOutline}
use Rattle.circle_contacts.specs.Meetings.{outline_circle}

-- ---- two circles: far is whether they are farther apart than both radii
module _ (m : B2manifold) (a : B2circleShape) (xfA : B2Transform) (b : B2circleShape) (xfB : B2Transform)
    (at_a at_b : B2vec2) (far : Bool)
    (at_a_is : at_a ≡ b2_mul_transform_by_vec2 xfA a.m_p) (at_b_is : at_b
    ≡ b2_mul_transform_by_vec2 xfB b.m_p)
    (far_is : far ≡ farther (add binary32 a.m_radius b.m_radius) at_b at_a) where
  tested : (t : Bool) → far ≡ t
      → farther (add binary32 a.m_radius b.m_radius) (b2_mul_transform_by_vec2 xfB b.m_p)
      (b2_mul_transform_by_vec2 xfA a.m_p) ≡ t
  tested t h =
      sym (ap₂ (farther (add binary32 a.m_radius b.m_radius)) at_b_is at_a_is) ∙ sym far_is ∙ h

  pub circles_far : (r : B2manifold) → far ≡ true → r ≡ with_count m 0 → r
      ≡ circles_manifold (with_count m 0) a xfA b xfB
  unfolding circles_manifold
  circles_far r h r_is = simp (tested true h) r_is

  pub circles_near : (r : B2manifold) → far ≡ false → r ≡ with_one_point m ECircles origin a.m_p
      b.m_p default_id
      → r ≡ circles_manifold (with_count m 0) a xfA b xfB
  unfolding circles_manifold
  circles_near r h r_is =
      simp (tested false h) (r_is ∙ one_point_anew m ECircles origin a.m_p b.m_p default_id)

-- ---- an outline and a circle: r is where they meet, the circle's centre carried by both placements to c
module _ (m : B2manifold) (a : B2polygonShape) (xfA : B2Transform) (b : B2circleShape) (xfB : B2Transform)
    (placed c : B2vec2) (r : Option Meeting)
    (placed_is : placed ≡ b2_mul_transform_by_vec2 xfB b.m_p) (c_is : c ≡ b2_mul_t_transform_by_vec2 xfA placed)
    (meets : AtOutline a.m_vertices a.m_normals a.m_count c
    (add binary32 a.m_radius b.m_radius) r) where
  met_is : met r (with_count m 0) b.m_p ≡ outline_circle m a xfA b xfB
  unfolding polygon_circle_manifold circle_at_best circle_separation
  met_is =
      meets (with_count m 0) b.m_p
      ∙ ap (λ (q : B2vec2). polygon_circle_manifold (with_count m 0) a q
      (add binary32 a.m_radius b.m_radius) b.m_p)
      (c_is ∙ ap (b2_mul_t_transform_by_vec2 xfA) placed_is)

  pub meets_not : (made : B2manifold) → r ≡ None → made ≡ with_count m 0 → made ≡ outline_circle m a xfA b xfB
  meets_not made nothing made_is =
      made_is ∙ ap (λ (t : Option Meeting). met t (with_count m 0) b.m_p) (sym nothing) ∙ met_is

  pub meets_at : (made : B2manifold) (point : Meeting) → r ≡ Some point
      → made ≡ with_one_point m EFaceA (vec2 point.nx point.ny) (vec2 point.x point.y) b.m_p default_id
      → made ≡ outline_circle m a xfA b xfB
  meets_at made point at made_is =
      made_is ∙ one_point_anew m EFaceA (vec2 point.nx point.ny) (vec2 point.x point.y) b.m_p default_id
      ∙ ap (λ (t : Option Meeting). met t (with_count m 0) b.m_p) (sym at) ∙ met_is
