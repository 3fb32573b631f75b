-- The world manifold of circles from what the code computes: one point over the first place. Assumes nothing.
use mathlib.Core.Path.{◌≡◌, ap, ap₂, ◌∙◌}
use mathlib.Core.List.{List, [], ◌∷◌}
use lib.ListN.{length, get_or}
use lib.Ieee.{Float}
use Rattle.rounding.specs.Literals.{half32}
use Rattle.floats.specs.declared.b2_math.B2vec2.{B2vec2}
use Rattle.floats.specs.declared.b2_math.B2Transform.{B2Transform}
use Rattle.floats.specs.B2Math.{b2_add, b2_sub, b2_scale, b2_dot, b2_mul_transform_by_vec2}
use Rattle.contact_definitions.specs.declared.b2_collision.B2manifoldPoint.{B2manifoldPoint}
use Rattle.contact_definitions.specs.declared.b2_collision.B2manifold.{B2manifold}
use Rattle.contact_definitions.specs.declared.b2_collision.B2worldManifold.{B2worldManifold}
use Rattle.contact_definitions.specs.Manifold.{default_point}
use Rattle.contact_definitions.specs.WorldManifold.{circles_normal, world_of_circles}
use Rattle.algebra.proofs.Two.{first_place, one_over}

module _ (old : B2worldManifold) (m : B2manifold) (d : B2manifoldPoint) (e : B2vec2) (f : Float)
    (xfA : B2Transform) (radiusA : Float) (xfB : B2Transform) (radiusB : Float) (m_two : length m.points ≡ 2)
    (points_two : length old.points ≡ 2) (separations_two : length old.separations ≡ 2) where
  -- of the centres a and b
  abbrev made : B2vec2 → B2vec2 → B2worldManifold
  made a b =
      let normal = circles_normal a b in
      let on_a = b2_add a (b2_scale radiusA normal) in
      let on_b = b2_sub b (b2_scale radiusB normal) in
      record {
        normal = normal;
        points = b2_scale half32 (b2_add on_a on_b) ∷ get_or old.points 1 e ∷ [];
        separations = b2_dot (b2_sub on_b on_a) normal ∷ get_or old.separations 1 f ∷ [];
      }

  made_is : made (b2_mul_transform_by_vec2 xfA m.local_point)
      (b2_mul_transform_by_vec2 xfB (get_or m.points 0 d).local_point)
      ≡ world_of_circles old m xfA radiusA xfB radiusB
  unfolding world_of_circles
  made_is =
      ap (λ (p : B2manifoldPoint). made (b2_mul_transform_by_vec2 xfA m.local_point)
      (b2_mul_transform_by_vec2 xfB p.local_point)) (first_place m.points d default_point m_two)
      ∙ ap₂ (λ (ps : List B2vec2) (ss : List Float). record {
        normal = circles_normal (b2_mul_transform_by_vec2 xfA m.local_point)
            (b2_mul_transform_by_vec2 xfB (get_or m.points 0 default_point).local_point);
        points = ps;
        separations = ss;
      })
      (one_over old.points _ e points_two) (one_over old.separations _ f separations_two)

  pub circles_are : (a b normal on_a on_b middle : B2vec2) (separation : Float)
      → a ≡ b2_mul_transform_by_vec2 xfA m.local_point
      → b ≡ b2_mul_transform_by_vec2 xfB (get_or m.points 0 d).local_point → normal ≡ circles_normal a b
      → on_a ≡ b2_add a (b2_scale radiusA normal) → on_b ≡ b2_sub b (b2_scale radiusB normal)
      → middle ≡ b2_scale half32 (b2_add on_a on_b) → separation ≡ b2_dot (b2_sub on_b on_a) normal
      → ◌≡◌ {A = B2worldManifold} (record {
        normal = normal;
        points = middle ∷ get_or old.points 1 e ∷ [];
        separations = separation ∷ get_or old.separations 1 f ∷ [];
      }) (world_of_circles old m xfA radiusA xfB radiusB)
  circles_are a b normal on_a on_b middle separation a_is b_is normal_is on_a_is on_b_is middle_is separation_is =
      simp (middle_is, separation_is, on_a_is, on_b_is, normal_is, a_is, b_is) made_is
