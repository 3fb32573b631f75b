-- An outline against a circle is as document 01 had it but for the normal at a corner that the circle's centre has no
-- length from: by cases of the choices. Assumes nothing.
use mathlib.Core.Path.{◌≡◌, refl}
use mathlib.Core.Bool.{Bool, true, false, not, cond, ◌&&◌}
use lib.Ieee.{Float, le, lt}
use Rattle.rounding.specs.Literals.{zero32, half32}
use Rattle.floats.specs.declared.b2_math.B2vec2.{B2vec2}
use Rattle.floats.specs.B2Common.{b2_epsilon}
use Rattle.floats.specs.B2Math.{b2_add, b2_sub, b2_scale, b2_dot, b2_normalize, unit_or_same}
use Rattle.shape_definitions.specs.declared.b2_polygon_shape.B2polygonShape.{B2polygonShape}
use Rattle.contact_definitions.specs.declared.b2_collision.B2manifold.{B2manifold}
use Rattle.contact_definitions.specs.declared.b2_collision.B2manifoldType.TheVariants.{EFaceA}
use Rattle.contact_definitions.specs.Manifold.{default_id, with_one_point}
use Rattle.contact_definitions.specs.B2CollideCircle.{farther, circle_at_corner, circle_at_face, circle_at_best}
use Rattle.contact_definitions.specs.B2CollideCircle.{polygon_circle_manifold}
use Rattle.contact_definitions.specs.CircleNormals.{corner_before, face_before, chosen, chosen_first}
use Rattle.contact_definitions.specs.CircleNormals.{chosen_second, chosen_normal, outside, manifold_before}
use Rattle.contact_definitions.specs.CircleNormals.{short_of, short_at, leaves_comparison, with_normal}
use Rattle.contact_definitions.specs.CircleNormals.{OnlyTheNormal}

-- what is made of a manifold is m, or with this normal where the test says so
abbrev Mended : B2vec2 → Bool → B2manifold → B2manifold → Type 0
Mended normal test before now = now ≡ cond test (with_normal normal before) before

module _ (old : B2manifold) (c : B2vec2) (radius : Float) (centre : B2vec2) where
  at_corner : (v normal : B2vec2)
      → Mended normal (short_of v c radius) (corner_before old v c radius centre)
      (circle_at_corner old v normal c radius centre)
  unfolding short_of corner_before circle_at_corner with_one_point
  at_corner v normal = go (farther radius c v) (b2_normalize (b2_sub c v)).had_length
    where
      from_corner : B2vec2 → B2manifold
      from_corner w = with_one_point old EFaceA w v centre default_id

      go : (far had : Bool)
          → Mended normal (not far && not had) (cond far old (from_corner (unit_or_same (b2_normalize (b2_sub c v)))))
          (cond far old (from_corner (cond had (unit_or_same (b2_normalize (b2_sub c v))) normal)))
      go true had = refl
      go false true = refl
      go false false = refl

  at_face : (v1 v2 normal : B2vec2) (separation : Float)
      → Mended normal (short_at v1 v2 separation c radius) (face_before old v1 v2 normal separation c radius centre)
      (circle_at_face old v1 v2 normal separation c radius centre)
  unfolding short_at face_before circle_at_face
  at_face v1 v2 normal separation =
      go (lt separation b2_epsilon) (le (b2_dot (b2_sub c v1) (b2_sub v2 v1)) zero32)
      (le (b2_dot (b2_sub c v2) (b2_sub v1 v2)) zero32)
    where
      middle : B2vec2
      middle = b2_scale half32 (b2_add v1 v2)

      at_middle : B2manifold
      at_middle = with_one_point old EFaceA normal middle centre default_id

      over : B2manifold
      over = cond (lt radius (b2_dot (b2_sub c middle) normal)) old at_middle

      go : (inside first second : Bool)
          → Mended normal (not inside && cond first (short_of v1 c radius) (second && short_of v2 c radius))
          (cond inside at_middle (cond first (corner_before old v1 c radius centre)
          (cond second (corner_before old v2 c radius centre) over)))
          (cond inside at_middle (cond first (circle_at_corner old v1 normal c radius centre)
          (cond second (circle_at_corner old v2 normal c radius centre) over)))
      go true first second = refl
      go false true second = at_corner v1 normal
      go false false true = at_corner v2 normal
      go false false false = refl

  at_outline : (poly : B2polygonShape)
      → Mended (chosen_normal poly c) (leaves_comparison poly c radius) (manifold_before old poly c radius centre)
      (polygon_circle_manifold old poly c radius centre)
  unfolding leaves_comparison manifold_before polygon_circle_manifold circle_at_best
  at_outline poly = go (outside poly c radius)
    where
      face : Mended (chosen_normal poly c)
          (short_at (chosen_first poly c) (chosen_second poly c) (chosen poly c).value c radius)
          (face_before old (chosen_first poly c) (chosen_second poly c) (chosen_normal poly c) (chosen poly c).value c
          radius centre)
          (circle_at_face old (chosen_first poly c) (chosen_second poly c) (chosen_normal poly c)
          (chosen poly c).value c radius centre)
      face = at_face (chosen_first poly c) (chosen_second poly c) (chosen_normal poly c) (chosen poly c).value

      go : (out : Bool)
          → Mended (chosen_normal poly c)
          (not out && short_at (chosen_first poly c) (chosen_second poly c) (chosen poly c).value c radius)
          (cond out old (face_before old (chosen_first poly c) (chosen_second poly c) (chosen_normal poly c)
          (chosen poly c).value c radius centre))
          (cond out old (circle_at_face old (chosen_first poly c) (chosen_second poly c) (chosen_normal poly c)
          (chosen poly c).value c radius centre))
      go true = refl
      go false = face

  pub mended : (poly : B2polygonShape) → OnlyTheNormal old poly c radius centre
  mended poly = record {
    elsewhere = λ stays. rw stays at (at_outline poly);
    there = λ leaves. rw leaves at (at_outline poly);
  }
