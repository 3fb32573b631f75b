-- What outline against circle makes of a manifold: the manifold, or one with a point, at the middle of the chosen face
-- or at one of its ends. So what holds of these four holds of the result. Assumes nothing.
use lib.Ieee.{Float, le, lt}
use Rattle.rounding.specs.Literals.{zero32, half32}
use Rattle.floats.specs.declared.b2_math.B2vec2.{B2vec2}
use Rattle.floats.specs.B2Common.{b2_epsilon}
use Rattle.floats.specs.B2Math.{b2_add, b2_sub, b2_scale, b2_dot, b2_normalize, unit_or}
use Rattle.shape_definitions.specs.declared.b2_polygon_shape.B2polygonShape.{B2polygonShape}
use Rattle.contact_definitions.specs.declared.b2_collision.B2manifold.{B2manifold}
use Rattle.contact_definitions.specs.declared.b2_collision.B2manifoldType.TheVariants.{EFaceA}
use Rattle.contact_definitions.specs.Manifold.{default_id, with_one_point}
use Rattle.contact_definitions.specs.B2CollideCircle.{farther, circle_at_corner, circle_at_face, circle_at_best}
use Rattle.contact_definitions.specs.B2CollideCircle.{polygon_circle_manifold}
use Rattle.contact_definitions.specs.CircleNormals.{chosen, chosen_first, chosen_second, chosen_normal, outside}
use Rattle.contact_definitions.proofs.Counts.{either}

module _ (P : B2manifold → Type 0) (m : B2manifold) (c : B2vec2) (radius : Float) (centre : B2vec2) where
  -- at the middle of a face, and at its end v
  abbrev AtMiddle : B2vec2 → B2vec2 → B2vec2 → Type 0
  AtMiddle v1 v2 normal = P (with_one_point m EFaceA normal (b2_scale half32 (b2_add v1 v2)) centre default_id)

  abbrev AtEnd : B2vec2 → B2vec2 → Type 0
  AtEnd v normal = P (with_one_point m EFaceA (unit_or normal (b2_normalize (b2_sub c v))) v centre default_id)

  module _ (given : P m) where
    at_corner : (v normal : B2vec2) → AtEnd v normal → P (circle_at_corner m v normal c radius centre)
    unfolding circle_at_corner
    at_corner v normal written = either P (farther radius c v) _ _ given written

    at_face : (v1 v2 normal : B2vec2) (separation : Float) → AtMiddle v1 v2 normal → AtEnd v1 normal → AtEnd v2 normal
        → P (circle_at_face m v1 v2 normal separation c radius centre)
    unfolding circle_at_face
    at_face v1 v2 normal separation middle first second =
        let over = b2_scale half32 (b2_add v1 v2) in
        either P (lt separation b2_epsilon) _ _ middle
        (either P (le (b2_dot (b2_sub c v1) (b2_sub v2 v1)) zero32) _ _ (at_corner v1 normal first)
        (either P (le (b2_dot (b2_sub c v2) (b2_sub v1 v2)) zero32) _ _ (at_corner v2 normal second)
        (either P (lt radius (b2_dot (b2_sub c over) normal)) _ _ given middle)))

    pub at_outline : (poly : B2polygonShape)
        → AtMiddle (chosen_first poly c) (chosen_second poly c) (chosen_normal poly c)
        → AtEnd (chosen_first poly c) (chosen_normal poly c) → AtEnd (chosen_second poly c) (chosen_normal poly c)
        → P (polygon_circle_manifold m poly c radius centre)
    unfolding polygon_circle_manifold circle_at_best
    at_outline poly middle first second =
        either P (outside poly c radius) _ _ given
        (at_face (chosen_first poly c) (chosen_second poly c) (chosen_normal poly c) (chosen poly c).value middle first
        second)
