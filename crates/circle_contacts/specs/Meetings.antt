-- What the parts of outline against circle hand to each other: the face that the circle's centre is farthest out of,
-- where the circle meets the outline, and the manifold of that. Definitions only.
use Rattle.std.specs.Prelude.{◌≡◌, true, false, cond, List, ℕ, Float, Option, None, Some}
use Rattle.std.specs.Float.Ieee.{lt, add}
use Rattle.std.specs.Float.{binary32}
use Rattle.floats.specs.declared.b2_math.B2vec2.{B2vec2}
use Rattle.floats.specs.B2Math.{vec2, b2_sub, b2_dot, b2_mul_transform_by_vec2, b2_mul_t_transform_by_vec2}
use Rattle.floats.specs.declared.b2_math.B2Transform.{B2Transform}
use Rattle.shape_definitions.specs.Outline.{point_at, place_after}
use Rattle.shape_definitions.specs.declared.b2_circle_shape.B2circleShape.{B2circleShape}
use Rattle.shape_definitions.specs.declared.b2_polygon_shape.B2polygonShape.{B2polygonShape}
use Rattle.contact_definitions.specs.declared.axis.Best.{Best}
use Rattle.contact_definitions.specs.declared.b2_collision.B2manifold.{B2manifold}
use Rattle.contact_definitions.specs.declared.b2_collision.B2manifoldType.TheVariants.{EFaceA}
use Rattle.contact_definitions.specs.Searches.{some_below, first_greatest}
use Rattle.contact_definitions.specs.Manifold.{default_id, with_one_point, with_count}
use Rattle.contact_definitions.specs.B2CollideCircle.{circle_at_corner, circle_at_face, polygon_circle_manifold}
use Rattle.circle_contacts.specs.declared.outline_meeting.Meeting.{Meeting}
use Rattle.circle_contacts.specs.declared.outline_meeting.Side.{Side}

-- the manifold of a meeting, of the manifold without points and the circle's centre
abbrev pub met : Option Meeting → B2manifold → B2vec2 → B2manifold
met None old centre = old
met (Some at) old centre = with_one_point old EFaceA (vec2 at.nx at.ny) (vec2 at.x at.y) centre default_id

-- r is where the circle meets a corner of a face with this normal
abbrev pub AtCorner : B2vec2 → B2vec2 → B2vec2 → Float → Option Meeting → Type 0
AtCorner v normal c radius r =
    (old : B2manifold) (centre : B2vec2) → met r old centre ≡ circle_at_corner old v normal c radius centre

-- r is where the circle meets the face from v1 to v2
abbrev pub AtFace : B2vec2 → B2vec2 → B2vec2 → Float → B2vec2 → Float → Option Meeting → Type 0
AtFace v1 v2 normal separation c radius r =
    (old : B2manifold) (centre : B2vec2) → met r old centre ≡ circle_at_face old v1 v2 normal separation c radius centre

-- how far c is out of face i of the corners vs with the normals ns
abbrev pub out_of_face : List B2vec2 → List B2vec2 → B2vec2 → ℕ → Float
out_of_face vs ns c i = b2_dot (point_at ns i) (b2_sub c (point_at vs i))

-- the numbers of the best face
pub record FaceAt (vs ns : List B2vec2) (count : ℕ) (best : Best) (r : Side) : Type 0 where
  pub separation_is : r.separation ≡ best.value
  pub v1_is : r.v1 ≡ point_at vs best.place
  pub v2_is : r.v2 ≡ point_at vs (place_after count best.place)
  pub normal_is : r.normal ≡ point_at ns best.place

-- r is the face that c is farthest out of, unless c is out of some face by more than the radius
abbrev pub SideOf : List B2vec2 → List B2vec2 → ℕ → B2vec2 → Float → Option Side → Type 0
SideOf vs ns count c radius None = some_below (λ i. lt radius (out_of_face vs ns c i)) count ≡ true
SideOf vs ns count c radius (Some side) =
    (some_below (λ i. lt radius (out_of_face vs ns c i)) count ≡ false)
    × FaceAt vs ns count (first_greatest (out_of_face vs ns c) count) side

-- r is where the circle meets the outline of the first count corners
abbrev pub AtOutline : List B2vec2 → List B2vec2 → ℕ → B2vec2 → Float → Option Meeting → Type 0
AtOutline vs ns count c radius r =
    (old : B2manifold) (centre : B2vec2)
    → met r old centre
    ≡ cond (some_below (λ i. lt radius (out_of_face vs ns c i)) count) old
    (let best = first_greatest (out_of_face vs ns c) count in
    circle_at_face old (point_at vs best.place) (point_at vs (place_after count best.place))
    (point_at ns best.place)
    best.value c radius centre)

abbrev pub outline_circle : B2manifold → B2polygonShape → B2Transform → B2circleShape → B2Transform → B2manifold
outline_circle m a xfA b xfB =
    polygon_circle_manifold (with_count m 0) a
    (b2_mul_t_transform_by_vec2 xfA (b2_mul_transform_by_vec2 xfB b.m_p))
    (add binary32 a.m_radius b.m_radius) b.m_p
