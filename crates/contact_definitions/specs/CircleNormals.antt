-- Document 02, request 07: the normal of an outline against a circle. What document 01 had at a corner, which is what
-- the Rust hands back; the inputs that leave the comparison with it; and what a normal that pushes is. Definitions only.
use Rattle.std.specs.Prelude.{◌≡◌, Bool, true, false, not, cond, ◌&&◌, List, ℕ, ◌<◌, T, length, Float}
use Rattle.std.specs.Float.{binary32}
use Rattle.std.specs.Float.Ieee.{fits, le, lt}
use Rattle.rounding.specs.Literals.{zero32, half32}
use Rattle.rounding.specs.Value.{mag}
use Rattle.floats.specs.declared.b2_math.B2vec2.{B2vec2}
use Rattle.floats.specs.declared.b2_math.B2Transform.{B2Transform}
use Rattle.floats.specs.B2Common.{b2_epsilon}
use Rattle.floats.specs.B2Math.{b2_add, b2_sub, b2_scale, b2_dot, b2_normalize, unit_or_same}
use Rattle.floats.specs.NearUnit.{NearUnit}
use Rattle.shape_definitions.specs.declared.b2_circle_shape.B2circleShape.{B2circleShape}
use Rattle.shape_definitions.specs.declared.b2_polygon_shape.B2polygonShape.{B2polygonShape}
use Rattle.shape_definitions.specs.Outline.{point_at, place_after}
use Rattle.shape_definitions.specs.Refusal.{accepted}
use Rattle.contact_definitions.specs.declared.axis.Best.{Best}
use Rattle.contact_definitions.specs.declared.b2_collision.B2manifold.{B2manifold}
use Rattle.contact_definitions.specs.declared.b2_collision.B2manifoldType.TheVariants.{EFaceA}
use Rattle.contact_definitions.specs.Searches.{some_below, first_greatest}
use Rattle.contact_definitions.specs.Manifold.{default_id, with_one_point}
use Rattle.contact_definitions.specs.B2CollideCircle.{farther, circle_separation, polygon_circle_manifold}
use Rattle.contact_definitions.specs.B2CollideCircle.{b2_collide_polygon_and_circle}

-- ---- document 01: at a corner the unit vector from it to c or, where that had no length, the same vector, zero too
unfoldable pub corner_before : B2manifold → B2vec2 → B2vec2 → Float → B2vec2 → B2manifold
corner_before old v c radius centre =
    cond (farther radius c v) old
    (with_one_point old EFaceA (unit_or_same (b2_normalize (b2_sub c v))) v centre default_id)

unfoldable pub face_before : B2manifold → B2vec2 → B2vec2 → B2vec2 → Float → B2vec2 → Float → B2vec2 → B2manifold
face_before old v1 v2 normal separation c radius centre =
    let middle = b2_scale half32 (b2_add v1 v2) in
    let at_middle = with_one_point old EFaceA normal middle centre default_id in
    cond (lt separation b2_epsilon) at_middle
    (cond (le (b2_dot (b2_sub c v1) (b2_sub v2 v1)) zero32) (corner_before old v1 c radius centre)
    (cond (le (b2_dot (b2_sub c v2) (b2_sub v1 v2)) zero32) (corner_before old v2 c radius centre)
    (cond (lt radius (b2_dot (b2_sub c middle) normal)) old at_middle)))

-- the face that c is farthest out of, the first of equals: its ends and its normal
abbrev pub chosen : B2polygonShape → B2vec2 → Best
chosen poly c = first_greatest (circle_separation poly c) poly.m_count

abbrev pub chosen_first : B2polygonShape → B2vec2 → B2vec2
chosen_first poly c = point_at poly.m_vertices (chosen poly c).place

abbrev pub chosen_second : B2polygonShape → B2vec2 → B2vec2
chosen_second poly c = point_at poly.m_vertices (place_after poly.m_count (chosen poly c).place)

abbrev pub chosen_normal : B2polygonShape → B2vec2 → B2vec2
chosen_normal poly c = point_at poly.m_normals (chosen poly c).place

-- c is out of some face by more than the radius
abbrev pub outside : B2polygonShape → B2vec2 → Float → Bool
outside poly c radius = some_below (λ i. lt radius (circle_separation poly c i)) poly.m_count

unfoldable pub manifold_before : B2manifold → B2polygonShape → B2vec2 → Float → B2vec2 → B2manifold
manifold_before old poly c radius centre =
    cond (outside poly c radius) old
    (face_before old (chosen_first poly c) (chosen_second poly c) (chosen_normal poly c) (chosen poly c).value c radius
    centre)

-- ---- the inputs that leave the comparison: c is out of the chosen face, at one of its corners, within the radius of
-- it, and has no length from it
unfoldable pub short_of : B2vec2 → B2vec2 → Float → Bool
short_of v c radius = not (farther radius c v) && not (b2_normalize (b2_sub c v)).had_length

unfoldable pub short_at : B2vec2 → B2vec2 → Float → B2vec2 → Float → Bool
short_at v1 v2 separation c radius =
    not (lt separation b2_epsilon)
    && cond (le (b2_dot (b2_sub c v1) (b2_sub v2 v1)) zero32) (short_of v1 c radius)
    (le (b2_dot (b2_sub c v2) (b2_sub v1 v2)) zero32 && short_of v2 c radius)

unfoldable pub leaves_comparison : B2polygonShape → B2vec2 → Float → Bool
leaves_comparison poly c radius =
    not (outside poly c radius)
    && short_at (chosen_first poly c) (chosen_second poly c) (chosen poly c).value c radius

-- a manifold with another normal
abbrev pub with_normal : B2vec2 → B2manifold → B2manifold
with_normal normal m = record {
  points = m.points;
  local_normal = normal;
  local_point = m.local_point;
  manifold_type = m.manifold_type;
  point_count = m.point_count;
}

-- on every other input the manifold is as before, and on these it is so but for the normal, the chosen face's
pub record OnlyTheNormal (old : B2manifold) (poly : B2polygonShape) (c : B2vec2) (radius : Float)
    (centre : B2vec2) : Type 0 where
  pub elsewhere : leaves_comparison poly c radius ≡ false
      → polygon_circle_manifold old poly c radius centre ≡ manifold_before old poly c radius centre
  pub there : leaves_comparison poly c radius ≡ true
      → polygon_circle_manifold old poly c radius centre
      ≡ with_normal (chosen_normal poly c) (manifold_before old poly c radius centre)

-- ---- a normal that pushes: it is not zero, and its squared length is 1 within 2^-19
pub record Pushes (w : B2vec2) : Type 0 where
  pub not_zero : mag w.x ≡ 0 → mag w.y ≡ 0 → ⊥
  pub near_unit : NearUnit w

-- numbers of binary32, as all of the code's are
abbrev pub Single : B2vec2 → Type 0
Single v = T (fits binary32 v.x) × T (fits binary32 v.y)

abbrev pub Singles : List B2vec2 → Type 0
Singles points = (i : ℕ) → i < length points → Single (point_at points i)

abbrev pub SinglePlace : B2Transform → Type 0
SinglePlace xf = Single xf.p × T (fits binary32 xf.q.s) × T (fits binary32 xf.q.c)

-- the local normal of an outline against any circle, wherever both are: where a point is reported, it pushes
pub record NoZeroNormal (shape : B2polygonShape) : Type 0 where
  pub pushes : (old : B2manifold) (xfA : B2Transform) (circleB : B2circleShape) (xfB : B2Transform)
      → SinglePlace xfA → Single circleB.m_p → SinglePlace xfB
      → (b2_collide_polygon_and_circle old shape xfA circleB xfB).refusal ≡ accepted
      → 0 < (b2_collide_polygon_and_circle old shape xfA circleB xfB).manifold.point_count
      → Pushes (b2_collide_polygon_and_circle old shape xfA circleB xfB).manifold.local_normal
