-- Document 02, request 07: an outline that the builder accepts, or a box, against any circle: a reported local normal
-- is not zero, and its squared length is 1 within 2^-19. At a corner it is a vector made unit that had a length, or the
-- normal of the chosen face. Assumes nothing.
use Prim.Native.Nat.{ℕ, ◌*◌, ◌^◌, ◌<◌}
use mathlib.Core.Path.{◌≡◌, refl, sym, ap, subst}
use native.Mathlib.Nat.{mul-pos, mul-lt-mul_of_pos_right}
use mathlib.Core.Bool.{true, not, ◌&&◌}
use mathlib.Core.List.{List}
use mathlib.Core.Logic.{◌⊎◌, inl, inr}
use native.Mathlib.Omega.{arith}
use lib.Dec.{T, ltb, ltb→lt}
use lib.Ieee.{Float, binary32, fits, add}
use borrow.Author.Tests.{not-false}
use Rattle.algebra.specs.Integer.{Z, whole, ◌⊞◌, ◌⊟◌, ◌⊠◌, ◌≐◌, Abs}
use Rattle.algebra.proofs.Booleans.{both}
use Rattle.rounding.specs.Value.{metre, tick, mag, val}
use Rattle.rounding.proofs.Value.{metre_pos, tick_pos, metre_square}
use Rattle.floats.specs.declared.b2_math.B2Transform.{B2Transform}
use Rattle.floats.specs.declared.b2_math.B2vec2.{B2vec2}
use Rattle.floats.specs.B2Math.{b2_sub, b2_normalize, unit_or, b2_mul_transform_by_vec2}
use Rattle.floats.specs.B2Math.{b2_mul_t_transform_by_vec2}
use Rattle.floats.specs.NearUnit.{NearUnit}
use Rattle.floats.specs.Ranges.{point_in_range, radius_in_range, transform_in_range}
use Rattle.floats.proofs.Normalised.{made_near_unit}
use Rattle.floats.proofs.Square.{square_is}
use Rattle.shape_definitions.specs.declared.b2_circle_shape.B2circleShape.{B2circleShape}
use Rattle.shape_definitions.specs.declared.b2_polygon_shape.B2polygonShape.{B2polygonShape}
use Rattle.shape_definitions.specs.Boxes.{b2_polygon_shape_set_as_box}
use Rattle.shape_definitions.specs.Circle.{circle_in_range}
use Rattle.shape_definitions.specs.Polygon.{b2_polygon_shape_set}
use Rattle.shape_definitions.specs.Refusal.{accepted}
use Rattle.shape_definitions.specs.Validate.{polygon_in_range}
use Rattle.shape_definitions.proofs.Edges.{after_in}
use Rattle.contact_definitions.specs.declared.b2_collision.B2manifold.{B2manifold}
use Rattle.contact_definitions.specs.declared.b2_collision.B2manifoldType.TheVariants.{EFaceA}
use Rattle.contact_definitions.specs.Manifold.{default_id, with_count, with_one_point, miscounted}
use Rattle.contact_definitions.specs.B2CollideCircle.{circle_separation}
use Rattle.contact_definitions.specs.B2CollideCircle.{polygon_circle_manifold}
use Rattle.contact_definitions.specs.B2CollideCircle.{b2_collide_polygon_and_circle}
use Rattle.contact_definitions.specs.CircleNormals.{chosen, Pushes, Singles, NoZeroNormal}
use Rattle.contact_definitions.proofs.Counts.{Accepted, refused, counted}
use Rattle.contact_definitions.proofs.Extremes.{greatest_place_in}
use Rattle.contact_definitions.proofs.OutlineCircle.{at_outline}
use Rattle.record_definitions.proofs.Changes.{by_choice}
use Rattle.record_ranges.proofs.Vectors.{Caps, caps_widen, caps_sub}
use Rattle.record_ranges.proofs.InRange.{point_caps, place_caps}
use Rattle.record_ranges.proofs.Normalised.{moderate}
use Rattle.record_ranges.proofs.CircleCalls.{centre_there}
use Rattle.record_ranges.proofs.BuiltNormals.{Built, set_built, box_built}

-- ---- what a circle makes of a manifold m: m as it was, or one of face A whose normal is near unit
pub record Made (m : B2manifold) : Type 0 where
  pub normal : NearUnit m.local_normal
  pub kind : m.manifold_type ≡ EFaceA

module _ (m : B2manifold) (c : B2vec2) (c_caps : Caps c 24) (radius : Float) (centre : B2vec2) where
  abbrev Left : B2manifold → Type 0
  Left r = (r ≡ m) ⊎ Made r

  written : (normal point : B2vec2) → NearUnit normal → Left (with_one_point m EFaceA normal point centre default_id)
  unfolding with_one_point
  written normal point unit = inr (record { normal = unit; kind = refl })

  from_corner : (v normal : B2vec2) → Caps v 20 → NearUnit normal
      → NearUnit (unit_or normal (b2_normalize (b2_sub c v)))
  from_corner v normal v_caps unit =
      by_choice NearUnit (b2_normalize (b2_sub c v)).had_length _ _
      (λ had. made_near_unit (moderate 25 tt (caps_sub c v 24 tt c_caps (caps_widen 20 24 tt v_caps)))
      (subst T (sym had) tt))
      (λ none. unit)

  left_by : (shape : B2polygonShape) → Built shape → Left (polygon_circle_manifold m shape c radius centre)
  left_by shape built =
      let place = greatest_place_in (circle_separation shape c) shape.m_count built.some in
      let unit = built.normal (chosen shape c).place place in
      let first = built.corner (chosen shape c).place place in
      let second = built.corner _ (after_in shape.m_count (chosen shape c).place place) in
      at_outline Left m c radius centre (inl refl) shape (written _ _ unit)
      (written _ _ (from_corner _ _ first unit)) (written _ _ (from_corner _ _ second unit))

-- ---- a squared length of 1 within some ticks, fewer than 2^25, is not 0
pub not_both_zero : (w : B2vec2) (n : ℕ) → T (ltb n (2 ^ 25))
    → Abs (val w.x ⊠ val w.x ⊞ val w.y ⊠ val w.y ⊟ whole (metre * metre)) (n * tick * metre)
    → mag w.x ≡ 0 → mag w.y ≡ 0 → ⊥
not_both_zero w n few unit x_zero y_zero =
    never (val w.x ⊠ val w.x) (val w.y ⊠ val w.y) (mag w.x) (mag w.y) (square_is w.x)
    (square_is w.y) x_zero y_zero
    (mul-lt-mul_of_pos_right (ltb→lt n (2 ^ 25) few) (mul-pos tick_pos metre_pos)) unit
  where
    never : (a b : Z) (i j : ℕ) → a ≐ whole (i * i) → b ≐ whole (j * j) → i ≡ 0 → j ≡ 0
        → n * (tick * metre) < 2 ^ 25 * (tick * metre)
        → Abs (a ⊞ b ⊟ whole (metre * metre)) (n * tick * metre) → ⊥
    never a b i j a_is b_is i_is j_is few h =
        let i_zero : i * i ≡ 0 * i = ap (λ (k : ℕ). k * i) i_is in
        let j_zero : j * j ≡ 0 * j = ap (λ (k : ℕ). k * j) j_is in
        let e = metre_square in
        omega arith

near_unit_pushes : {w : B2vec2} → NearUnit w → Pushes w
near_unit_pushes {w} unit = record { not_zero = not_both_zero w 64 tt unit.unit; near_unit = unit }

-- ---- the call
abbrev Reported : B2manifold → Type 0
Reported m = 0 < m.point_count → Made m

module _ (shape : B2polygonShape) (built : Built shape) (old : B2manifold) (xfA : B2Transform)
    (circleB : B2circleShape) (xfB : B2Transform) where
  abbrev there : B2vec2
  there = b2_mul_t_transform_by_vec2 xfA (b2_mul_transform_by_vec2 xfB circleB.m_p)

  abbrev radius : Float
  radius = add binary32 shape.m_radius circleB.m_radius

  reported : Caps there 24
      → Reported (polygon_circle_manifold (with_count old 0) shape there radius circleB.m_p)
  unfolding with_count
  reported caps = go (left_by (with_count old 0) there caps radius circleB.m_p shape built)
    where
      go : {r : B2manifold} → (r ≡ with_count old 0) ⊎ Made r → Reported r
      go (inl same) some = absurd (omega (arith, subst (λ (m : B2manifold). 0 < m.point_count) same some))
      go (inr made) some = made

  -- where the circle's centre is at most 2^24 m off, by what the call has found in range
  pub call_made : (point_in_range circleB.m_p ≡ true → transform_in_range xfA ≡ true
      → transform_in_range xfB ≡ true → Caps there 24)
      → Accepted Reported (b2_collide_polygon_and_circle old shape xfA circleB xfB)
  unfolding b2_collide_polygon_and_circle circle_in_range
  call_made caps =
      counted Reported (miscounted shape.m_count) old _
      (by_choice (Accepted Reported) (not (polygon_in_range shape && circle_in_range circleB)) _ _
      (λ out. refused Reported 1 old)
      (λ inside. by_choice (Accepted Reported) (not (transform_in_range xfA && transform_in_range xfB)) _ _
      (λ off. refused Reported 5 old)
      (λ placed taken.
      let shapes = both (polygon_in_range shape) (circle_in_range circleB) (not-false _ inside) in
      let circle = both (radius_in_range circleB.m_radius) (point_in_range circleB.m_p) shapes.1 in
      let places = both (transform_in_range xfA) (transform_in_range xfB) (not-false _ placed) in
      reported (caps circle.1 places.0 places.1))))

built_pushes : (shape : B2polygonShape) → Built shape → NoZeroNormal shape
built_pushes shape built = record {
  pushes = λ old xfA circleB xfB a_single b_single at_single taken some.
      near_unit_pushes (call_made shape built old xfA circleB xfB
      (λ centre first second. centre_there xfA xfB circleB.m_p (place_caps xfA a_single first)
      (place_caps xfB at_single second) (point_caps circleB.m_p b_single centre)) taken some).normal;
}

-- ---- an outline from the builder, and a box, whatever the old outline
pub set_no_zero_normal : (old : B2polygonShape) (points : List B2vec2) → Singles points
    → (b2_polygon_shape_set old points).refusal ≡ accepted → NoZeroNormal (b2_polygon_shape_set old points).shape
set_no_zero_normal old points singles taken = built_pushes _ (set_built old points singles taken)

pub box_no_zero_normal : (old : B2polygonShape) (hx hy : Float) → T (fits binary32 hx) → T (fits binary32 hy)
    → (b2_polygon_shape_set_as_box old hx hy).refusal ≡ accepted
    → NoZeroNormal (b2_polygon_shape_set_as_box old hx hy).shape
box_no_zero_normal old hx hy x_single y_single taken = built_pushes _ (box_built old hx hy x_single y_single taken)
