-- The contacts of a circle with a circle, an outline and a wall give manifolds that the world points take.
-- Assumes nothing.
use Prim.Native.Nat.{ℕ}
use mathlib.Core.Bool.{Bool, cond, ◌&&◌}
use lib.Ieee.{Float, binary32, add, div, le, lt}
use Rattle.rounding.specs.Literals.{zero32, half32, one32}
use Rattle.floats.specs.declared.b2_math.B2Transform.{B2Transform}
use Rattle.floats.specs.declared.b2_math.B2vec2.{B2vec2}
use Rattle.floats.specs.B2Math.{b2_add, b2_sub, b2_neg, b2_scale, b2_dot, b2_normalize, unit_or_same, unit_or}
use Rattle.floats.specs.B2Math.{b2_mul_transform_by_vec2, b2_mul_t_transform_by_vec2}
use Rattle.shape_definitions.specs.declared.b2_circle_shape.B2circleShape.{B2circleShape}
use Rattle.shape_definitions.specs.declared.b2_edge_shape.B2edgeShape.{B2edgeShape}
use Rattle.shape_definitions.specs.declared.b2_polygon_shape.B2polygonShape.{B2polygonShape}
use Rattle.shape_definitions.specs.Outline.{origin}
use Rattle.contact_definitions.specs.declared.b2_collision.B2manifold.{B2manifold}
use Rattle.contact_definitions.specs.declared.b2_collision.B2manifoldType.TheVariants.{ECircles, EFaceA}
use Rattle.contact_definitions.specs.Manifold.{with_count, with_one_point, default_id}
use Rattle.contact_definitions.specs.B2CollideCircle.{farther, circles_manifold}
use Rattle.contact_definitions.specs.B2CollideCircle.{polygon_circle_manifold}
use Rattle.contact_definitions.specs.EdgeAxis.{right_of}
use Rattle.contact_definitions.specs.B2CollideEdge.{circle_at_end, circle_at_wall, over_before, over_after}
use Rattle.contact_definitions.specs.B2CollideEdge.{edge_circle_answer}
use Rattle.contact_definitions.specs.CircleNormals.{chosen_normal}
use Rattle.contact_definitions.proofs.Counts.{Accepted, either, refused}
use Rattle.contact_definitions.proofs.OutlineCircle.{at_outline}
use Rattle.record_ranges.proofs.Vectors.{Caps, caps_widen, caps_neg, caps_add, caps_sub, caps_scale}
use Rattle.record_ranges.proofs.Vectors.{caps_carried, caps_carried_back, placed_widen, right_caps}
use Rattle.record_ranges.proofs.Normalised.{normalised_caps}
use Rattle.record_ranges.proofs.Manifolds.{Ranged, count_ranged, one_ranged}
use Rattle.record_ranges.proofs.Shapes.{half_cap, origin_caps, CircleCaps, WallCaps, OutlineCaps, AtPlace}

-- ---- circles
pub circles_ranged : (m : B2manifold) (circleA : B2circleShape) (xfA : B2Transform) (circleB : B2circleShape)
    (xfB : B2Transform) → Ranged m → CircleCaps circleA → CircleCaps circleB
    → Ranged (circles_manifold m circleA xfA circleB xfB)
unfolding circles_manifold
circles_ranged m circleA xfA circleB xfB h a b =
    either Ranged
    (farther (add binary32 circleA.m_radius circleB.m_radius) (b2_mul_transform_by_vec2 xfB circleB.m_p)
    (b2_mul_transform_by_vec2 xfA circleA.m_p)) _ _ h
    (one_ranged m ECircles origin circleA.m_p circleB.m_p default_id h (origin_caps 3)
    (caps_widen 20 30 tt a.centre) (caps_widen 20 30 tt b.centre))

-- ---- the circle's centre in the other frame: at most 2^24 m
pub centre_there : (xfA xfB : B2Transform) (p : B2vec2) → AtPlace xfA → AtPlace xfB → Caps p 20
    → Caps (b2_mul_t_transform_by_vec2 xfA (b2_mul_transform_by_vec2 xfB p)) 24
centre_there xfA xfB p a b h =
    caps_carried_back xfA (b2_mul_transform_by_vec2 xfB p) 0 22 tt tt tt (placed_widen xfA 0 20 22 tt a)
    (caps_carried xfB p 0 20 tt tt tt (placed_widen xfB 0 20 21 tt b) h)

-- the middle of two points
pub middle_caps : (v1 v2 : B2vec2) → Caps v1 20 → Caps v2 20 → Caps (b2_scale half32 (b2_add v1 v2)) 21
middle_caps v1 v2 h g = caps_scale half32 (b2_add v1 v2) 0 21 tt half_cap (caps_add v1 v2 20 tt h g)

-- ---- outline and circle
module _ (m : B2manifold) (h : Ranged m) (c : B2vec2) (c_caps : Caps c 24) (radius : Float) (centre : B2vec2)
    (centre_caps : Caps centre 20) where
  -- a point at the end v of a face with this normal
  ended : (v normal : B2vec2) → Caps v 20 → Caps normal 2
      → Ranged (with_one_point m EFaceA (unit_or normal (b2_normalize (b2_sub c v))) v centre default_id)
  ended v normal v_caps normal_caps =
      let made = b2_normalize (b2_sub c v) in
      one_ranged m EFaceA (unit_or normal made) v centre default_id h
      (caps_widen 2 3 tt
      (either (λ (w : B2vec2). Caps w 2) made.had_length (unit_or_same made) normal
      (normalised_caps (b2_sub c v) 25 tt (caps_sub c v 24 tt c_caps (caps_widen 20 24 tt v_caps))) normal_caps))
      (caps_widen 20 30 tt v_caps) (caps_widen 20 30 tt centre_caps)

  pub outline_circle_ranged : (poly : B2polygonShape) → OutlineCaps poly
      → Ranged (polygon_circle_manifold m poly c radius centre)
  outline_circle_ranged poly caps =
      at_outline Ranged m c radius centre h poly
      (one_ranged m EFaceA (chosen_normal poly c) _ centre default_id h (caps_widen 2 3 tt (caps.normal _))
      (caps_widen 21 30 tt (middle_caps _ _ (caps.corner _) (caps.corner _))) (caps_widen 20 30 tt centre_caps))
      (ended _ _ (caps.corner _) (caps.normal _)) (ended _ _ (caps.corner _) (caps.normal _))

  -- ---- wall and circle
  at_end : (end : B2vec2) (index : ℕ) (over_neighbour : Bool) → Caps end 20
      → Ranged (circle_at_end m end index over_neighbour c radius centre)
  unfolding circle_at_end
  at_end end index over_neighbour end_caps =
      either Ranged (farther radius c end) _ _ h
      (either Ranged over_neighbour _ _ h
      (one_ranged m ECircles origin end centre _ h (origin_caps 3) (caps_widen 20 30 tt end_caps)
      (caps_widen 20 30 tt centre_caps)))

  at_wall : (a b : B2vec2) (u v den offset : Float) → Caps a 20 → Caps b 20
      → Ranged (circle_at_wall m a b u v den offset c radius centre)
  unfolding circle_at_wall
  at_wall a b u v den offset a_caps b_caps =
      let n = right_of (b2_sub b a) in
      let n_caps = right_caps (b2_sub b a) 21 (caps_sub b a 20 tt b_caps a_caps) in
      let side = cond (lt offset zero32) (b2_neg n) n in
      let side_caps = either (λ (w : B2vec2). Caps w 21) (lt offset zero32) (b2_neg n) n (caps_neg n 21 n_caps)
      n_caps in
      either Ranged
      (farther radius c (b2_scale (div binary32 one32 den) (b2_add (b2_scale u a) (b2_scale v b)))) _ _ h
      (one_ranged m EFaceA (unit_or_same (b2_normalize side)) a centre _ h
      (caps_widen 2 3 tt (normalised_caps side 21 tt side_caps)) (caps_widen 20 30 tt a_caps)
      (caps_widen 20 30 tt centre_caps))

pub wall_circle_ranged : (old : B2manifold) (edge : B2edgeShape) (q : B2vec2) (radius : Float) (centre : B2vec2)
    → Ranged old → WallCaps edge → Caps q 24 → Caps centre 20
    → Accepted Ranged (edge_circle_answer old edge q radius centre)
unfolding edge_circle_answer
wall_circle_ranged old edge q radius centre h wall q_caps centre_caps =
    let none = with_count old 0 in
    let none_ranged = count_ranged old 0 h in
    let a = edge.m_vertex1 in
    let b = edge.m_vertex2 in
    let e = b2_sub b a in
    either (Accepted Ranged) (edge.m_one_sided && lt (b2_dot (right_of e) (b2_sub q a)) zero32) _ _
    (λ taken. none_ranged)
    (either (Accepted Ranged) (le (b2_dot e (b2_sub q a)) zero32) _ _
    (λ taken. at_end none none_ranged q q_caps radius centre centre_caps a 0 (over_before edge q) wall.from)
    (either (Accepted Ranged) (le (b2_dot e (b2_sub b q)) zero32) _ _
    (λ taken. at_end none none_ranged q q_caps radius centre centre_caps b 1 (over_after edge q) wall.to)
    (either (Accepted Ranged) (lt zero32 (b2_dot e e)) _ _
    (λ taken. at_wall none none_ranged q q_caps radius centre centre_caps a b _ _ _ _ wall.from wall.to)
    (refused Ranged 7 old))))
