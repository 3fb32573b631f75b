-- The contacts of two outlines and of a wall and an outline give manifolds that the world points take.
-- Assumes nothing.
use Prim.Native.Nat.{ℕ}
use lib.Ieee.{Float}
use Rattle.rounding.specs.Literals.{one32}
use Rattle.floats.specs.declared.b2_math.B2Transform.{B2Transform}
use Rattle.floats.specs.declared.b2_math.B2vec2.{B2vec2}
use Rattle.floats.specs.B2Math.{b2_sub, b2_dot, b2_cross_vec_by_scalar, b2_mul_rot_by_vec2, b2_mul_transform_by_vec2}
use Rattle.shape_definitions.specs.declared.b2_polygon_shape.B2polygonShape.{B2polygonShape}
use Rattle.contact_definitions.specs.declared.axis.Axis.{Axis}
use Rattle.contact_definitions.specs.declared.axis.Axis.TheVariants.{Apart, FaceA, FaceB}
use Rattle.contact_definitions.specs.declared.b2_collision.B2clipVertex.{B2clipVertex}
use Rattle.contact_definitions.specs.declared.b2_collision.B2contactId.{B2contactId}
use Rattle.contact_definitions.specs.declared.b2_collision.B2manifold.{B2manifold}
use Rattle.contact_definitions.specs.declared.b2_collision.B2manifoldPoint.{B2manifoldPoint}
use Rattle.contact_definitions.specs.declared.b2_collision.B2manifoldType.TheVariants.{EFaceA, EFaceB}
use Rattle.contact_definitions.specs.Manifold.{with_kind, with_local_point, swapped_id}
use Rattle.contact_definitions.specs.B2CollidePolygon.{incident_end, b2_find_incident_edge, face_begin, face_end}
use Rattle.contact_definitions.specs.B2CollidePolygon.{local_tangent, face_middle, face_along, outline_face}
use Rattle.contact_definitions.specs.B2CollidePolygon.{within_skins, outline_point, outline_manifold, manifold_on}
use Rattle.record_ranges.proofs.Caps.{Cap, cap_widen, cap_neg, cap_add, cap_mul}
use Rattle.record_ranges.proofs.Vectors.{Caps, caps_widen, caps_neg, caps_sub, cap_dot, caps_turned}
use Rattle.record_ranges.proofs.Vectors.{caps_carried, caps_carried_back, placed_widen}
use Rattle.record_ranges.proofs.Normalised.{normalised_caps}
use Rattle.record_ranges.proofs.Clipped.{EndsCap, two_ends, Side, sides_caps}
use Rattle.record_ranges.proofs.Manifolds.{Ranged, kind_ranged, ends_ranged}
use Rattle.record_ranges.proofs.Shapes.{one_cap, OutlineCaps, AtPlace}
use Rattle.record_ranges.proofs.CircleCalls.{middle_caps}

-- ---- a face of an outline, in the world
tangent_caps : (poly : B2polygonShape) (i : ℕ) → OutlineCaps poly → Caps (local_tangent poly i) 2
unfolding local_tangent
tangent_caps poly i caps =
    normalised_caps (b2_sub (face_end poly i) (face_begin poly i)) 21 tt
    (caps_sub (face_end poly i) (face_begin poly i) 20 tt (caps.corner _) (caps.corner i))

cross_caps : (v : B2vec2) → Caps v 2 → Caps (b2_cross_vec_by_scalar v one32) 2
unfolding b2_cross_vec_by_scalar
cross_caps v h = record {
  x_cap = cap_mul 0 2 tt one_cap h.y_cap;
  y_cap = cap_mul 0 2 tt (cap_neg 0 one_cap) h.x_cap;
}

corner_there : (xf : B2Transform) (v : B2vec2) → AtPlace xf → Caps v 20 → Caps (b2_mul_transform_by_vec2 xf v) 22
corner_there xf v place h = caps_carried xf v 0 20 tt tt tt (placed_widen xf 0 20 21 tt place) h

module _ (total : Float) (poly : B2polygonShape) (xf : B2Transform) (i : ℕ) (total_cap : Cap total 21)
    (caps : OutlineCaps poly) (place : AtPlace xf) where
  turned_tangent : Caps (b2_mul_rot_by_vec2 xf.q (local_tangent poly i)) 3
  turned_tangent = caps_turned xf.q (local_tangent poly i) 0 2 tt tt place.turn (tangent_caps poly i caps)

  along : (v : B2vec2) → Caps v 20
      → Cap (b2_dot (b2_mul_rot_by_vec2 xf.q (local_tangent poly i)) (b2_mul_transform_by_vec2 xf v)) 39
  along v h =
      let tangent = b2_mul_rot_by_vec2 xf.q (local_tangent poly i) in
      cap_widen 26 39 tt
      (cap_dot tangent (b2_mul_transform_by_vec2 xf v) 3 22 tt tt turned_tangent (corner_there xf v place h))

  side_1 : Side (outline_face total poly xf i).side_normal1 (outline_face total poly xf i).side_offset1
  unfolding outline_face face_along
  side_1 = record {
    normal_caps = caps_widen 3 5 tt (caps_neg (b2_mul_rot_by_vec2 xf.q (local_tangent poly i)) 3 turned_tangent);
    offset_cap = cap_add 39 tt (cap_neg 39 (along (face_begin poly i) (caps.corner i))) (cap_widen 21 39 tt total_cap);
  }

  side_2 : Side (outline_face total poly xf i).side_normal2 (outline_face total poly xf i).side_offset2
  unfolding outline_face face_along
  side_2 = record {
    normal_caps = caps_widen 3 5 tt turned_tangent;
    offset_cap = cap_add 39 tt (along (face_end poly i) (caps.corner _)) (cap_widen 21 39 tt total_cap);
  }

-- ---- outlines
module _ (named : B2contactId → B2contactId) (total : Float) (poly1 : B2polygonShape) (xf1 : B2Transform) (i : ℕ)
    (poly2 : B2polygonShape) (xf2 : B2Transform) (total_cap : Cap total 21) (caps1 : OutlineCaps poly1)
    (place1 : AtPlace xf1) (caps2 : OutlineCaps poly2) (place2 : AtPlace xf2) where
  incident_caps : EndsCap (b2_find_incident_edge poly1 xf1 i poly2 xf2) 23
  unfolding b2_find_incident_edge incident_end
  incident_caps =
      two_ends _ _ 23 (caps_widen 22 23 tt (corner_there xf2 _ place2 (caps2.corner _)))
      (caps_widen 22 23 tt (corner_there xf2 _ place2 (caps2.corner _)))

  point_caps : (old : B2manifoldPoint) (end : B2clipVertex) → Caps end.v 27
      → Caps (outline_point named xf2 old end).local_point 30
  unfolding outline_point with_local_point
  point_caps old end h =
      caps_widen 29 30 tt (caps_carried_back xf2 end.v 0 27 tt tt tt (placed_widen xf2 0 20 27 tt place2) h)

  outline_ranged : (m : B2manifold) → Ranged m → Ranged (outline_manifold m named total poly1 xf1 i poly2 xf2)
  unfolding outline_manifold face_middle
  outline_ranged m h =
      let face = outline_face total poly1 xf1 i in
      ends_ranged (within_skins total face) (outline_point named xf2) point_caps m _ _ _ h
      (caps_widen 2 3 tt (cross_caps (local_tangent poly1 i) (tangent_caps poly1 i caps1)))
      (caps_widen 21 30 tt (middle_caps (face_begin poly1 i) (face_end poly1 i) (caps1.corner i) (caps1.corner _)))
      (sides_caps face (b2_find_incident_edge poly1 xf1 i poly2 xf2) (side_1 total poly1 xf1 i total_cap caps1 place1)
      (side_2 total poly1 xf1 i total_cap caps1 place1) incident_caps)

pub outlines_ranged : (axis : Axis) (m : B2manifold) (total : Float) (polyA : B2polygonShape) (xfA : B2Transform)
    (polyB : B2polygonShape) (xfB : B2Transform) → Cap total 21 → OutlineCaps polyA → AtPlace xfA → OutlineCaps polyB
    → AtPlace xfB → Ranged m → Ranged (manifold_on axis m total polyA xfA polyB xfB)
outlines_ranged (Apart s) m total polyA xfA polyB xfB t a p b q h = h
outlines_ranged (FaceA s x y i) m total polyA xfA polyB xfB t a p b q h =
    outline_ranged (λ id. id) total polyA xfA i polyB xfB t a p b q (with_kind m EFaceA) (kind_ranged m EFaceA h)
outlines_ranged (FaceB s x y i) m total polyA xfA polyB xfB t a p b q h =
    outline_ranged swapped_id total polyB xfB i polyA xfA t b q a p (with_kind m EFaceB) (kind_ranged m EFaceB h)
