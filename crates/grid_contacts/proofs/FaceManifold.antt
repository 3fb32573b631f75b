-- The manifold of a reference face: the incident edge is a face of the other outline, both clips leave ends near it,
-- and each point that the manifold counts is the local point of such an end; or fewer than two ends are left, and
-- nothing is written but the kind. Assumes nothing.
use mathlib.Core.Path.{◌≡◌, refl, sym, ap, ◌∙◌, subst}
use mathlib.Core.Bool.{Bool}
use mathlib.Core.List.Memᴰ
use mathlib.Core.List.{List, [], ◌∷◌, Memᴰ}
use mathlib.Core.Logic.{◌⊎◌, inl, inr}
use Prim.Native.Nat.{ℕ, ◌*◌, ◌≤◌, ◌<◌}
use native.Mathlib.Omega.{arith}
use lib.ListN.{length, drop, get_or, length-append, get_or-append}
use Rattle.algebra.specs.Plane.{PointAbs}
use Rattle.algebra.proofs.Plane.{point_abs_same}
use Rattle.rounding.specs.Value.{metre}
use Rattle.rounding.specs.Literals.{one32}
use Rattle.rounding.proofs.Value.{metre_ticks}
use Rattle.floats.specs.declared.b2_math.B2vec2.{B2vec2}
use Rattle.floats.specs.declared.b2_math.B2Transform.{B2Transform}
use Rattle.floats.specs.B2Math.{b2_cross_vec_by_scalar, b2_mul_transform_by_vec2, b2_mul_t_transform_by_vec2}
use Rattle.shape_definitions.specs.declared.b2_polygon_shape.B2polygonShape.{B2polygonShape}
use Rattle.shape_definitions.specs.Outline.{point_at, place_after}
use Rattle.shape_definitions.proofs.Edges.{after_in}
use Rattle.contact_definitions.specs.declared.b2_collision.B2contactId.{B2contactId}
use Rattle.contact_definitions.specs.declared.b2_collision.B2manifoldPoint.{B2manifoldPoint}
use Rattle.contact_definitions.specs.declared.b2_collision.B2manifold.{B2manifold}
use Rattle.contact_definitions.specs.declared.b2_collision.B2clipVertex.{B2clipVertex}
use Rattle.contact_definitions.specs.declared.b2_collide_edge.B2referenceFace.{B2referenceFace}
use Rattle.contact_definitions.specs.Manifold.{default_point, with_local_point}
use Rattle.contact_definitions.specs.ReferenceFace.{clipped_to_sides, only, points_from, with_points, manifold_of_ends}
use Rattle.contact_definitions.specs.Clip.{clipped}
use Rattle.contact_definitions.specs.B2CollidePolygon.{incident_place, incident_end, b2_find_incident_edge}
use Rattle.contact_definitions.specs.B2CollidePolygon.{local_tangent, face_middle, outline_face, within_skins}
use Rattle.contact_definitions.specs.B2CollidePolygon.{outline_point, outline_manifold}
use Rattle.contact_definitions.proofs.Extremes.{least_place_in}
use Rattle.contact_definitions.proofs.Ends.{MadeOf, only_some, point_made}
use Rattle.grid.specs.Grid.{GridPoint, value_point}
use Rattle.grid.specs.GridOutline.{GridOutline}
use Rattle.grid_contacts.specs.Placement.{GridPlacement, carried}
use Rattle.grid_contacts.specs.Faces.{Face}
use Rattle.grid_contacts.specs.SecondSentence.{local_at}
use Rattle.grid_contacts.proofs.Placing.{point_capped, carry_exact}
use Rattle.grid_contacts.proofs.FaceNormal.{carried_face}
use Rattle.grid_contacts.proofs.Skins.{two_skins}
use Rattle.grid_contacts.proofs.Segment.{FaceAbs, near_begin, near_end}
use Rattle.grid_contacts.proofs.Crossing.{corner_metres, VecNear}
use Rattle.grid_contacts.proofs.ClippedEnds.{EachNear, clipped_near}
use Rattle.grid_contacts.proofs.ReferenceFace.{first_side, second_side}
use Rattle.grid_contacts.proofs.ManifoldPoint.{clip_error}

-- the scale of the weights after two clips
abbrev pub clip_scale : ℕ
clip_scale = metre * (metre * 1)

-- ---- what a reference face makes of a manifold
-- p is the local point, in frame xf2, of an end near the edge e
pub record EndPoint (e : Face) (xf2 : B2Transform) (p : B2vec2) : Type 0 where
  pub v : B2vec2
  pub near : VecNear clip_error clip_scale e v
  pub is : p ≡ b2_mul_t_transform_by_vec2 xf2 v

pub record Made (e : Face) (poly1 : B2polygonShape) (edge : ℕ) (xf2 : B2Transform) (old m : B2manifold) : Type 0 where
  pub kind_kept : m.manifold_type ≡ old.manifold_type
  pub normal_is : m.local_normal ≡ b2_cross_vec_by_scalar (local_tangent poly1 edge) one32
  pub point_is : m.local_point ≡ face_middle poly1 edge
  pub full : m.point_count ≤ length m.points
  pub each : (k : ℕ) → k < m.point_count → EndPoint e xf2 (local_at m k)

pub data Outcome (e : Face) (poly1 : B2polygonShape) (edge : ℕ) (xf2 : B2Transform) (old m : B2manifold) : Type 0 where
  unchanged : m ≡ old → Outcome e poly1 edge xf2 old m
  made : Made e poly1 edge xf2 old m → Outcome e poly1 edge xf2 old m

-- ---- points made of ends that are near e
local_is : (named : B2contactId → B2contactId) (xf2 : B2Transform) (old : B2manifoldPoint) (end : B2clipVertex)
    → (outline_point named xf2 old end).local_point ≡ b2_mul_t_transform_by_vec2 xf2 end.v
unfolding outline_point with_local_point
local_is named xf2 old end = refl

module _ (e : Face) (poly1 : B2polygonShape) (edge : ℕ) (xf2 : B2Transform) (old : B2manifold)
    (named : B2contactId → B2contactId) where
  abbrev normal : B2vec2
  normal = b2_cross_vec_by_scalar (local_tangent poly1 edge) one32

  -- of the ends `kept`
  module _ (kept : List B2clipVertex) (near : EachNear clip_error clip_scale e kept) where
    abbrev new : List B2manifoldPoint
    new = points_from (outline_point named xf2) old 0 kept

    end_point : (p : B2manifoldPoint) → MadeOf (outline_point named xf2) kept p → EndPoint e xf2 p.local_point
    end_point p h = record {
      v = h.end.v;
      near = near h.end h.listed;
      is = ap (λ (q : B2manifoldPoint). q.local_point) h.is ∙ local_is named xf2 h.old h.end;
    }

    points_made : Made e poly1 edge xf2 old (with_points old normal (face_middle poly1 edge) new)
    unfolding with_points
    points_made = record {
      kind_kept = refl;
      normal_is = refl;
      point_is = refl;
      full = omega (arith, length-append new (drop (length new) old.points));
      each = λ k h. subst (λ (p : B2manifoldPoint). EndPoint e xf2 p.local_point)
          (sym (get_or-append new (drop (length new) old.points) default_point k h))
          (end_point (get_or new k default_point)
          (point_made (outline_point named xf2) old default_point 0 kept k h));
    }

  ends_outcome : (within : B2clipVertex → Bool) (ends : List B2clipVertex) → EachNear clip_error clip_scale e ends
      → Outcome e poly1 edge xf2 old
      (manifold_of_ends old normal (face_middle poly1 edge) within (outline_point named xf2) ends)
  unfolding manifold_of_ends
  ends_outcome within [] near = unchanged refl
  ends_outcome within (end ∷ []) near = unchanged refl
  ends_outcome within (end0 ∷ end1 ∷ ends) near =
      made (points_made (only within (end0 ∷ end1 ∷ ends))
      (λ x m. near x (only_some within (end0 ∷ end1 ∷ ends) x m)))

-- ---- the incident edge, and both clips
module _ {xf1 xf2 : B2Transform} (g1 : GridPlacement xf1) (g2 : GridPlacement xf2) (poly1 poly2 : B2polygonShape)
    (o1 : GridOutline poly1) (o2 : GridOutline poly2) (edge : ℕ) (edge_in : edge < poly1.m_count) where
  abbrev n2 : ℕ
  n2 = poly2.m_count

  abbrev pub incident : ℕ
  incident = incident_place poly1 xf1 edge poly2 xf2

  pub incident_in : incident < n2
  unfolding incident_place
  incident_in = least_place_in _ n2 (let h = o2.three in omega arith)

  abbrev v1 : B2vec2
  v1 = point_at poly2.m_vertices incident

  abbrev v2 : B2vec2
  v2 = point_at poly2.m_vertices (place_after n2 incident)

  v1_grid : GridPoint v1
  v1_grid = o2.corner incident incident_in

  v2_grid : GridPoint v2
  v2_grid = o2.corner (place_after n2 incident) (after_in n2 incident incident_in)

  abbrev pub incident_face : Face
  incident_face = carried_face g2 v1 v2

  pub incident_most : FaceAbs incident_face (corner_metres * metre)
  incident_most = record { begin_most = carried_most v1_grid; end_most = carried_most v2_grid }
    where
      carried_most : {v : B2vec2} → GridPoint v → PointAbs (carried g2 (value_point v)) (corner_metres * metre)
      carried_most {v} v_grid =
          let w = carry_exact g2 v_grid in
          let cap = point_capped corner_metres tt w.steps in
          point_abs_same (value_point (b2_mul_transform_by_vec2 xf2 v)) (carried g2 (value_point v))
          (corner_metres * metre) w.is (cap.0.cap, cap.1.cap)

  edge_near : EachNear 0 1 incident_face (b2_find_incident_edge poly1 xf1 edge poly2 xf2)
  unfolding b2_find_incident_edge incident_end
  edge_near x m = first (Memᴰ.cases_cons m)
    where
      near1 : VecNear 0 1 incident_face (b2_mul_transform_by_vec2 xf2 v1)
      near1 = let w = carry_exact g2 v1_grid in record {
        x_own = w.steps.0.own;
        y_own = w.steps.1.own;
        near = near_begin incident_face (value_point (b2_mul_transform_by_vec2 xf2 v1)) w.is;
      }

      near2 : VecNear 0 1 incident_face (b2_mul_transform_by_vec2 xf2 v2)
      near2 = let w = carry_exact g2 v2_grid in record {
        x_own = w.steps.0.own;
        y_own = w.steps.1.own;
        near = near_end incident_face (value_point (b2_mul_transform_by_vec2 xf2 v2)) w.is;
      }

      end2 : B2clipVertex
      end2 = incident_end edge poly2 xf2 (place_after n2 incident)

      second : (x ≡ end2) ⊎ Memᴰ x [] → VecNear 0 1 incident_face x.v
      second (inl is) = subst (λ (y : B2clipVertex). VecNear 0 1 incident_face y.v) (sym is) near2
      second (inr k) = absurd (Memᴰ.not-nil k)

      first : (x ≡ incident_end edge poly2 xf2 incident) ⊎ Memᴰ x (end2 ∷ []) → VecNear 0 1 incident_face x.v
      first (inl is) = subst (λ (y : B2clipVertex). VecNear 0 1 incident_face y.v) (sym is) near1
      first (inr k) = second (Memᴰ.cases_cons k)

  abbrev face : B2referenceFace
  face = outline_face two_skins poly1 xf1 edge

  ends_near : EachNear clip_error clip_scale incident_face
      (clipped_to_sides face (b2_find_incident_edge poly1 xf1 edge poly2 xf2))
  unfolding clipped_to_sides
  ends_near =
      clipped_near incident_most (omega (arith, metre_ticks)) (second_side g1 poly1 o1 edge edge_in) face.i2
      (clipped (b2_find_incident_edge poly1 xf1 edge poly2 xf2) face.side_normal1 face.side_offset1
      face.i1)
      (clipped_near incident_most (omega arith) (first_side g1 poly1 o1 edge edge_in) face.i1
      (b2_find_incident_edge poly1 xf1 edge poly2 xf2) edge_near)

  pub face_outcome : (old : B2manifold) (named : B2contactId → B2contactId)
      → Outcome incident_face poly1 edge xf2 old (outline_manifold old named two_skins poly1 xf1 edge poly2 xf2)
  unfolding outline_manifold
  face_outcome old named =
      ends_outcome incident_face poly1 edge xf2 old named (within_skins two_skins face)
      (clipped_to_sides face (b2_find_incident_edge poly1 xf1 edge poly2 xf2)) ends_near
