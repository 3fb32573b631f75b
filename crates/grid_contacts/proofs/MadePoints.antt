-- What holds of the points that a reference face makes, and of their world points: they lie near the boundary of the
-- other outline, and their world separations are near their exact distances from that face. And the manifold is in the
-- range of the world points. Assumes nothing.
use mathlib.Core.Path.{◌≡◌, sym, subst}
use mathlib.Core.Bool.{Bool, ◌&&◌}
use mathlib.Core.List.{List}
use Prim.Native.Nat.{ℕ, ◌*◌, ◌<◌}
use native.Mathlib.Omega.{arith}
use lib.Dec.{T}
use lib.ListN.{get_or}
use lib.Ieee.{Float}
use mir.Facts.{yes_and}
use Rattle.algebra.specs.Integer.{Z, Abs}
use Rattle.algebra.specs.Plane.{Point}
use Rattle.rounding.specs.Value.{metre, F32, val}
use Rattle.rounding.proofs.Value.{metre_ticks}
use Rattle.rounding.proofs.Caps.{Capped}
use Rattle.floats.specs.declared.b2_math.B2vec2.{B2vec2}
use Rattle.floats.specs.declared.b2_math.B2Transform.{B2Transform}
use Rattle.floats.specs.B2Common.{b2_polygon_radius}
use Rattle.floats.specs.B2Math.{b2_mul_rot_by_vec2, b2_mul_transform_by_vec2, b2_mul_t_transform_by_vec2}
use Rattle.floats.specs.Ranges.{local_normal_in_range, contact_point_in_range}
use Rattle.floats.proofs.RangeValue.{capped_vec2, local_normal_limit_is, contact_limit_is}
use Rattle.shape_definitions.specs.declared.b2_polygon_shape.B2polygonShape.{B2polygonShape}
use Rattle.contact_definitions.specs.declared.b2_collision.B2manifold.{B2manifold}
use Rattle.contact_definitions.specs.declared.b2_collision.B2manifoldPoint.{B2manifoldPoint}
use Rattle.contact_definitions.specs.declared.b2_collision.B2worldManifold.{B2worldManifold}
use Rattle.contact_definitions.specs.Manifold.{default_point, counted_points}
use Rattle.contact_definitions.specs.B2CollidePolygon.{face_begin, face_end, face_middle}
use Rattle.contact_definitions.specs.WorldManifold.{plane_separation, world_of_face, points_in_range, manifold_in_range}
use Rattle.contact_definitions.proofs.WorldPoints.{counted_length, counted_at, face_separation_at, each_in_range}
use Rattle.grid.specs.Grid.{value_point}
use Rattle.floats.specs.NearUnit.{normal_bound}
use Rattle.grid.specs.GridOutline.{GridOutline}
use Rattle.grid_contacts.specs.Placement.{GridPlacement, carried, placed_corners}
use Rattle.grid_contacts.specs.Lengths.{point_tolerance}
use Rattle.grid_contacts.specs.Faces.{Face, face_at, NearFace, NearBoundary}
use Rattle.grid_contacts.specs.SecondSentence.{NearLargest, local_at, contact_point, separation_at, Touching}
use Rattle.grid_contacts.proofs.NormalVec.{Coordinate}
use Rattle.grid_contacts.proofs.FaceNormal.{carried_face}
use Rattle.grid_contacts.proofs.PlacedOutline.{outline_place, placed_face}
use Rattle.grid_contacts.proofs.Middle.{middle_metres, local_middle, placed_middle}
use Rattle.grid_contacts.proofs.ReferenceFace.{begin_grid, end_grid, local_normal, local_normal_vec}
use Rattle.grid_contacts.proofs.ReferenceFace.{world_normal_vec, world_normal_is}
use Rattle.grid_contacts.proofs.WorldSeparation.{Separated}
use Rattle.grid_contacts.proofs.ManifoldPoint.{local_metres, near_face, local_capped, point_near}
use Rattle.grid_contacts.proofs.ManifoldPoint.{point_separation}
use Rattle.grid_contacts.proofs.FaceManifold.{Made, incident, incident_in, incident_face, incident_most}

-- a coordinate of a normal is at most 2 m
coordinate_capped : {x : Float} → Coordinate x → Capped x 2
coordinate_capped {x} c = record { own = c.own; cap = two (val x) c.most }
  where
    two : (v : Z) → Abs v normal_bound → Abs v (2 * metre)
    two v h = omega (arith, metre_ticks)

-- a separation as the definition has it, from the local normal n and point p of a manifold and an end's local point
abbrev separation_over : B2Transform → Float → B2Transform → Float → B2vec2 → B2vec2 → B2vec2 → Float
separation_over xf1 radius1 xf2 radius2 n p local =
    plane_separation (b2_mul_rot_by_vec2 xf1.q n) (b2_mul_transform_by_vec2 xf1 p) radius1 radius2
    (b2_mul_transform_by_vec2 xf2 local)

-- ---- points made over face `edge` of outline 1
module _ {xf1 xf2 : B2Transform} (g1 : GridPlacement xf1) (g2 : GridPlacement xf2) (poly1 poly2 : B2polygonShape)
    (o1 : GridOutline poly1) (o2 : GridOutline poly2) (edge : ℕ) (edge_in : edge < poly1.m_count)
    {old m : B2manifold} (M : Made (incident_face g1 g2 poly1 poly2 o1 o2 edge edge_in) poly1 edge xf2 old m) where
  abbrev corners1 : List Point
  corners1 = placed_corners g1 poly1

  abbrev corners2 : List Point
  corners2 = placed_corners g2 poly2

  abbrev e : Face
  e = incident_face g1 g2 poly1 poly2 o1 o2 edge edge_in

  abbrev local_of : B2vec2 → B2vec2
  local_of v = b2_mul_t_transform_by_vec2 xf2 v

  point_finite : (k : ℕ) → k < m.point_count → F32 (local_at m k).x × F32 (local_at m k).y
  point_finite k h =
      let end = M.each k h in
      let cap = local_capped g2 (incident_most g1 g2 poly1 poly2 o1 o2 edge edge_in) end.near in
      subst (λ (v : B2vec2). F32 v.x × F32 v.y) (sym end.is) (cap.0.own, cap.1.own)

  on_boundary : (k : ℕ) → k < m.point_count → NearBoundary point_tolerance corners2 (contact_point g2 m k)
  on_boundary k h =
      let end = M.each k h in
      let i = incident g1 g2 poly1 poly2 o1 o2 edge edge_in in
      let i_in = incident_in g1 g2 poly1 poly2 o1 o2 edge edge_in in
      let near = near_face (point_near g2 (incident_most g1 g2 poly1 poly2 o1 o2 edge edge_in) end.near) in
      subst (λ (v : B2vec2). NearBoundary point_tolerance corners2 (carried g2 (value_point v))) (sym end.is) (
        i,
        outline_place g2 poly2 o2 i i_in,
        subst (λ (f : Face). NearFace point_tolerance (carried g2 (value_point (local_of end.v))) f)
            (sym (placed_face g2 poly2 o2 i i_in)) near,
      )

  -- ---- the world separations, with the default skin
  module _ (skin1 : poly1.m_radius ≡ b2_polygon_radius) (skin2 : poly2.m_radius ≡ b2_polygon_radius) where
    separated : (k : ℕ) → k < m.point_count
        → Separated (face_at corners1 edge) (contact_point g2 m k)
        (separation_over xf1 poly1.m_radius xf2 poly2.m_radius m.local_normal m.local_point
        (local_at m k))
    unfolding face_middle
    separated k h =
        let end = M.each k h in
        rw (M.normal_is, M.point_is, end.is, placed_face g1 poly1 o1 edge edge_in)
        (point_separation g2 (incident_most g1 g2 poly1 poly2 o1 o2 edge edge_in) end.near
        (carried_face g1 (face_begin poly1 edge) (face_end poly1 edge)) (world_normal_vec g1 poly1 o1 edge edge_in)
        (world_normal_is g1 poly1 o1 edge edge_in)
        (placed_middle (begin_grid g1 poly1 o1 edge edge_in) (end_grid g1 poly1 o1 edge edge_in) g1) skin1 skin2)

    module _ (is_b : Bool) (old_world : B2worldManifold) where
      abbrev world : B2worldManifold
      world = world_of_face is_b old_world m xf1 poly1.m_radius xf2 poly2.m_radius

      at_place : (k : ℕ) → k < m.point_count
          → Separated (face_at corners1 edge) (contact_point g2 m k) (separation_at world k)
      at_place k h =
          subst (Separated (face_at corners1 edge) (contact_point g2 m k))
          (sym (face_separation_at m M.full is_b old_world xf1 poly1.m_radius xf2 poly2.m_radius k h))
          (separated k h)

      pub made_touching : NearLargest corners1 corners2 (face_at corners1 edge)
          → Touching corners1 corners2 g2 m world
      made_touching largest = record {
        place = edge;
        inside = outline_place g1 poly1 o1 edge edge_in;
        near_largest = largest;
        point_finite = point_finite;
        on_boundary = on_boundary;
        separation_finite = λ k h. (at_place k h).own;
        near_distance = λ k h. (at_place k h).near;
      }

  -- ---- the manifold is in range
  normal_in_range : T (local_normal_in_range m.local_normal)
  unfolding local_normal_in_range
  normal_in_range =
      let vec = local_normal_vec g1 poly1 o1 edge edge_in in
      subst (λ (v : B2vec2). T (local_normal_in_range v)) (sym M.normal_is)
      (capped_vec2 {v = local_normal g1 poly1 o1 edge edge_in} 2 local_normal_limit_is tt
      (coordinate_capped vec.at_x) (coordinate_capped vec.at_y))

  point_in_range : T (contact_point_in_range m.local_point)
  unfolding contact_point_in_range face_middle
  point_in_range =
      let cap = local_middle (begin_grid g1 poly1 o1 edge edge_in) (end_grid g1 poly1 o1 edge edge_in) in
      subst (λ (v : B2vec2). T (contact_point_in_range v)) (sym M.point_is)
      (capped_vec2 {v = face_middle poly1 edge} middle_metres contact_limit_is tt cap.0 cap.1)

  local_in_range : (k : ℕ) → k < m.point_count → T (contact_point_in_range (local_at m k))
  unfolding contact_point_in_range
  local_in_range k h =
      let end = M.each k h in
      let cap = local_capped g2 (incident_most g1 g2 poly1 poly2 o1 o2 edge edge_in) end.near in
      subst (λ (v : B2vec2). T (contact_point_in_range v)) (sym end.is)
      (capped_vec2 {v = local_of end.v} local_metres contact_limit_is tt cap.0 cap.1)

  pub made_in_range : T (manifold_in_range m)
  unfolding manifold_in_range
  made_in_range =
      yes_and (local_normal_in_range m.local_normal && contact_point_in_range m.local_point)
      (points_in_range (counted_points m))
      (yes_and (local_normal_in_range m.local_normal) (contact_point_in_range m.local_point) normal_in_range
      point_in_range)
      (each_in_range (counted_points m)
      (λ k h. counted_in_range k (subst (λ (n : ℕ). k < n) (counted_length m M.full) h)))
    where
      counted_in_range : (k : ℕ) → k < m.point_count
          → T (contact_point_in_range (get_or (counted_points m) k default_point).local_point)
      counted_in_range k h =
          subst (λ (p : B2manifoldPoint). T (contact_point_in_range p.local_point))
          (sym (counted_at m M.full k h))
          (local_in_range k h)
