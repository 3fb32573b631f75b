-- The reference face of a placed grid outline, as b2_collide_polygons works it out: its tangent and its normal, in the
-- outline's frame and in the world, and its two side planes as lines to clip to. Assumes nothing.
use mathlib.Core.Path.{◌≡◌, ap}
use Prim.Native.Nat.{ℕ, ◌-◌, ◌*◌, ◌^◌, ◌≤◌, ◌<◌}
use native.Mathlib.Nat.{mul-pos}
use native.Mathlib.Omega.{arith}
use Rattle.algebra.specs.Integer.{Z, whole, ◌⊞◌, ◌⊟◌, ◌⊠◌, opp, ◌≐◌}
use Rattle.algebra.specs.Plane.{Point, from_to}
use Rattle.algebra.proofs.Plane.{vector_sym, vector_trans, point_abs_same}
use Rattle.algebra.proofs.Magnitude.{abs_opposite}
use Rattle.rounding.specs.Value.{val}
use Rattle.rounding.specs.Literals.{one32}
use Rattle.floats.specs.declared.b2_math.B2vec2.{B2vec2}
use Rattle.floats.specs.declared.b2_math.B2Transform.{B2Transform}
use Rattle.floats.specs.B2Math.{b2_cross_vec_by_scalar, b2_mul_rot_by_vec2}
use Rattle.shape_definitions.specs.declared.b2_polygon_shape.B2polygonShape.{B2polygonShape}
use Rattle.shape_definitions.specs.Outline.{point_at, place_after}
use Rattle.shape_definitions.proofs.Edges.{after_in}
use Rattle.contact_definitions.specs.B2CollidePolygon.{face_begin, face_end, local_tangent, face_along, outline_face}
use Rattle.grid.specs.Grid.{GridPoint, value_point}
use Rattle.floats.specs.NearUnit.{normal_bound}
use Rattle.grid.specs.GridOutline.{UnitNormal, Normalised, EdgeNormal, GridOutline}
use Rattle.grid.proofs.Exact.{ExactVec}
use Rattle.grid.proofs.Tests.{side_steps, side_is}
use Rattle.grid.proofs.Edges.{some_steps}
use Rattle.grid.proofs.Normalise.{normalised}
use Rattle.grid.proofs.Normals.{turned_exact}
use Rattle.grid_contacts.specs.Placement.{GridPlacement, turned}
use Rattle.grid_contacts.proofs.Turns.{turned_same}
use Rattle.grid_contacts.proofs.ExactTurns.{turn_exact}
use Rattle.grid_contacts.proofs.Placing.{point_capped, carry_exact}
use Rattle.grid_contacts.proofs.NormalVec.{NormalVec, turned_vec}
use Rattle.grid_contacts.proofs.FaceNormal.{unit_same, unit_turned, right_of, unit_right, carried_face}
use Rattle.grid_contacts.proofs.FaceNormal.{FaceNormal, face_normal, outward_turned}
use Rattle.grid_contacts.proofs.Skins.{two_skins, two_skins_capped}
use Rattle.grid_contacts.proofs.Crossing.{corner_metres}
use Rattle.grid_contacts.proofs.ClippedEnds.{ClipLine, begin_side, end_side}

-- ---- the ends of an edge that has a normal differ
unit_some : {u v a b : Z} {l t : ℕ} → UnitNormal u v a b l t → u ⊠ u ⊞ v ⊠ v ≐ whole 0 → ⊥
unit_some {u} {v} {a} {b} {l} {t} U e =
    go (u ⊠ u ⊞ v ⊠ v) (l * l) e U.square U.root.0 (mul-pos U.positive U.positive)
  where
    go : (s : Z) (q : ℕ) → s ≐ whole 0 → s ≐ whole t → (2 ^ 24 - 1) * (2 ^ 24 - 1) * q ≤ 2 ^ 48 * t → 0 < q → ⊥
    go s q e f h k = omega arith

ends_differ : (p q n : B2vec2) → EdgeNormal p q n → ¬ (value_point q ≡ value_point p)
unfolding EdgeNormal
ends_differ p q n h e =
    unit_some h.unit (go (val p.x) (val p.y) (val q.x) (val q.y) (ap (λ (r : Point). r.x) e)
    (ap (λ (r : Point). r.y) e))
  where
    go : (px py qx qy : Z) → qx ≡ px → qy ≡ py → (qy ⊟ py) ⊠ (qy ⊟ py) ⊞ opp (qx ⊟ px) ⊠ opp (qx ⊟ px) ≐ whole 0
    go px py qx qy e f = rw (e, f) (omega arith)

module _ {t : B2Transform} (g : GridPlacement t) (poly : B2polygonShape) (o : GridOutline poly) (edge : ℕ)
    (edge_in : edge < poly.m_count) where
  abbrev p : B2vec2
  p = face_begin poly edge

  abbrev q : B2vec2
  q = face_end poly edge

  pub begin_grid : GridPoint p
  begin_grid = o.corner edge edge_in

  pub end_grid : GridPoint q
  end_grid = o.corner (place_after poly.m_count edge) (after_in poly.m_count edge edge_in)

  -- ---- the tangent: the edge, normalised
  abbrev along : Point
  along = from_to (value_point p) (value_point q)

  tangent_normalised : Normalised (local_tangent poly edge) along.x along.y
  unfolding local_tangent
  tangent_normalised =
      normalised (side_steps begin_grid end_grid)
      (some_steps begin_grid end_grid (ends_differ p q (point_at poly.m_normals edge) (o.normal edge edge_in)))
      along.x along.y (side_is begin_grid end_grid)

  abbrev local : Point
  local = value_point (local_tangent poly edge)

  tangent_vec : NormalVec (local_tangent poly edge)
  tangent_vec = record {
    at_x = record { own = tangent_normalised.x_own; most = tangent_normalised.unit.a_most };
    at_y = record { own = tangent_normalised.y_own; most = tangent_normalised.unit.b_most };
  }

  -- turned with the placement
  world_tangent : NormalVec (b2_mul_rot_by_vec2 t.q (local_tangent poly edge))
  world_tangent = turned_vec g.turning (local_tangent poly edge) tangent_vec

  -- ---- the side planes
  pub first_side : ClipLine (outline_face two_skins poly t edge).side_normal1
      (outline_face two_skins poly t edge).side_offset1
  unfolding outline_face face_along
  first_side =
      let w = point_capped corner_metres tt (carry_exact g begin_grid).steps in
      begin_side world_tangent w.0 w.1 two_skins_capped

  pub second_side : ClipLine (outline_face two_skins poly t edge).side_normal2
      (outline_face two_skins poly t edge).side_offset2
  unfolding outline_face face_along
  second_side =
      let w = point_capped corner_metres tt (carry_exact g end_grid).steps in
      end_side world_tangent w.0 w.1 two_skins_capped

  -- ---- the normal, in the outline's frame and in the world
  abbrev pub local_normal : B2vec2
  local_normal = b2_cross_vec_by_scalar (local_tangent poly edge) one32

  normal_exact : ExactVec local_normal (right_of local)
  normal_exact = turned_exact tangent_normalised.x_own tangent_normalised.y_own

  pub local_normal_vec : NormalVec local_normal
  local_normal_vec =
      let most = point_abs_same (right_of local) (value_point local_normal) normal_bound
      (vector_sym (value_point local_normal) (right_of local) normal_exact.is)
      (tangent_vec.at_y.most, abs_opposite local.x normal_bound tangent_vec.at_x.most) in
      record {
        at_x = record { own = normal_exact.x_own; most = most.0 };
        at_y = record { own = normal_exact.y_own; most = most.1 };
      }

  abbrev pub world_normal : B2vec2
  world_normal = b2_mul_rot_by_vec2 t.q local_normal

  world_exact : ExactVec world_normal (turned g.turn (value_point local_normal))
  world_exact = turn_exact g.turning normal_exact.x_own normal_exact.y_own

  pub world_normal_vec : NormalVec world_normal
  world_normal_vec = turned_vec g.turning local_normal local_normal_vec

  pub world_normal_is : FaceNormal (carried_face g p q) (value_point world_normal)
  world_normal_is =
      let n = value_point world_normal in
      let turned_right = turned g.turn (right_of local) in
      face_normal (carried_face g p q) n
      (unit_same (outward_turned g p q)
      (vector_sym n turned_right (vector_trans n (turned g.turn (value_point local_normal)) turned_right
      world_exact.is (turned_same g.turn (value_point local_normal) (right_of local) normal_exact.is)))
      (unit_turned g.turn (unit_right tangent_normalised.unit)))
