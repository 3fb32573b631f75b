-- One corner of outline 2 under one face of outline 1, as b2_find_max_separation computes its separation in frame 2:
-- finite, at most 34 m, and within 2^-16 m of the corner's exact signed distance from the placed face's line. Assumes
-- nothing.
use Prim.Native.Nat.{ℕ, ◌*◌, ◌<◌}
use native.Mathlib.Omega.{arith}
use lib.Ieee.{Float}
use Rattle.algebra.specs.Integer.{Z, ◌⊟◌, ◌⊛◌, ◌≐◌, Abs}
use Rattle.algebra.specs.Plane.{Point, from_to, dot}
use Rattle.algebra.proofs.Integer.{same_trans}
use Rattle.algebra.proofs.Plane.{vector_trans, point_abs_same, dot_same}
use Rattle.rounding.specs.Value.{metre, tick, val}
use Rattle.rounding.proofs.Caps.{Capped}
use Rattle.floats.specs.declared.b2_math.B2vec2.{B2vec2}
use Rattle.floats.specs.declared.b2_math.B2Transform.{B2Transform}
use Rattle.floats.specs.B2Math.{b2_sub, b2_dot, b2_mul_rot_by_vec2, b2_mul_transform_by_vec2, b2_mul_t_transform}
use Rattle.shape_definitions.specs.declared.b2_polygon_shape.B2polygonShape.{B2polygonShape}
use Rattle.shape_definitions.specs.Outline.{point_at, place_after}
use Rattle.grid.specs.Grid.{value_point}
use Rattle.grid.specs.GridOutline.{GridOutline}
use Rattle.grid_contacts.specs.Placement.{GridPlacement, turned, carried, placed_corners}
use Rattle.grid_contacts.specs.Faces.{Face, corner_at, face_at}
use Rattle.grid_contacts.proofs.Turns.{turned_same, turned_abs, turned_dot}
use Rattle.grid_contacts.proofs.Placing.{point_capped, frame_turning, gap, gap_exact, gap_turned, frame_vector}
use Rattle.grid_contacts.proofs.NormalVec.{turned_vec, normal_dot, dot_capped}
use Rattle.grid_contacts.proofs.FaceNormal.{carried_face, placed_normal, stored_vec}
use Rattle.grid_contacts.proofs.FaceDistance.{DistanceWithin, gap_metres, separation_metres, dot_ticks}
use Rattle.grid_contacts.proofs.FaceDistance.{distance_error, distance_near}
use Rattle.grid_contacts.proofs.PlacedOutline.{placed_at, placed_face}

-- s is the separation of the corner c under the face f, as computed
pub record Measured (f : Face) (c : Point) (s : Float) : Type 0 where
  pub capped : Capped s separation_metres
  pub near : DistanceWithin f c (val s) distance_error

-- what b2_find_max_separation computes for face i of outline 1 and corner j of outline 2; xf carries frame 1 to frame 2
abbrev pub corner_separation : B2Transform → B2polygonShape → B2polygonShape → ℕ → ℕ → Float
corner_separation xf poly1 poly2 i j =
    b2_dot (b2_mul_rot_by_vec2 xf.q (point_at poly1.m_normals i))
    (b2_sub (point_at poly2.m_vertices j) (b2_mul_transform_by_vec2 xf (point_at poly1.m_vertices i)))

module _ {xf1 xf2 : B2Transform} (g1 : GridPlacement xf1) (g2 : GridPlacement xf2) (poly1 poly2 : B2polygonShape)
    (o1 : GridOutline poly1) (o2 : GridOutline poly2) (i j : ℕ) (i_in : i < poly1.m_count)
    (j_in : j < poly2.m_count) where
  abbrev xf : B2Transform
  xf = b2_mul_t_transform xf2 xf1

  abbrev p : B2vec2
  p = point_at poly1.m_vertices i

  abbrev q : B2vec2
  q = point_at poly1.m_vertices (place_after poly1.m_count i)

  abbrev m : B2vec2
  m = point_at poly1.m_normals i

  abbrev v : B2vec2
  v = point_at poly2.m_vertices j

  -- normal and gap in frame 2
  abbrev n : B2vec2
  n = b2_mul_rot_by_vec2 xf.q m

  abbrev d : B2vec2
  d = b2_sub v (b2_mul_transform_by_vec2 xf p)

  -- and in the world
  abbrev world_normal : Point
  world_normal = turned g1.turn (value_point m)

  abbrev world_gap : Point
  world_gap = from_to (carried g1 (value_point p)) (carried g2 (value_point v))

  separation_near : Measured (carried_face g1 p q) (carried g2 (value_point v)) (b2_dot n d)
  separation_near =
      let m_vec = stored_vec p q m (o1.normal i i_in) in
      let d_exact = gap_exact g1 g2 (o1.corner i i_in) (o2.corner j j_in) in
      let d_cap = point_capped gap_metres tt d_exact.steps in
      let s = normal_dot 5 gap_metres tt tt tt tt (turned_vec (frame_turning g1 g2) m m_vec) d_cap.0 d_cap.1 in
      let turned_d = turned g2.turn (value_point d) in
      let turned_n = turned g2.turn (value_point n) in
      let gap_is = vector_trans turned_d (turned g2.turn (gap g1 g2 p v)) world_gap
      (turned_same g2.turn (value_point d) (gap g1 g2 p v) d_exact.is) (gap_turned g1 g2 p v) in
      let own = frame_vector g1 g2 m_vec.at_x.own m_vec.at_y.own in
      let dots = same_trans (dot (value_point n) (value_point d)) (dot turned_n turned_d) (dot world_normal world_gap)
      (turned_dot g2.turn (value_point n) (value_point d))
      (dot_same turned_n world_normal turned_d world_gap own gap_is) in
      record {
        capped = dot_capped s;
        near = distance_near (carried_face g1 p q) (carried g2 (value_point v)) world_normal (val (b2_dot n d))
            (placed_normal g1 p q m (o1.normal i i_in))
            (point_abs_same turned_d world_gap (gap_metres * metre) gap_is
            (turned_abs g2.turn (value_point d) (gap_metres * metre) (d_cap.0.cap, d_cap.1.cap)))
            (moved (val (b2_dot n d)) (dot (value_point n) (value_point d)) (dot world_normal world_gap) dots
            s.err);
      }
    where
      moved : (s a b : Z) → a ≐ b → Abs (metre ⊛ s ⊟ a) (dot_ticks * tick * metre)
          → Abs (metre ⊛ s ⊟ b) (dot_ticks * tick * metre)
      moved s a b e h = omega arith

  pub placed_separation : Measured (face_at (placed_corners g1 poly1) i) (corner_at (placed_corners g2 poly2) j)
      (corner_separation xf poly1 poly2 i j)
  placed_separation = rw (placed_face g1 poly1 o1 i i_in, placed_at g2 poly2 o2 j j_in) separation_near
