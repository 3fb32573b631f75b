-- The normals of an outline that the builder accepts, and of a box, are near unit: their edges have a length. Assumes
-- nothing.
use Prim.Native.Nat.{ℕ, zero, suc, ◌*◌, ◌<◌}
use mathlib.Core.Path.{◌≡◌}
use mathlib.Core.Bool.{true, ◌&&◌}
use mathlib.Core.List.{List, [], ◌∷◌, map}
use native.Mathlib.Omega.{arith}
use lib.Dec.{T}
use lib.Ieee.{Float, binary32, fits, neg, lt}
use lib.ListN.{length, drop, length-map, get_or-append}
use Rattle.algebra.specs.Integer.{Z, whole, ◌⊞◌, ◌⊟◌, ◌⊠◌, ◌≐◌, Abs}
use Rattle.algebra.specs.Buffer.{over}
use Rattle.algebra.proofs.Booleans.{both}
use Rattle.rounding.specs.Literals.{zero32, one32}
use Rattle.rounding.specs.Value.{metre, F32, val}
use Rattle.rounding.proofs.Value.{neg_f32, val_neg}
use Rattle.rounding.proofs.Literals.{zero_f32, one_f32, zero_val, one_val}
use Rattle.floats.specs.declared.b2_math.B2vec2.{B2vec2}
use Rattle.floats.specs.B2Common.{epsilon_squared}
use Rattle.floats.specs.B2Math.{vec2, b2_length_squared}
use Rattle.floats.specs.NearUnit.{normal_bound, length_error, NearUnit}
use Rattle.floats.specs.Ranges.{coordinate_in_range, point_in_range}
use Rattle.floats.proofs.Turned.{turned_long}
use Rattle.floats.proofs.Normalised.{made_near_unit, not_short}
use Rattle.shape_definitions.specs.declared.b2_polygon_shape.B2polygonShape.{B2polygonShape}
use Rattle.shape_definitions.specs.Outline.{origin, point_at, edges, long_enough, normal_of_edge}
use Rattle.shape_definitions.specs.Polygon.{all_points}
use Rattle.shape_definitions.specs.Polygon.{b2_polygon_shape_set}
use Rattle.shape_definitions.specs.Boxes.{box_corners, box_normals, b2_polygon_shape_set_as_box}
use Rattle.shape_definitions.specs.Refusal.{accepted}
use Rattle.shape_definitions.proofs.Edges.{edges_length}
use Rattle.contact_definitions.specs.CircleNormals.{Singles}
use Rattle.record_definitions.proofs.Changes.{by_choice}
use Rattle.record_ranges.proofs.Caps.{Cap, cap_neg}
use Rattle.record_ranges.proofs.Vectors.{Caps}
use Rattle.record_ranges.proofs.InRange.{coordinate_cap, point_caps}
use Rattle.record_ranges.proofs.Normalised.{moderate}
use Rattle.record_ranges.proofs.Outlines.{Each, each_at, each_edges, turned_caps, set_made, TakenWith, not_taken}

-- ---- an outline with corners of at most 2^20 m and normals that are near unit, at the places that it counts
pub record Built (shape : B2polygonShape) : Type 0 where
  pub some : 0 < shape.m_count
  pub corner : (i : ℕ) → i < shape.m_count → Caps (point_at shape.m_vertices i) 20
  pub normal : (i : ℕ) → i < shape.m_count → NearUnit (point_at shape.m_normals i)

-- a place of the new points
front : (P : B2vec2 → Type 0) (new old : List B2vec2) (i : ℕ) → i < length new → P (point_at new i)
    → P (point_at (over new old) i)
front P new old i i_in h = rw (get_or-append new (drop (length new) old) origin i i_in) h

-- ---- the normal of an edge whose squared length is above 2^-46
normal_unit : (e : B2vec2) → Caps e 21 → lt epsilon_squared (b2_length_squared e) ≡ true → NearUnit (normal_of_edge e)
normal_unit e h long =
    let m = moderate 21 tt (turned_caps e h) in
    made_near_unit m (not_short m (turned_long e h.x_cap.own.in_format h.y_cap.own.in_format long))

normals_unit : (es : List B2vec2) → Each es 21 → long_enough es ≡ true → (i : ℕ) → i < length es
    → NearUnit (point_at (map normal_of_edge es) i)
unfolding Each long_enough
normals_unit [] h long i i_in = absurd (omega arith)
normals_unit (e ∷ es) h long zero i_in =
    normal_unit e h.0 (both (lt epsilon_squared (b2_length_squared e)) (long_enough es) long).0
normals_unit (e ∷ es) h long (suc i) i_in =
    normals_unit es h.1 (both (lt epsilon_squared (b2_length_squared e)) (long_enough es) long).1 i (omega arith)

-- ---- the builder, of any points and any old outline
each_in_range : (points : List B2vec2) → Singles points → all_points point_in_range points ≡ true → Each points 20
unfolding Each
each_in_range [] singles taken = tt
each_in_range (p ∷ points) singles taken =
    let each = both (point_in_range p) (all_points point_in_range points) taken in (
      point_caps p (singles 0 (omega arith)) each.0,
      each_in_range points (λ i i_in. singles (suc i) (omega arith)) each.1,
    )

pub set_built : (old : B2polygonShape) (points : List B2vec2) → Singles points
    → (b2_polygon_shape_set old points).refusal ≡ accepted → Built (b2_polygon_shape_set old points).shape
set_built old points singles = set_made (TakenWith Built) old (not_taken Built old)
    (λ corners h many long taken. record {
      some = omega arith;
      corner = λ i i_in.
          front (λ (p : B2vec2). Caps p 20) corners old.m_vertices i i_in (each_at corners 20 h i);
      normal = λ i i_in.
          let inside : i < length (edges corners) = rw (edges_length corners) i_in in
          front NearUnit (map normal_of_edge (edges corners)) old.m_normals i
          (rw (length-map (edges corners) normal_of_edge) inside)
          (normals_unit (edges corners) (each_edges corners h) long i inside);
    }) points (each_in_range points singles)

-- ---- a box: its normals are (0, -1), (1, 0), (0, 1) and (-1, 0)
axis_unit : {a b : Float} → F32 a → F32 b → Abs (val a) metre → Abs (val b) metre
    → val a ⊠ val a ⊞ val b ⊠ val b ≐ whole (metre * metre) → NearUnit (vec2 a b)
axis_unit {a} {b} a_own b_own a_most b_most one = record {
  x_own = a_own;
  y_own = b_own;
  x_most = wider (val a) a_most;
  y_most = wider (val b) b_most;
  unit = exact (val a ⊠ val a ⊞ val b ⊠ val b) (metre * metre) (length_error * metre) one;
}
  where
    wider : (x : Z) → Abs x metre → Abs x normal_bound
    wider x h = omega arith

    exact : (q : Z) (m e : ℕ) → q ≐ whole m → Abs (q ⊟ whole m) e
    exact q m e h = omega arith

zero_one : NearUnit (vec2 zero32 one32)
zero_one = axis_unit zero_f32 one_f32 (rw zero_val (omega arith)) (rw one_val (omega arith))
    (rw (zero_val, one_val) (omega arith))

one_zero : NearUnit (vec2 one32 zero32)
one_zero = axis_unit one_f32 zero_f32 (rw one_val (omega arith)) (rw zero_val (omega arith))
    (rw (zero_val, one_val) (omega arith))

zero_less_one : NearUnit (vec2 zero32 (neg one32))
zero_less_one = axis_unit zero_f32 (neg_f32 one_f32) (rw zero_val (omega arith))
    (rw (val_neg one32, one_val) (omega arith)) (rw (zero_val, val_neg one32, one_val) (omega arith))

less_one_zero : NearUnit (vec2 (neg one32) zero32)
less_one_zero = axis_unit (neg_f32 one_f32) zero_f32 (rw (val_neg one32, one_val) (omega arith))
    (rw zero_val (omega arith)) (rw (zero_val, val_neg one32, one_val) (omega arith))

pub box_built : (old : B2polygonShape) (hx hy : Float) → T (fits binary32 hx) → T (fits binary32 hy)
    → (b2_polygon_shape_set_as_box old hx hy).refusal ≡ accepted → Built (b2_polygon_shape_set_as_box old hx hy).shape
unfolding b2_polygon_shape_set_as_box
box_built old hx hy x_single y_single =
    by_choice (TakenWith Built) (coordinate_in_range hx && coordinate_in_range hy) _ _
    (λ inside taken.
    let each = both (coordinate_in_range hx) (coordinate_in_range hy) inside in
    record {
      some = omega arith;
      corner = corners (coordinate_cap hx x_single each.0) (coordinate_cap hy y_single each.1);
      normal = normals;
    })
    (λ outside. not_taken Built old 1)
  where
    corners : Cap hx 20 → Cap hy 20 → (i : ℕ) → i < 4
        → Caps (point_at (over (box_corners hx hy) old.m_vertices) i) 20
    corners x y zero i_in = record { x_cap = cap_neg 20 x; y_cap = cap_neg 20 y }
    corners x y (suc zero) i_in = record { x_cap = x; y_cap = cap_neg 20 y }
    corners x y (suc (suc zero)) i_in = record { x_cap = x; y_cap = y }
    corners x y (suc (suc (suc zero))) i_in = record { x_cap = cap_neg 20 x; y_cap = y }
    corners x y (suc (suc (suc (suc i)))) i_in = absurd (omega arith)

    normals : (i : ℕ) → i < 4 → NearUnit (point_at (over box_normals old.m_normals) i)
    normals zero i_in = zero_less_one
    normals (suc zero) i_in = one_zero
    normals (suc (suc zero)) i_in = zero_one
    normals (suc (suc (suc zero))) i_in = less_one_zero
    normals (suc (suc (suc (suc i)))) i_in = absurd (omega arith)
