-- An outline that the builder accepts has corners of at most 2^20 m and normals of at most 4 m, past its count too.
-- Assumes nothing.
use Prim.Native.Nat.{ℕ, zero, suc, ◌*◌, ◌^◌, ◌<◌}
use mathlib.Core.Path.{◌≡◌, refl}
use mathlib.Core.Bool.{Bool, true, false, not, ◌&&◌, ◌||◌}
use mathlib.Core.List.{List, [], ◌∷◌, ◌++◌, map}
use mathlib.Core.Option.{Option, none, some}
use native.Mathlib.Omega.{arith}
use lib.Dec.{T, ltb}
use lib.Ieee.{binary32, of_bits, le, lt}
use lib.Ieee.Bits.{of_bits-fits}
use lib.ListN.{length, drop, replicate, length-map}
use borrow.Author.Tests.{not-false, ltb-false}
use Rattle.algebra.specs.Integer.{Z, whole, ◌≼◌, Abs}
use Rattle.algebra.proofs.Booleans.{both}
use Rattle.algebra.specs.Buffer.{over}
use Rattle.algebra.specs.Loops.{near_any, keep_unless, weld}
use Rattle.rounding.specs.Value.{metre, val}
use Rattle.rounding.specs.Literals.{one32}
use Rattle.rounding.proofs.Value.{mag_abs}
use Rattle.floats.specs.declared.b2_math.B2vec2.{B2vec2}
use Rattle.floats.specs.B2Common.{b2_epsilon, b2_polygon_radius}
use Rattle.floats.specs.B2Math.{b2_cross_vec_by_scalar}
use Rattle.floats.specs.Ranges.{point_in_range, radius_in_range}
use Rattle.floats.proofs.RangeValue.{radius_value}
use Rattle.shape_definitions.specs.declared.b2_polygon_shape.B2polygonShape.{B2polygonShape}
use Rattle.shape_definitions.specs.declared.b2_polygon_shape.PolygonAnswer.{PolygonAnswer}
use Rattle.shape_definitions.specs.Outline.{origin, point_at, too_near, welded, row, edges_from, edges, long_enough}
use Rattle.shape_definitions.specs.Outline.{normal_of_edge, fan}
use Rattle.shape_definitions.specs.Polygon.{refused, all_points, finished, outline_of_corners, outline_of_row}
use Rattle.shape_definitions.specs.Polygon.{outline_of_welded}
use Rattle.shape_definitions.specs.Polygon.{b2_polygon_shape_set}
use Rattle.shape_definitions.specs.Refusal.{accepted}
use Rattle.contact_definitions.proofs.Counts.{either}
use Rattle.record_definitions.specs.World.{blank_outline}
use Rattle.record_definitions.proofs.Changes.{by_choice}
use Rattle.record_ranges.proofs.Caps.{Cap, cap_neg, cap_mul}
use Rattle.record_ranges.proofs.Vectors.{Caps, caps_sub}
use Rattle.record_ranges.proofs.Normalised.{normalised_caps}
use Rattle.record_ranges.proofs.Shapes.{one_cap, origin_caps, OutlineCaps}

-- ---- rows of points
unfoldable pub Each : List B2vec2 → ℕ → Type 0
Each [] k = Unit {0}
Each (p ∷ ps) k = Caps p k × Each ps k

pub each_at : (l : List B2vec2) (k : ℕ) → Each l k → (i : ℕ) → Caps (point_at l i) k
unfolding Each
each_at [] k h i = origin_caps k
each_at (p ∷ l) k h zero = h.0
each_at (p ∷ l) k h (suc i) = each_at l k h.1 i

each_append : (l m : List B2vec2) (k : ℕ) → Each l k → Each m k → Each (l ++ m) k
unfolding Each
each_append [] m k h g = g
each_append (p ∷ l) m k h g = (h.0, each_append l m k h.1 g)

each_drop : (n : ℕ) (l : List B2vec2) (k : ℕ) → Each l k → Each (drop n l) k
unfolding Each
each_drop zero l k h = h
each_drop (suc n) [] k h = tt
each_drop (suc n) (p ∷ l) k h = each_drop n l k h.1

pub each_over : (new old : List B2vec2) (k : ℕ) → Each new k → Each old k → Each (over new old) k
each_over new old k h g = each_append new (drop (length new) old) k h (each_drop (length new) old k g)

pub origins : (n k : ℕ) → Each (replicate n origin) k
unfolding Each
origins zero k = tt
origins (suc n) k = (origin_caps k, origins n k)

-- ---- welded, walked, edges and normals
each_kept : (t : Bool) (kept : List B2vec2) (p : B2vec2) → Each kept 20 → Caps p 20 → Each (keep_unless t kept p) 20
unfolding Each
each_kept true kept p h g = h
each_kept false kept p h g = each_append kept (p ∷ []) 20 h (g, tt)

each_weld : (kept points : List B2vec2) → Each kept 20 → Each points 20 → Each (weld too_near kept points) 20
unfolding Each
each_weld kept [] h g = h
each_weld kept (p ∷ points) h g =
    let near = near_any too_near p kept in
    each_weld (keep_unless near kept p) points (each_kept near kept p h g.0) g.1

each_picked : (ps : List B2vec2) (places : List ℕ) → Each ps 20 → Each (map (point_at ps) places) 20
unfolding Each
each_picked ps [] h = tt
each_picked ps (i ∷ places) h = (each_at ps 20 h i, each_picked ps places h)

each_edge : (first p : B2vec2) (ps : List B2vec2) → Caps first 20 → Caps p 20 → Each ps 20
    → Each (edges_from first p ps) 21
unfolding Each
each_edge first p [] f h g = (caps_sub first p 20 tt f h, tt)
each_edge first p (q ∷ ps) f h g = (caps_sub q p 20 tt g.0 h, each_edge first q ps f g.0 g.1)

pub each_edges : (ps : List B2vec2) → Each ps 20 → Each (edges ps) 21
unfolding Each edges
each_edges [] h = tt
each_edges (p ∷ ps) h = each_edge p p ps h.0 h.0 h.1

pub turned_caps : (e : B2vec2) → Caps e 21 → Caps (b2_cross_vec_by_scalar e one32) 21
unfolding b2_cross_vec_by_scalar
turned_caps e h =
    record { x_cap = cap_mul 0 21 tt one_cap h.y_cap; y_cap = cap_mul 0 21 tt (cap_neg 0 one_cap) h.x_cap }

normal_caps : (e : B2vec2) → Caps e 21 → Caps (normal_of_edge e) 2
normal_caps e h = normalised_caps (b2_cross_vec_by_scalar e one32) 21 tt (turned_caps e h)

each_normal : (es : List B2vec2) → Each es 21 → Each (map normal_of_edge es) 2
unfolding Each
each_normal [] h = tt
each_normal (e ∷ es) h = (normal_caps e h.0, each_normal es h.1)

-- ---- the builder: what holds of the old outline, refused, and of each row of three corners or more, at most 2^20 m
-- and with edges that are long enough, holds of its answer
module _ (P : PolygonAnswer → Type 0) (old : B2polygonShape) (Turned_down : (n : ℕ) → P (refused (suc n) old))
    (of_corners : (corners : List B2vec2) → Each corners 20 → 2 < length corners → long_enough (edges corners) ≡ true
    → P (finished old corners (fan corners))) where
  corners_made : (corners : List B2vec2) → Each corners 20 → 2 < length corners → P (outline_of_corners old corners)
  unfolding outline_of_corners
  corners_made corners h many =
      by_choice P (long_enough (edges corners) && lt b2_epsilon (fan corners).area) _ _
      (λ passed. of_corners corners h many
      (both (long_enough (edges corners)) (lt b2_epsilon (fan corners).area) passed).0)
      (λ failed. Turned_down 4)

  row_made : (ps : List B2vec2) (walked : Option (List ℕ)) → Each ps 20 → P (outline_of_row old ps walked)
  row_made ps none h = Turned_down 3
  row_made ps (some places) h =
      by_choice P (ltb (length places) 3) _ _ (λ few. Turned_down 3)
      (λ many. corners_made (map (point_at ps) places) (each_picked ps places h)
      (rw (length-map places (point_at ps)) (ltb-false (length places) 3 many)))

  -- of points that are at most 2^20 m where they are within the range
  pub set_made : (points : List B2vec2) → (all_points point_in_range points ≡ true → Each points 20)
      → P (b2_polygon_shape_set old points)
  unfolding b2_polygon_shape_set outline_of_welded welded Each
  set_made points given =
      let ps = weld too_near [] points in
      either P (ltb (length points) 3 || ltb 8 (length points)) _ _ (Turned_down 0)
      (by_choice P (not (all_points point_in_range points)) _ _ (λ out. Turned_down 1)
      (λ inside. either P (ltb (length ps) 3) _ _ (Turned_down 2)
      (row_made ps (row ps) (each_weld [] points tt (given (not-false (all_points point_in_range points) inside))))))

-- ---- the outline
abbrev pub TakenWith : (B2polygonShape → Type 0) → PolygonAnswer → Type 0
TakenWith P answer = answer.refusal ≡ accepted → P answer.shape

pub not_taken : (P : B2polygonShape → Type 0) (old : B2polygonShape) (n : ℕ) → TakenWith P (refused (suc n) old)
not_taken P old n taken =
    let never : suc n ≡ 0 = taken in
    absurd (omega arith)

pub skin_taken : T (radius_in_range b2_polygon_radius)
unfolding radius_in_range of_bits le
skin_taken = tt

skin_cap : Cap blank_outline.m_radius 20
skin_cap =
    let r = radius_value {r = b2_polygon_radius} (of_bits-fits binary32 0x3c23_d70a) skin_taken in
    let low_to_high = sized (val b2_polygon_radius) r.low r.high in
    record { own = r.own; size = mag_abs b2_polygon_radius (2 ^ 20 * metre) low_to_high }
  where
    sized : (a : Z) → whole 0 ≼ a → a ≼ whole (2 ^ 20 * metre) → Abs a (2 ^ 20 * metre)
    sized a g f = omega arith

pub built_caps : (points : List B2vec2) → (all_points point_in_range points ≡ true → Each points 20)
    → (b2_polygon_shape_set blank_outline points).refusal ≡ accepted
    → OutlineCaps (b2_polygon_shape_set blank_outline points).shape
built_caps = set_made (TakenWith OutlineCaps) blank_outline (not_taken OutlineCaps blank_outline)
    (λ corners h many long taken. record {
      radius = skin_cap;
      corner = each_at (over corners (replicate 8 origin)) 20
          (each_over corners (replicate 8 origin) 20 h (origins 8 20));
      normal = each_at (over (map normal_of_edge (edges corners)) (replicate 8 origin)) 2
          (each_over (map normal_of_edge (edges corners)) (replicate 8 origin) 2
          (each_normal (edges corners) (each_edges corners h)) (origins 8 2));
    })

pub blank_outline_caps : OutlineCaps blank_outline
blank_outline_caps = record {
  radius = skin_cap;
  corner = each_at (replicate 8 origin) 20 (origins 8 20);
  normal = each_at (replicate 8 origin) 2 (origins 8 2);
}

-- the builder keeps the radius, refused or not
Skinned : PolygonAnswer → Type 0
Skinned answer = answer.shape.m_radius ≡ b2_polygon_radius

row_radius : (ps : List B2vec2) (walked : Option (List ℕ)) → Skinned (outline_of_row blank_outline ps walked)
unfolding outline_of_corners Skinned
row_radius ps none = refl
row_radius ps (some places) =
    let corners = map (point_at ps) places in
    either Skinned (ltb (length places) 3) _ _ refl
    (either Skinned (long_enough (edges corners) && lt b2_epsilon (fan corners).area) _ _ refl refl)

pub built_radius : (points : List B2vec2)
    → (b2_polygon_shape_set blank_outline points).shape.m_radius ≡ b2_polygon_radius
unfolding b2_polygon_shape_set outline_of_welded Skinned
built_radius points =
    either Skinned (ltb (length points) 3 || ltb 8 (length points)) _ _ refl
    (either Skinned (not (all_points point_in_range points)) _ _ refl
    (either Skinned (ltb (length (welded points)) 3) _ _ refl (row_radius (welded points) (row (welded points)))))
