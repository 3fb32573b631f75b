-- Document 01, "Outlines": welding, the start, the walk, normals, area and centroid, on lists of points and in the
-- code's order of operations. Places count from 0. Definitions only.
use Rattle.std.specs.Prelude.{Bool, true, cond, ◌&&◌, ◌||◌, List, [], ◌∷◌, ℕ, ◌+◌, ◌-◌, ltb, eqb, length, get_or, Float}
use Rattle.std.proofs.Math.Option.{Option}
use Rattle.std.specs.Float.{binary32}
use Rattle.std.specs.Float.Ieee.{of_bits, add, mul, div, lt, eq}
use Rattle.algebra.specs.Loops.{places, weld, scan, walk}
use Rattle.floats.specs.declared.b2_math.B2vec2.{B2vec2}
use Rattle.shape_definitions.specs.declared.b2_polygon_shape.FanSum.{FanSum}
use Rattle.rounding.specs.Literals.{zero32, half32, one32}
use Rattle.floats.specs.B2Common.{epsilon_squared}
use Rattle.floats.specs.B2Math.{vec2, b2_add, b2_sub, b2_scale, b2_cross, b2_cross_vec_by_scalar}
use Rattle.floats.specs.B2Math.{b2_length_squared, b2_distance_vec2_squared, b2_normalize, unit_or_same}

abbrev pub origin : B2vec2
origin = vec2 zero32 zero32

-- the point at a place
abbrev pub point_at : List B2vec2 → ℕ → B2vec2
point_at ps i = get_or ps i origin

-- the places after 0
abbrev pub later_places : List B2vec2 → List ℕ
later_places ps = places 1 (length ps - 1)

-- ---- welding: a point is dropped when its squared distance to an earlier kept one is strictly below (0.5 * 0.005) *
-- (0.5 * 0.005)
abbrev pub weld_limit : Float
weld_limit = of_bits binary32 0x36d1_b717

unfoldable pub too_near : B2vec2 → B2vec2 → Bool
too_near v kept = lt (b2_distance_vec2_squared v kept) weld_limit

unfoldable pub welded : List B2vec2 → List B2vec2
welded points = weld too_near [] points

-- ---- the start: largest x, smallest y among equals
unfoldable pub comes_before : B2vec2 → B2vec2 → Bool
comes_before best p = lt best.x p.x || eq p.x best.x && lt p.y best.y

abbrev pub earlier : List B2vec2 → ℕ → ℕ → Bool
earlier ps best j = comes_before (point_at ps best) (point_at ps j)

unfoldable pub start : List B2vec2 → ℕ
start ps = scan (earlier ps) 0 (later_places ps)

-- ---- the next corner: the candidate begins at place 0 and is replaced by j when the cross product is below 0, or
-- equals 0 and j is farther; a candidate that is the corner itself is always replaced
abbrev pub turns_closer : B2vec2 → B2vec2 → Bool
turns_closer r v = lt (b2_cross r v) zero32
    || eq (b2_cross r v) zero32 && lt (b2_length_squared r) (b2_length_squared v)

unfoldable pub closer : B2vec2 → B2vec2 → B2vec2 → Bool
closer corner candidate p = turns_closer (b2_sub candidate corner) (b2_sub p corner)

abbrev pub replaces : List B2vec2 → ℕ → ℕ → ℕ → Bool
replaces ps corner candidate j = eqb candidate corner
    || closer (point_at ps corner) (point_at ps candidate) (point_at ps j)

unfoldable pub next : List B2vec2 → ℕ → ℕ
next ps corner = scan (replaces ps corner) 0 (later_places ps)

-- ---- the walk from the start until it comes again: the places of its corners, or none where it is not back after
-- eight
unfoldable pub row : List B2vec2 → Option (List ℕ)
row ps = walk eqb (next ps) (start ps) 8 (start ps)

-- the place after i, the first after the last
abbrev pub place_after : ℕ → ℕ → ℕ
place_after count i = cond (ltb (i + 1) count) (i + 1) 0

-- ---- edges and normals: each corner with the next, the first after the last
abbrev pub edges_from : B2vec2 → B2vec2 → List B2vec2 → List B2vec2
edges_from first p [] = b2_sub first p ∷ []
edges_from first p (q ∷ qs) = b2_sub q p ∷ edges_from first q qs

unfoldable pub edges : List B2vec2 → List B2vec2
edges [] = []
edges (p ∷ ps) = edges_from p p ps

unfoldable pub long_enough : List B2vec2 → Bool
long_enough [] = true
long_enough (e ∷ es) = lt epsilon_squared (b2_length_squared e) && long_enough es

abbrev pub normal_of_edge : B2vec2 → B2vec2
normal_of_edge e = unit_or_same (b2_normalize (b2_cross_vec_by_scalar e one32))

-- ---- area and centroid: triangles from the first corner, summed in corner order; a sum has the area and the moment

-- 1/3, rounded: 11184811/2^25
abbrev pub third : Float
third = of_bits binary32 0x3eaa_aaab

-- the triangle of p1, p2 and p3, all measured from the first corner, added to a sum
abbrev pub with_triangle : B2vec2 → B2vec2 → B2vec2 → FanSum → FanSum
with_triangle p1 p2 p3 sum =
    let part = mul binary32 half32 (b2_cross (b2_sub p2 p1) (b2_sub p3 p1)) in
    record {
      area = add binary32 sum.area part;
      moment = b2_add sum.moment
          (b2_scale (mul binary32 part third) (b2_add (b2_add p1 p2) p3));
    }

abbrev pub fan_from : B2vec2 → B2vec2 → List B2vec2 → FanSum → FanSum
fan_from s p [] sum = with_triangle (b2_sub s s) (b2_sub p s) (b2_sub s s) sum
fan_from s p (q ∷ qs) sum = fan_from s q qs (with_triangle (b2_sub s s) (b2_sub p s) (b2_sub q s) sum)

unfoldable pub fan : List B2vec2 → FanSum
fan [] = record { area = zero32; moment = origin }
fan (s ∷ ps) = fan_from s s ps (record { area = zero32; moment = origin })

abbrev pub centroid_of : B2vec2 → FanSum → B2vec2
centroid_of s sum = b2_add (b2_scale (div binary32 one32 sum.area) sum.moment) s
