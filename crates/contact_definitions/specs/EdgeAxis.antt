-- Wall against outline, the axis search of b2_collide_edge.rs in the wall's frame: the wall's two sides, the
-- outline's faces, the choice between them, and for a one-sided wall the Gauss map. xf carries the outline to the
-- wall's frame. Definitions only.
use Rattle.std.specs.Prelude.{Bool, cond, [], ◌∷◌, map, ℕ, Float}
use Rattle.std.specs.Float.{binary32}
use Rattle.std.specs.Float.Ieee.{of_bits, neg, add, sub, mul, le, lt}
use Rattle.algebra.specs.Loops.{places}
use Rattle.floats.specs.declared.b2_math.B2vec2.{B2vec2}
use Rattle.floats.specs.declared.b2_math.B2Transform.{B2Transform}
use Rattle.rounding.specs.Literals.{zero32}
use Rattle.floats.specs.B2Common.{b2_max_float}
use Rattle.floats.specs.B2Math.{vec2, b2_min, b2_sub, b2_neg, b2_dot, b2_cross, b2_normalize, unit_or_same}
use Rattle.floats.specs.B2Math.{b2_mul_rot_by_vec2, b2_mul_transform_by_vec2}
use Rattle.shape_definitions.specs.declared.b2_polygon_shape.B2polygonShape.{B2polygonShape}
use Rattle.shape_definitions.specs.declared.b2_edge_shape.B2edgeShape.{B2edgeShape}
use Rattle.shape_definitions.specs.Outline.{point_at}
use Rattle.contact_definitions.specs.declared.axis.Axis.{Axis}
use Rattle.contact_definitions.specs.declared.axis.Axis.TheVariants.{Apart, FaceA, FaceB}
use Rattle.contact_definitions.specs.declared.b2_collide_edge.GaussRegion.{GaussRegion}
use Rattle.contact_definitions.specs.declared.b2_collide_edge.GaussRegion.TheVariants.{Skip, Admit, Snap}
use Rattle.contact_definitions.specs.Searches.{least}
use Rattle.contact_definitions.specs.Axis.{face_a, face_b, separation_of, farthest}

-- ---- the outline in the wall's frame
unfoldable pub placed_corner : B2Transform → B2polygonShape → ℕ → B2vec2
placed_corner xf poly i = b2_mul_transform_by_vec2 xf (point_at poly.m_vertices i)

unfoldable pub placed_normal : B2Transform → B2polygonShape → ℕ → B2vec2
placed_normal xf poly i = b2_mul_rot_by_vec2 xf.q (point_at poly.m_normals i)

-- the normal on the right of a direction
unfoldable pub right_of : B2vec2 → B2vec2
right_of e = vec2 e.y (neg e.x)

-- ---- b2_compute_edge_separation: the side of the wall that the outline is farther out on, by its deepest corner
-- along the side's normal, from v1. Side 0 has the wall's normal, side 1 has it reversed
unfoldable pub side_axis : B2Transform → B2polygonShape → B2vec2 → B2vec2 → ℕ → Axis
side_axis xf poly v1 normal side =
    face_a (least (λ i. b2_dot normal (b2_sub (placed_corner xf poly i) v1)) poly.m_count) normal side

unfoldable pub b2_compute_edge_separation : B2Transform → B2polygonShape → B2vec2 → B2vec2 → Axis
b2_compute_edge_separation xf poly v1 normal1 =
    farthest (FaceA (neg b2_max_float) zero32 zero32 0)
    (side_axis xf poly v1 normal1 0 ∷ side_axis xf poly v1 (b2_neg normal1) 1 ∷ [])

-- ---- b2_compute_polygon_separation: the face of the outline that keeps both ends of the wall off most, by the lesser
-- of their distances along the face's normal, reversed. Both searches begin at the largest float negated and a zero
-- normal; Box2D gives that the place -1, here 0
unfoldable pub outline_axis : B2Transform → B2polygonShape → B2vec2 → B2vec2 → ℕ → Axis
outline_axis xf poly v1 v2 i =
    let n = b2_neg (placed_normal xf poly i) in
    let v = placed_corner xf poly i in
    face_b (b2_min (b2_dot n (b2_sub v v1)) (b2_dot n (b2_sub v v2))) n i

unfoldable pub b2_compute_polygon_separation : B2Transform → B2polygonShape → B2vec2 → B2vec2 → Axis
b2_compute_polygon_separation xf poly v1 v2 =
    farthest (FaceB (neg b2_max_float) zero32 zero32 0) (map (outline_axis xf poly v1 v2) (places 0 poly.m_count))

-- ---- the primary axis: apart where the wall's axis, and then the outline's, has a separation above the radius; the
-- outline's if it is the greater by 0.98 and 0.001, both less the radius
abbrev pub relative_tolerance : Float
relative_tolerance = of_bits binary32 0x3f7a_e148

abbrev pub absolute_tolerance : Float
absolute_tolerance = of_bits binary32 0x3a83_126f

unfoldable pub clearly_above : Float → Float → Bool
clearly_above x y = lt (add binary32 (mul binary32 relative_tolerance x) absolute_tolerance) y

unfoldable pub primary_axis : Float → Axis → Axis → Axis
primary_axis radius edge_axis polygon_axis =
    cond (lt radius (separation_of edge_axis)) (Apart (separation_of edge_axis))
    (cond (lt radius (separation_of polygon_axis)) (Apart (separation_of polygon_axis))
    (cond (clearly_above (sub binary32 (separation_of edge_axis) radius)
    (sub binary32 (separation_of polygon_axis) radius))
    polygon_axis edge_axis))

-- ---- the Gauss map of a one-sided wall with the direction edge1: a normal that leans to vertex 1 is held against
-- the wall before, one that leans to vertex 2 against the wall after. Where the corner is convex, a normal beyond the
-- neighbour's by a sine above 0.1 is skipped
abbrev pub sine_tolerance : Float
sine_tolerance = of_bits binary32 0x3dcc_cccd

abbrev pub region_by : Bool → Float → GaussRegion
region_by convex sine = cond convex (cond (lt sine_tolerance sine) Skip Admit) Snap

unfoldable pub region_before : B2vec2 → B2vec2 → B2vec2 → GaussRegion
region_before edge0 edge1 normal = region_by (le zero32 (b2_cross edge0 edge1)) (b2_cross normal (right_of edge0))

unfoldable pub region_after : B2vec2 → B2vec2 → B2vec2 → GaussRegion
region_after edge1 edge2 normal = region_by (le zero32 (b2_cross edge1 edge2)) (b2_cross (right_of edge2) normal)

unfoldable pub gauss_region : B2edgeShape → B2vec2 → B2vec2 → GaussRegion
gauss_region edge edge1 normal =
    cond (le (b2_dot normal edge1) zero32)
    (region_before (unit_or_same (b2_normalize (b2_sub edge.m_vertex1 edge.m_vertex0))) edge1 normal)
    (region_after edge1 (unit_or_same (b2_normalize (b2_sub edge.m_vertex3 edge.m_vertex2))) normal)

-- the axis in a region: a skipped one counts as apart, by the wall's separation
abbrev pub in_region : GaussRegion → Axis → Axis → Axis
in_region Skip edge_axis axis = Apart (separation_of edge_axis)
in_region Admit edge_axis axis = axis
in_region Snap edge_axis axis = edge_axis

unfoldable pub smoothed : B2edgeShape → B2vec2 → Axis → Axis → Axis
smoothed edge edge1 edge_axis (Apart s) = Apart s
smoothed edge edge1 edge_axis (FaceA s x y i) = in_region (gauss_region edge edge1 (vec2 x y)) edge_axis (FaceA s x y i)
smoothed edge edge1 edge_axis (FaceB s x y i) = in_region (gauss_region edge edge1 (vec2 x y)) edge_axis (FaceB s x y i)

-- ---- the whole search
abbrev pub smoothed_if : Bool → B2edgeShape → B2vec2 → Axis → Axis → Axis
smoothed_if one_sided edge edge1 edge_axis axis = cond one_sided (smoothed edge edge1 edge_axis axis) axis

unfoldable pub edge_polygon_axis : Float → B2edgeShape → B2vec2 → B2Transform → B2polygonShape → Axis
edge_polygon_axis radius edge edge1 xf poly =
    let edge_axis = b2_compute_edge_separation xf poly edge.m_vertex1 (right_of edge1) in
    let polygon_axis = b2_compute_polygon_separation xf poly edge.m_vertex1 edge.m_vertex2 in
    smoothed_if edge.m_one_sided edge edge1 edge_axis (primary_axis radius edge_axis polygon_axis)
