-- Witnesses for the second sentence, computed by antt from the definitions: a square and a triangle that the builder
-- makes of grid lists; for every old manifold, two squares that overlap, the second unturned and turned by each quarter
-- (two points, face A), and a square and the triangle (one point, face B, with its numbers); and that the placements of
-- these, and of a square 1 m off, are on the grid, with zeros of both signs. Assumes nothing.
use mathlib.Core.Path.{◌≡◌, refl}
use mathlib.Core.List.{List, [], ◌∷◌}
use mathlib.Core.Bool.{Bool, ◌&&◌}
use Prim.Native.Nat.{ℕ, ◌^◌}
use lib.Dec.{T, ltb}
use lib.ListN.{length, replicate}
use lib.Ieee.{Float, of_bits, neg, add, sub, mul, div, le, lt, eq}
use mir.Facts.{and_yes}
use Rattle.algebra.specs.Integer.{Z, signed, ◌⊛◌, ◌≐◌, ◌≐?◌}
use Rattle.algebra.specs.Buffer.{over}
use Rattle.algebra.proofs.Integer.{same_of_test}
use Rattle.rounding.specs.Value.{metre, F32, val}
use Rattle.rounding.proofs.Value.{metre_is}
use Rattle.rounding.proofs.Literals.{bits_sign, bits_field, bits_units, bits_f32, bits_val}
use Rattle.sqrt.specs.Sqrt.{root_digits, whole_root, root_by_steps, sqrt}
use Rattle.floats.specs.declared.b2_math.B2vec2.{B2vec2}
use Rattle.floats.specs.declared.b2_math.B2Transform.{B2Transform}
use Rattle.floats.specs.B2Common.{b2_polygon_radius}
use Rattle.floats.specs.B2Math.{rot, b2_sqrt, b2_add, b2_sub, b2_neg, b2_scale, b2_dot, b2_cross, b2_length_squared}
use Rattle.floats.specs.B2Math.{b2_cross_vec_by_scalar, b2_length, b2_distance_vec2_squared, b2_normalize, b2_mul_t_rot}
use Rattle.floats.specs.B2Math.{b2_mul_rot_by_vec2, b2_mul_t_rot_by_vec2, b2_mul_transform_by_vec2}
use Rattle.floats.specs.B2Math.{b2_mul_t_transform_by_vec2, b2_mul_t_transform}
use Rattle.floats.specs.Ranges.{point_in_range, radius_in_range, rotation_in_range, transform_in_range, normal_in_range}
use Rattle.floats.specs.Ranges.{contact_point_in_range, local_normal_in_range}
use Rattle.floats.proofs.BitPatterns.{float, vector}
use Rattle.shape_definitions.specs.declared.b2_polygon_shape.B2polygonShape.{B2polygonShape}
use Rattle.shape_definitions.specs.Outline.{origin, too_near, welded, comes_before, start, closer, next, row, edges}
use Rattle.shape_definitions.specs.Outline.{long_enough, fan}
use Rattle.shape_definitions.specs.Polygon.{outline_of_corners, outline_of_welded, b2_polygon_shape_set}
use Rattle.shape_definitions.specs.Validate.{polygon_in_range}
use Rattle.contact_definitions.specs.declared.b2_collision.B2manifold.{B2manifold}
use Rattle.contact_definitions.specs.declared.b2_collision.B2manifoldType.TheVariants.{EFaceA, EFaceB}
use Rattle.contact_definitions.specs.declared.b2_collision.B2worldManifold.{B2worldManifold}
use Rattle.contact_definitions.specs.Searches.{least, first_greatest, first_least}
use Rattle.contact_definitions.specs.Clip.{clip_distance, crossing, clipped_by, clipped}
use Rattle.contact_definitions.specs.Manifold.{swapped_id, with_local_point, with_count, with_kind, counted_points}
use Rattle.contact_definitions.specs.ReferenceFace.{clipped_to_sides, only, points_from, with_points, manifold_of_ends}
use Rattle.contact_definitions.specs.B2CollidePolygon.{face_separation, b2_find_max_separation, axis_of, polygons_axis}
use Rattle.contact_definitions.specs.B2CollidePolygon.{incident_place, incident_end, b2_find_incident_edge}
use Rattle.contact_definitions.specs.B2CollidePolygon.{local_tangent, face_middle, face_along, outline_face}
use Rattle.contact_definitions.specs.B2CollidePolygon.{within_skins, outline_point, outline_manifold, polygons_manifold}
use Rattle.contact_definitions.specs.B2CollidePolygon.{b2_collide_polygons}
use Rattle.contact_definitions.specs.WorldManifold.{on_face, on_other, plane_separation, carried_points, world_of_face}
use Rattle.contact_definitions.specs.WorldManifold.{points_in_range, manifold_in_range, b2_world_manifold_initialize}
use Rattle.grid.specs.Demand3.{refusal_of, outline_from}
use Rattle.grid.proofs.Controls.{points, minus_zero, half, one, two, square, on_grid, grid_number, skinned}
use Rattle.grid_contacts.specs.Placement.{QuarterTurn, unturned, to_left, about, to_right, sine, cosine, Turning}
use Rattle.grid_contacts.specs.Placement.{GridPlacement}
use Rattle.grid_contacts.specs.SecondSentence.{local_at, separation_at}

-- ---- placements by the bit patterns of position, sine and cosine; they are on the grid by computed tests
abbrev pub placed : ℕ → ℕ → ℕ → ℕ → B2Transform
placed x y s c = record { p = vector x y; q = rot (float s) (float c) }

-- the pattern b is the number k
abbrev is_number : ℕ → Z → Bool
is_number b k = ltb (bits_field b) 255 && (signed (bits_sign b) (bits_units b) ≐? 2 ^ 149 ⊛ k)

record Number (b : ℕ) (k : Z) : Type 0 where
  own : F32 (float b)
  is : val (float b) ≐ metre ⊛ k

number : (b : ℕ) (k : Z) → T (is_number b k) → Number b k
number b k t =
    let both = and_yes (ltb (bits_field b) 255) (signed (bits_sign b) (bits_units b) ≐? 2 ^ 149 ⊛ k) t in
    record {
      own = bits_f32 b both.0;
      is = rw (bits_val b both.0, metre_is)
          (same_of_test (signed (bits_sign b) (bits_units b)) (2 ^ 149 ⊛ k) both.1);
    }

abbrev is_turn : QuarterTurn → ℕ → ℕ → Bool
is_turn turn s c = is_number s (sine turn) && is_number c (cosine turn)

pub turning_of_bits : (turn : QuarterTurn) (s c : ℕ) → T (is_turn turn s c)
    → Turning (rot (float s) (float c)) turn
turning_of_bits turn s c t =
    let both = and_yes (is_number s (sine turn)) (is_number c (cosine turn)) t in
    let s_is = number s (sine turn) both.0 in
    let c_is = number c (cosine turn) both.1 in
    record { s_own = s_is.own; c_own = c_is.own; s_is = s_is.is; c_is = c_is.is }

unfoldable pub grid_placed : (turn : QuarterTurn) (x y s c : ℕ) → T (on_grid x) → T (on_grid y) → T (is_turn turn s c)
    → GridPlacement (placed x y s c)
grid_placed turn x y s c x_on y_on t = record {
  position = (grid_number x x_on, grid_number y y_on);
  turn = turn;
  turning = turning_of_bits turn s c t;
}

-- ---- the outlines, by the bit patterns of corners, normals and centroid: the unit square, and a triangle whose long
-- face goes through its corner (1, 1). The builder makes them
abbrev filled : List (ℕ × ℕ) → List B2vec2
filled l = over (points l) (replicate 8 origin)

abbrev outline_by : List (ℕ × ℕ) → List (ℕ × ℕ) → B2vec2 → B2polygonShape
outline_by corners normals centroid = record {
  m_radius = b2_polygon_radius;
  m_centroid = centroid;
  m_vertices = filled corners;
  m_normals = filled normals;
  m_count = length corners;
}

abbrev minus_one : ℕ
minus_one = 0xbf80_0000

abbrev pub square_outline : B2polygonShape
square_outline =
    outline_by ((one, 0) ∷ (one, one) ∷ (minus_zero, one) ∷ (0, 0) ∷ [])
    ((one, minus_zero) ∷ (0, one) ∷ (minus_one, minus_zero) ∷ (0, minus_one) ∷ []) (vector half half)

abbrev pub triangle : List (ℕ × ℕ)
triangle = (two, 0) ∷ (two, two) ∷ (0, two) ∷ []

abbrev pub triangle_outline : B2polygonShape
triangle_outline =
    outline_by triangle ((one, minus_zero) ∷ (0, one) ∷ (0xbf35_04f3, 0xbf35_04f3) ∷ [])
    (vector 0x3faa_aaaa 0x3faa_aaab)

pub record Built : Type 0 where
  pub triangle_accepted : refusal_of skinned (points triangle) ≡ 0
  pub square_built : outline_from skinned (points square) ≡ square_outline
  pub triangle_built : outline_from skinned (points triangle) ≡ triangle_outline

pub built : Built
unfolding b2_polygon_shape_set outline_of_welded outline_of_corners welded start next row edges long_enough fan
    too_near comes_before closer point_in_range b2_cross b2_distance_vec2_squared root_digits whole_root root_by_steps
    sqrt b2_sqrt b2_add b2_sub b2_scale b2_dot b2_cross_vec_by_scalar b2_length_squared b2_length b2_normalize neg add
    sub mul div le lt eq of_bits
built = record { triangle_accepted = refl; square_built = refl; triangle_built = refl }

abbrev three_halves : ℕ
three_halves = 0x3fc0_0000

-- A stands at the origin; B beside it, by each turn, so that the two overlap by half; and B 1 m off. Zeros of both
-- signs
abbrev pub here : B2Transform
here = placed 0 minus_zero 0 one

abbrev pub beside : B2Transform
beside = placed half 0 minus_zero one

abbrev pub beside_left : B2Transform
beside_left = placed three_halves 0 one 0

abbrev pub beside_about : B2Transform
beside_about = placed three_halves one minus_zero minus_one

abbrev pub beside_right : B2Transform
beside_right = placed half one minus_one minus_zero

abbrev pub off : B2Transform
off = placed two 0 0 one

-- ---- what the call computes
abbrev pub answer : B2manifold → B2polygonShape → B2Transform → B2polygonShape → B2Transform → B2manifold
answer old A xfA B xfB = (b2_collide_polygons old A xfA B xfB).manifold

-- the world points of A against B, with their skins
abbrev pub world_answer : B2worldManifold → B2manifold → B2polygonShape → B2Transform → B2polygonShape → B2Transform
    → B2worldManifold
world_answer old_world m A xfA B xfB =
    (b2_world_manifold_initialize old_world m xfA A.m_radius xfB B.m_radius).world

-- the upper end of the second square's left face
abbrev pub upper : B2vec2
upper = vector 0 one

-- the square's corner (1, 1), on the triangle's long face, and its separation there, the skins alone
abbrev pub corner : B2vec2
corner = vector one one

abbrev pub depth : Float
depth = float 0xbca3_d6ec

pub record Touches (old : B2manifold) : Type 0 where
  pub two_points : (answer old square_outline here square_outline beside).point_count ≡ 2
  pub on_face_a : (answer old square_outline here square_outline beside).manifold_type ≡ EFaceA
  pub upper_is : local_at (answer old square_outline here square_outline beside) 0 ≡ upper
  pub two_turned_left : (answer old square_outline here square_outline beside_left).point_count ≡ 2
  pub two_turned_about : (answer old square_outline here square_outline beside_about).point_count ≡ 2
  pub two_turned_right : (answer old square_outline here square_outline beside_right).point_count ≡ 2
  pub one_point : (answer old square_outline here triangle_outline here).point_count ≡ 1
  pub on_face_b : (answer old square_outline here triangle_outline here).manifold_type ≡ EFaceB
  pub corner_is : local_at (answer old square_outline here triangle_outline here) 0 ≡ corner
  pub depth_is : (old_world : B2worldManifold)
      → separation_at (world_answer old_world (answer old square_outline here triangle_outline here) square_outline here
      triangle_outline here) 0
      ≡ depth

pub touches : (old : B2manifold) → Touches old
unfolding root_digits whole_root root_by_steps sqrt b2_sqrt b2_add b2_sub b2_neg b2_scale b2_dot
    b2_cross_vec_by_scalar b2_length_squared b2_length b2_normalize b2_mul_t_rot b2_mul_rot_by_vec2
    b2_mul_t_rot_by_vec2 b2_mul_transform_by_vec2 b2_mul_t_transform_by_vec2 b2_mul_t_transform point_in_range
    radius_in_range rotation_in_range transform_in_range normal_in_range polygon_in_range least first_greatest
    first_least swapped_id with_local_point with_count with_kind clip_distance crossing clipped_by clipped
    clipped_to_sides only points_from with_points manifold_of_ends face_separation b2_find_max_separation axis_of
    polygons_axis incident_place incident_end b2_find_incident_edge local_tangent face_middle face_along outline_face
    within_skins outline_point outline_manifold polygons_manifold b2_collide_polygons contact_point_in_range
    local_normal_in_range counted_points points_in_range manifold_in_range on_face on_other plane_separation
    carried_points world_of_face b2_world_manifold_initialize neg add sub mul div le lt eq of_bits
touches old = record {
  two_points = refl;
  on_face_a = refl;
  upper_is = refl;
  two_turned_left = refl;
  two_turned_about = refl;
  two_turned_right = refl;
  one_point = refl;
  on_face_b = refl;
  corner_is = refl;
  depth_is = λ old_world. refl;
}

-- ---- the placements are on the grid
unfoldable pub here_placed : GridPlacement here
here_placed = grid_placed unturned 0 minus_zero 0 one tt tt tt

unfoldable pub beside_placed : GridPlacement beside
beside_placed = grid_placed unturned half 0 minus_zero one tt tt tt

pub left_placed : GridPlacement beside_left
left_placed = grid_placed to_left three_halves 0 one 0 tt tt tt

pub about_placed : GridPlacement beside_about
about_placed = grid_placed about three_halves one minus_zero minus_one tt tt tt

pub right_placed : GridPlacement beside_right
right_placed = grid_placed to_right half one minus_one minus_zero tt tt tt

unfoldable pub off_placed : GridPlacement off
off_placed = grid_placed unturned two 0 0 one tt tt tt
