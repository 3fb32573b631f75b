-- The marked cases of document 01 about outlines and validate, each with its whole answer, computed by antt from the
-- definitions, whatever shape the call was given; validate's is any of no corners, its radius and centroid in range.
-- Accepted ones are what Box2D 2.4.1 and the Rust agree on, as bit patterns. Assumes nothing.
use mathlib.Core.Path.{◌≡◌, refl}
use mathlib.Core.Bool.{true}
use mathlib.Core.List.{List, [], ◌∷◌}
use Prim.Native.Nat.{ℕ}
use lib.Ieee.{size, units, neg, add, sub, mul, div, le, lt, eq, of_bits}
use Rattle.floats.specs.declared.b2_math.B2vec2.{B2vec2}
use Rattle.sqrt.specs.Sqrt.{root_digits, whole_root, root_by_steps, sqrt}
use Rattle.floats.specs.B2Math.{b2_sqrt, b2_add, b2_sub, b2_scale, b2_dot, b2_cross, b2_cross_vec_by_scalar}
use Rattle.floats.specs.B2Math.{b2_length_squared, b2_length, b2_distance_vec2_squared, b2_normalize}
use Rattle.floats.specs.Ranges.{point_in_range, radius_in_range}
use Rattle.shape_definitions.specs.declared.b2_polygon_shape.B2polygonShape.{B2polygonShape}
use Rattle.shape_definitions.specs.Outline.{too_near, welded, comes_before, start, closer, next, row, edges}
use Rattle.shape_definitions.specs.Outline.{long_enough, fan}
use Rattle.shape_definitions.specs.Polygon.{outline_of_corners, outline_of_welded, b2_polygon_shape_set}
use Rattle.shape_definitions.specs.Validate.{faces_convex, polygon_in_range, b2_polygon_shape_validate}
use Rattle.floats.proofs.BitPatterns.{vector}
use Rattle.shape_definitions.proofs.CaseRecords.{turned_down, made, tested}

-- (0, 0), (1, 0) and a third
abbrev with_third : ℕ → ℕ → List B2vec2
with_third x y = vector 0 0 ∷ vector 0x3f80_0000 0 ∷ vector x y ∷ []

-- (0, 0), (x, 0), (0, 1)
abbrev with_second : ℕ → List B2vec2
with_second x = vector 0 0 ∷ vector x 0 ∷ vector 0 0x3f80_0000 ∷ []

-- the unit square, and (0.5, 0) on its lower side
abbrev square_and_fifth : List B2vec2
square_and_fifth =
    vector 0 0 ∷ vector 0x3f80_0000 0 ∷ vector 0x3f80_0000 0x3f80_0000 ∷ vector 0 0x3f80_0000
    ∷ vector 0x3f00_0000 0 ∷ []

pub record OutlineCases (old : B2polygonShape) : Type 0 where
  pub two_points : b2_polygon_shape_set old (vector 0 0 ∷ vector 0x3f80_0000 0 ∷ []) ≡ turned_down 1 old
  pub nine_points : (a b c d e f g h i : B2vec2)
      → b2_polygon_shape_set old (a ∷ b ∷ c ∷ d ∷ e ∷ f ∷ g ∷ h ∷ i ∷ []) ≡ turned_down 1 old
  -- 0.0024
  pub second_is_welded : b2_polygon_shape_set old (with_second 0x3b1d_4952) ≡ turned_down 3 old
  -- 0.0026
  pub second_stays : b2_polygon_shape_set old (with_second 0x3b2a_64c3)
      ≡ made old (vector 0x3a63_3104 0x3eaa_aaab)
      (vector 0x3b2a_64c3 0 ∷ vector 0 0x3f80_0000 ∷ vector 0 0 ∷ [])
      (vector 0x3f7f_ffc8 0x3b2a_649e ∷ vector 0xbf80_0000 0x8000_0000 ∷ vector 0 0xbf80_0000 ∷ [])
  -- (2, 0)
  pub line_does_not_close : b2_polygon_shape_set old (with_third 0x4000_0000 0) ≡ turned_down 4 old
  -- (0.5, 1e-7)
  pub area_is_too_small : b2_polygon_shape_set old (with_third 0x3f00_0000 0x33d6_bf95) ≡ turned_down 5 old
  pub fifth_is_no_corner : b2_polygon_shape_set old square_and_fifth
      ≡ made old (vector 0x3f00_0000 0x3f00_0000)
      (vector 0x3f80_0000 0 ∷ vector 0x3f80_0000 0x3f80_0000 ∷ vector 0 0x3f80_0000 ∷ vector 0 0 ∷ [])
      (vector 0x3f80_0000 0x8000_0000 ∷ vector 0 0x3f80_0000 ∷ vector 0xbf80_0000 0x8000_0000
      ∷ vector 0 0xbf80_0000 ∷ [])
  -- whatever stands in the places for corners and normals
  pub no_corners_are_convex : old.m_count ≡ 0 → radius_in_range old.m_radius ≡ true
      → point_in_range old.m_centroid ≡ true → b2_polygon_shape_validate old ≡ tested 0 true

pub outline_cases : (old : B2polygonShape) → OutlineCases old
unfolding b2_polygon_shape_set outline_of_welded outline_of_corners welded too_near comes_before start closer next row
    edges long_enough fan b2_polygon_shape_validate polygon_in_range faces_convex point_in_range radius_in_range
    b2_distance_vec2_squared b2_length_squared b2_length b2_normalize b2_add b2_sub b2_scale b2_dot b2_cross
    b2_cross_vec_by_scalar b2_sqrt sqrt root_by_steps whole_root root_digits size units
    neg add sub mul div le lt eq of_bits
outline_cases old = record {
  two_points = refl;
  nine_points = λ a b c d e f g h i. refl;
  second_is_welded = refl;
  second_stays = refl;
  line_does_not_close = refl;
  area_is_too_small = refl;
  fifth_is_no_corner = refl;
  no_corners_are_convex = λ none radius centroid. rw (none, radius, centroid) refl;
}
