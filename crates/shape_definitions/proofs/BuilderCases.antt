-- The outline builder held to answers from outside, whole, for any given shape: Box2D 2.4.1 and the Rust agree on
-- each, as bit patterns, and on refusals 1, 3, 4 and 5; refusal 2 and the order of the numbers are document 01's.
-- Assumes nothing.
use mathlib.Core.Path.{◌≡◌, refl}
use mathlib.Core.Bool.{true, false}
use mathlib.Core.List.{List, [], ◌∷◌}
use Prim.Native.Nat.{ℕ}
use lib.Ieee.{binary32, size, units, neg, add, sub, mul, div, le, lt, eq, of_bits}
use Rattle.floats.specs.declared.b2_math.B2vec2.{B2vec2}
use Rattle.rounding.specs.Literals.{half32}
use Rattle.sqrt.specs.Sqrt.{root_digits, whole_root, root_by_steps, sqrt}
use Rattle.floats.specs.B2Common.{b2_linear_slop}
use Rattle.floats.specs.B2Math.{b2_sqrt, b2_add, b2_sub, b2_scale, b2_dot, b2_cross, b2_cross_vec_by_scalar}
use Rattle.floats.specs.B2Math.{b2_length_squared, b2_length, b2_distance_vec2_squared, b2_normalize}
use Rattle.floats.specs.Ranges.{point_in_range}
use Rattle.shape_definitions.specs.declared.b2_polygon_shape.B2polygonShape.{B2polygonShape}
use Rattle.shape_definitions.specs.Outline.{weld_limit, too_near, welded, comes_before, start, closer, next, row}
use Rattle.shape_definitions.specs.Outline.{edges, long_enough, fan}
use Rattle.shape_definitions.specs.Polygon.{outline_of_corners, outline_of_welded}
use Rattle.shape_definitions.specs.Polygon.{b2_polygon_shape_set, b2_polygon_shape_set_counted}
use Rattle.floats.proofs.BitPatterns.{vector}
use Rattle.shape_definitions.proofs.CaseRecords.{turned_down, made}

-- (1.9, 3.88), (1.9, -3.11), (-1.21, 0.78), (-3.1, 2.75), (-3.95, -1.17), (-1.209, 0.78): two have the largest x, the
-- third lies inside, and the sixth is welded to it. The answer has other bits where a product is fused, where the
-- normals are divided by the length, and where the centroid is divided by the area.
abbrev skewed : List B2vec2
skewed =
    vector 0x3ff3_3333 0x4078_51ec ∷ vector 0x3ff3_3333 0xc047_0a3d ∷ vector 0xbf9a_e148 0x3f47_ae14
    ∷ vector 0xc046_6666 0x4030_0000 ∷ vector 0xc07c_cccd 0xbf95_c28f ∷ vector 0xbf9a_c083 0x3f47_ae14 ∷ []

-- (1, -3), (1, 3), (3, 1), (-1, -3), (-3, 1), (-1, 3), (3, -1), (-3, -1)
abbrev eight_points : List B2vec2
eight_points =
    vector 0x3f80_0000 0xc040_0000 ∷ vector 0x3f80_0000 0x4040_0000 ∷ vector 0x4040_0000 0x3f80_0000
    ∷ vector 0xbf80_0000 0xc040_0000 ∷ vector 0xc040_0000 0x3f80_0000 ∷ vector 0xbf80_0000 0x4040_0000
    ∷ vector 0x4040_0000 0xbf80_0000 ∷ vector 0xc040_0000 0xbf80_0000 ∷ []

-- three points so nearly on a line that the rounded cross products never lead back
abbrev no_way_back : List B2vec2
no_way_back = vector 0xbc2d_fbc0 0x3acc_7a1c ∷ vector 0xbedc_cb26 0x3d81_bd7e ∷ vector 0x3d9c_6e8e 0xbc37_d712 ∷ []

-- (0, 0), (1, 0), (0.5, y)
abbrev of_height : ℕ → List B2vec2
of_height y = vector 0 0 ∷ vector 0x3f80_0000 0 ∷ vector 0x3f00_0000 y ∷ []

-- (0, 0), (x, 0), (0, y)
abbrev of_legs : ℕ → ℕ → List B2vec2
of_legs x y = vector 0 0 ∷ vector x 0 ∷ vector 0 y ∷ []

pub record BuilderCases (old : B2polygonShape) : Type 0 where
  pub skewed_outline : b2_polygon_shape_set old skewed
      ≡ made old (vector 0xbf12_6452 0x3ef4_df68)
      (vector 0x3ff3_3333 0xc047_0a3d ∷ vector 0x3ff3_3333 0x4078_51ec ∷ vector 0xc046_6666 0x4030_0000
      ∷ vector 0xc07c_cccd 0xbf95_c28f ∷ [])
      (vector 0x3f80_0000 0x8000_0000 ∷ vector 0xbe61_bb28 0x3f79_b3d6 ∷ vector 0xbf7a_2f97 0x3e58_ff7e
      ∷ vector 0xbea1_2928 0xbf72_fcbc ∷ [])
  pub eight_corners : b2_polygon_shape_set old eight_points
      ≡ made old (vector 0xb480_0000 0x3400_0000)
      (vector 0x4040_0000 0xbf80_0000 ∷ vector 0x4040_0000 0x3f80_0000 ∷ vector 0x3f80_0000 0x4040_0000
      ∷ vector 0xbf80_0000 0x4040_0000 ∷ vector 0xc040_0000 0x3f80_0000 ∷ vector 0xc040_0000 0xbf80_0000
      ∷ vector 0xbf80_0000 0xc040_0000 ∷ vector 0x3f80_0000 0xc040_0000 ∷ [])
      (vector 0x3f80_0000 0x8000_0000 ∷ vector 0x3f35_04f3 0x3f35_04f3 ∷ vector 0 0x3f80_0000
      ∷ vector 0xbf35_04f3 0x3f35_04f3 ∷ vector 0xbf80_0000 0x8000_0000 ∷ vector 0xbf35_04f3 0xbf35_04f3
      ∷ vector 0 0xbf80_0000 ∷ vector 0x3f35_04f3 0xbf35_04f3 ∷ [])
  pub walk_is_not_back : b2_polygon_shape_set old no_way_back ≡ turned_down 4 old
  -- half of the slop, and the f32 below it
  pub weld_limit_stays : b2_polygon_shape_set old (of_legs 0x3b23_d70a 0x3f80_0000)
      ≡ made old (vector 0x3a5a_740c 0x3eaa_aaab)
      (vector 0x3b23_d70a 0 ∷ vector 0 0x3f80_0000 ∷ vector 0 0 ∷ [])
      (vector 0x3f7f_ffcc 0x3b23_d6e9 ∷ vector 0xbf80_0000 0x8000_0000 ∷ vector 0 0xbf80_0000 ∷ [])
  pub nearer_is_welded : b2_polygon_shape_set old (of_legs 0x3b23_d709 0x3f80_0000) ≡ turned_down 3 old
  -- areas of 2^-23, and of just above
  pub area_limit_is_too_small : b2_polygon_shape_set old (of_height 0x3480_0000) ≡ turned_down 5 old
  pub larger_area : b2_polygon_shape_set old (of_height 0x3480_0001)
      ≡ made old (vector 0x3f00_0000 0x33aa_aaac)
      (vector 0x3f80_0000 0 ∷ vector 0x3f00_0000 0x3480_0001 ∷ vector 0 0 ∷ [])
      (vector 0x3500_0001 0x3f80_0000 ∷ vector 0xb500_0001 0x3f80_0000 ∷ vector 0 0xbf80_0000 ∷ [])
  -- coordinates of 2^20, and the f32 above it
  pub largest : b2_polygon_shape_set old (of_legs 0x4980_0000 0x4980_0000)
      ≡ made old (vector 0x48aa_aaaa 0x48aa_aaab)
      (vector 0x4980_0000 0 ∷ vector 0 0x4980_0000 ∷ vector 0 0 ∷ [])
      (vector 0x3f35_04f3 0x3f35_04f3 ∷ vector 0xbf80_0000 0x8000_0000 ∷ vector 0 0xbf80_0000 ∷ [])
  pub too_large : b2_polygon_shape_set old (of_legs 0x4980_0000 0x4980_0001) ≡ turned_down 2 old
  -- two points, one of no number; three at one place, the last of no number
  pub number_before_range : b2_polygon_shape_set old (vector 0x7fc0_0000 0 ∷ vector 0 0 ∷ []) ≡ turned_down 1 old
  pub range_before_welding : b2_polygon_shape_set old (vector 0 0 ∷ vector 0 0 ∷ vector 0x7fc0_0000 0 ∷ [])
      ≡ turned_down 2 old
  -- points past the count are not read
  pub first_three : (d e f g h : B2vec2)
      → b2_polygon_shape_set_counted old (vector 0 0 ∷ vector 0 0 ∷ vector 0 0 ∷ d ∷ e ∷ f ∷ g ∷ h ∷ []) 3
      ≡ turned_down 3 old
  pub nine_counted : (points : List B2vec2) → b2_polygon_shape_set_counted old points 9 ≡ turned_down 1 old

pub builder_cases : (old : B2polygonShape) → BuilderCases old
unfolding b2_polygon_shape_set b2_polygon_shape_set_counted outline_of_welded outline_of_corners
    welded too_near comes_before start closer next row edges long_enough fan point_in_range
    b2_distance_vec2_squared b2_length_squared b2_length b2_normalize b2_add b2_sub b2_scale b2_dot b2_cross
    b2_cross_vec_by_scalar b2_sqrt sqrt root_by_steps whole_root root_digits size units
    neg add sub mul div le lt eq of_bits
builder_cases old = record {
  skewed_outline = refl;
  eight_corners = refl;
  walk_is_not_back = refl;
  weld_limit_stays = refl;
  nearer_is_welded = refl;
  area_limit_is_too_small = refl;
  larger_area = refl;
  largest = refl;
  too_large = refl;
  number_before_range = refl;
  range_before_welding = refl;
  first_three = λ d e f g h. refl;
  nine_counted = λ points. refl;
}

-- ---- (0.5 × 0.005) × (0.5 × 0.005)
weld_limit_is : weld_limit ≡ mul binary32 (mul binary32 half32 b2_linear_slop) (mul binary32 half32 b2_linear_slop)
unfolding mul of_bits
weld_limit_is = refl

-- ---- a candidate equal to the corner itself is replaced unseen, be it by an equal point; welding leaves none
replaced_unseen : next (vector 0 0 ∷ vector 0 0 ∷ []) 0 ≡ 1
unfolding next closer b2_sub b2_cross b2_length_squared add sub mul lt eq of_bits
replaced_unseen = refl

-- ---- edges of length 2^-23 and just above: welding leaves none so short, so the limit is asked of an edge alone
edge_limit_is_too_short : long_enough (vector 0x3400_0000 0 ∷ []) ≡ false
unfolding long_enough b2_length_squared add mul lt of_bits
edge_limit_is_too_short = refl

longer_edge : long_enough (vector 0x3400_0001 0 ∷ []) ≡ true
unfolding long_enough b2_length_squared add mul lt of_bits
longer_edge = refl
