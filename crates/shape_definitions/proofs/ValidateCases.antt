-- The convexity test held to answers from outside: Box2D 2.4.1 and the Rust agree on each yes and no; refusals 7 and 2
-- and their order are document 01's. What stands past the count is any. Assumes nothing.
use mathlib.Core.Path.{◌≡◌, refl}
use mathlib.Core.Bool.{true, false}
use mathlib.Core.List.{List, [], ◌∷◌, ◌++◌}
use Prim.Native.Nat.{ℕ}
use lib.Ieee.{Float, neg, add, sub, mul, le, lt, of_bits}
use Rattle.floats.specs.declared.b2_math.B2vec2.{B2vec2}
use Rattle.floats.specs.B2Math.{b2_sub, b2_cross}
use Rattle.floats.specs.Ranges.{point_in_range, radius_in_range, normal_in_range}
use Rattle.shape_definitions.specs.declared.b2_polygon_shape.B2polygonShape.{B2polygonShape}
use Rattle.shape_definitions.specs.Validate.{corners_not_right, faces_convex, polygon_in_range}
use Rattle.shape_definitions.specs.Validate.{b2_polygon_shape_validate}
use Rattle.floats.proofs.BitPatterns.{float, vector}
use Rattle.shape_definitions.proofs.CaseRecords.{tested}

abbrev shape : Float → B2vec2 → ℕ → List B2vec2 → List B2vec2 → B2polygonShape
shape radius centroid count vertices normals =
    record {
      m_radius = radius;
      m_centroid = centroid;
      m_vertices = vertices;
      m_normals = normals;
      m_count = count;
    }

-- the skin of outlines, and (2, -2), as large as a normal may be
abbrev skin : Float
skin = float 0x3c23_d70a

abbrev large : B2vec2
large = vector 0x4000_0000 0xc000_0000

-- (0, 0), (1, 0), (1, 1), (0, 1)
abbrev square : List B2vec2
square = vector 0 0 ∷ vector 0x3f80_0000 0 ∷ vector 0x3f80_0000 0x3f80_0000 ∷ vector 0 0x3f80_0000 ∷ []

-- (0, 0), (2, 0), (0.5, 0.5), (0, 2)
abbrev arrow : List B2vec2
arrow = vector 0 0 ∷ vector 0x4000_0000 0 ∷ vector 0x3f00_0000 0x3f00_0000 ∷ vector 0 0x4000_0000 ∷ []

-- (0, 0), (0.5, 0), (1, 0), (1, 1): the second on the line from the first to the third
abbrev with_straight_corner : List B2vec2
with_straight_corner = vector 0 0 ∷ vector 0x3f00_0000 0 ∷ vector 0x3f80_0000 0 ∷ vector 0x3f80_0000 0x3f80_0000 ∷ []

-- three corners so nearly on a line that, by rounding, the last lies right of the first face, and no other right of any
abbrev last_is_right : List B2vec2
last_is_right = vector 0xbe96_872c 0xbe20_902e ∷ vector 0x3cdd_2f1c 0x3c6b_edfb ∷ vector 0xbe19_999a 0xbda3_d70a ∷ []

-- the same of the second and the last face, which runs to the first corner
abbrev right_of_last : List B2vec2
right_of_last = vector 0xbc89_a027 0xbc1d_4951 ∷ vector 0x3ee2_8241 0x3e81_6f00 ∷ vector 0xbe15_182a 0xbdaa_64c2 ∷ []

module _ (vs ns : List B2vec2) where
  abbrev of_one : Float → B2vec2 → B2vec2 → B2vec2 → B2polygonShape
  of_one radius centroid vertex normal = shape radius centroid 1 (vertex ∷ vs) (normal ∷ ns)

  abbrev of_three : List B2vec2 → B2polygonShape
  of_three corners = shape skin (vector 0 0) 3 (corners ++ vs) (large ∷ large ∷ large ∷ ns)

  abbrev of_four : List B2vec2 → B2polygonShape
  of_four corners = shape skin (vector 0 0) 4 (corners ++ vs) (large ∷ large ∷ large ∷ large ∷ ns)

  pub record ValidateCases : Type 0 where
    -- radius -0
    pub one_corner : b2_polygon_shape_validate (of_one (float 0x8000_0000) (vector 0 0) (vector 0 0) large)
        ≡ tested 0 true
    pub convex : b2_polygon_shape_validate (of_four square) ≡ tested 0 true
    pub not_convex : b2_polygon_shape_validate (of_four arrow) ≡ tested 0 false
    pub straight_corner : b2_polygon_shape_validate (of_four with_straight_corner) ≡ tested 0 true
    pub last_corner : b2_polygon_shape_validate (of_three last_is_right) ≡ tested 0 false
    pub last_face : b2_polygon_shape_validate (of_three right_of_last) ≡ tested 0 false
    -- whatever else is out of range
    pub nine_corners : (radius : Float) (centroid : B2vec2)
        → b2_polygon_shape_validate (shape radius centroid 9 vs ns) ≡ tested 7 false
    -- a radius below 0, a centroid and a corner of no number, a normal beyond 2
    pub radius_below_zero : b2_polygon_shape_validate (of_one (float 0x8000_0001) (vector 0 0) (vector 0 0) large)
        ≡ tested 2 false
    pub centroid_not_a_number : b2_polygon_shape_validate (of_one skin (vector 0x7fc0_0000 0) (vector 0 0) large)
        ≡ tested 2 false
    pub corner_not_a_number : b2_polygon_shape_validate (of_one skin (vector 0 0) (vector 0 0x7fc0_0000) large)
        ≡ tested 2 false
    pub normal_too_long : b2_polygon_shape_validate (of_one skin (vector 0 0) (vector 0 0) (vector 0 0x4000_0001))
        ≡ tested 2 false

pub validate_cases : (vs ns : List B2vec2) → ValidateCases vs ns
unfolding b2_polygon_shape_validate polygon_in_range faces_convex corners_not_right
    point_in_range radius_in_range normal_in_range b2_sub b2_cross neg add sub mul le lt of_bits
validate_cases vs ns = record {
  one_corner = refl;
  convex = refl;
  not_convex = refl;
  straight_corner = refl;
  last_corner = refl;
  last_face = refl;
  nine_corners = λ radius centroid. refl;
  radius_below_zero = refl;
  centroid_not_a_number = refl;
  corner_not_a_number = refl;
  normal_too_long = refl;
}
