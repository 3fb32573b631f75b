-- Closed cases, computed by antt, that hold vectors, rotations and transforms to values from outside, as bit patterns:
-- what rustc's code for x86-64 answers, and for every definition of B2Math an answer that Box2D 2.4.1 and the Rust
-- agree on. Assumes nothing.
use mathlib.Core.Path.{◌≡◌, refl}
use mathlib.Core.Bool.{true, false}
use lib.Dec.{T}
use native.Mathlib.Omega.{arith}
use lib.Ieee.{binary32, size, units, neg, add, sub, mul, div, lt, le, eq, of_bits, to_bits}
use Rattle.algebra.specs.Integer.{whole}
use Rattle.floats.specs.declared.b2_math.B2vec2.{B2vec2}
use Rattle.floats.specs.declared.b2_math.B2Rot.{B2Rot}
use Rattle.floats.specs.declared.b2_math.B2Transform.{B2Transform}
use Rattle.rounding.specs.Literals.{one32}
use Rattle.sqrt.specs.Sqrt.{root_digits, whole_root, root_by_steps, sqrt}
use Rattle.floats.specs.B2Common.{b2_linear_slop}
use Rattle.floats.specs.B2Math.{b2_sqrt, b2_min, b2_add, b2_sub, b2_neg, b2_scale, b2_dot, b2_cross}
use Rattle.floats.specs.B2Math.{b2_cross_vec_by_scalar, b2_cross_scalar_by_vec}
use Rattle.floats.specs.B2Math.{b2_length_squared, b2_length, b2_distance_vec2_squared, b2_normalize}
use Rattle.floats.specs.B2Math.{rot, b2_mul_rot, b2_mul_t_rot, b2_mul_rot_by_vec2, b2_mul_t_rot_by_vec2}
use Rattle.floats.specs.B2Math.{b2_mul_transform_by_vec2, b2_mul_t_transform_by_vec2}
use Rattle.floats.specs.B2Math.{b2_mul_transform, b2_mul_t_transform}
use Rattle.floats.specs.Ranges.{within, normal_limit}
use Rattle.rounding.proofs.Dyadic.{Dyadic}
use Rattle.rounding.proofs.Literals.{bits_dyadic, one_f32, one_val}
use Rattle.floats.proofs.BitPatterns.{float, vector}
use Rattle.floats.proofs.RangeValue.{normal_limit_is, value_limit}

-- ---- vectors
-- (1 + 2^-12)² - (1 + 2^-11): 2^-24 if fused
dot_is_not_fused : to_bits binary32 (b2_dot (vector 0x3f80_0800 0x3f80_1000) (vector 0x3f80_0800 0xbf80_0000)) ≡ 0
unfolding b2_dot add mul of_bits to_bits
dot_is_not_fused = refl

length_of_one_seven : to_bits binary32 (b2_normalize (vector 0x3f80_0000 0x40e0_0000)).length ≡ 0x40e2_4630
unfolding b2_normalize b2_length b2_length_squared b2_sqrt sqrt root_by_steps whole_root root_digits size units
    add mul div lt of_bits to_bits
length_of_one_seven = refl

-- (1, 7): 3f7d6d54 if divided by the length
normalized_by_the_reciprocal : to_bits binary32 (b2_normalize (vector 0x3f80_0000 0x40e0_0000)).v.y ≡ 0x3f7d_6d55
unfolding b2_normalize b2_length b2_length_squared b2_sqrt sqrt root_by_steps whole_root root_digits size units
    add mul div lt of_bits to_bits
normalized_by_the_reciprocal = refl

-- a length of 2^-24
short_is_not_normalized : b2_normalize (vector 0x3380_0000 0)
    ≡ record { had_length = false; length = float 0; v = vector 0x3380_0000 0 }
unfolding b2_normalize b2_length b2_length_squared b2_sqrt sqrt root_by_steps whole_root root_digits size units
    add mul div lt le eq of_bits to_bits
short_is_not_normalized = refl

-- a length of 2^-23
epsilon_is_normalized : b2_normalize (vector 0x3400_0000 0)
    ≡ record { had_length = true; length = float 0x3400_0000; v = vector 0x3f80_0000 0 }
unfolding b2_normalize b2_length b2_length_squared b2_sqrt sqrt root_by_steps whole_root root_digits size units
    add mul div lt le eq of_bits to_bits
epsilon_is_normalized = refl

-- a length of 2^-12: its square is below 2^-23
small_had_length : (b2_normalize (vector 0x3980_0000 0)).had_length ≡ true
unfolding b2_normalize b2_length b2_length_squared b2_sqrt sqrt root_by_steps whole_root root_digits size units
    add mul div lt le eq of_bits
small_had_length = refl

-- a NaN is no length, and the vector is as before; infinity is one
nan_had_none : b2_normalize (vector 0x7fc0_0000 0)
    ≡ record { had_length = false; length = float 0x7fc0_0000; v = vector 0x7fc0_0000 0x7fc0_0000 }
unfolding b2_normalize b2_length b2_length_squared b2_sqrt sqrt root_by_steps whole_root root_digits size units
    add mul div lt le eq of_bits
nan_had_none = refl

infinity_had_length : (b2_normalize (vector 0x7f80_0000 0)).had_length ≡ true
unfolding b2_normalize b2_length b2_length_squared b2_sqrt sqrt root_by_steps whole_root root_digits size units
    add mul div lt le eq of_bits
infinity_had_length = refl

-- ---- (-2.03, -0.88) and (-3.66, -2.4), the rotations of sine 0.9 and cosine -0.3 and of sine 0.4 and cosine -0.77,
-- and the placements of these at (3.01, -1.79) and (-3.26, -0.99). The dot and the cross product have other bits where
-- either product is fused with the sum.
abbrev a : B2vec2
a = vector 0xc001_eb85 0xbf61_47ae

abbrev b : B2vec2
b = vector 0xc06a_3d71 0xc019_999a

abbrev q : B2Rot
q = rot (float 0x3f66_6666) (float 0xbe99_999a)

abbrev r : B2Rot
r = rot (float 0x3ecc_cccd) (float 0xbf45_1eb8)

abbrev placed : B2vec2 → B2Rot → B2Transform
placed p turn = record { p = p; q = turn }

abbrev t : B2Transform
t = placed (vector 0x4040_a3d7 0xbfe5_1eb8) q

abbrev u : B2Transform
u = placed (vector 0xc050_a3d7 0xbf7d_70a4) r

pub record VectorCases : Type 0 where
  pub lesser : b2_min (float 0xc001_eb85) (float 0xc06a_3d71) ≡ float 0xc06a_3d71
  pub lesser_of_nan : b2_min (float 0x7fc0_0000) (float 0x3f80_0000) ≡ float 0x3f80_0000
  pub lesser_than_nan : b2_min (float 0x3f80_0000) (float 0x7fc0_0000) ≡ float 0x7fc0_0000
  pub lesser_of_zeros : b2_min (float 0) (float 0x8000_0000) ≡ float 0x8000_0000
  pub sum : b2_add a b ≡ vector 0xc0b6_147b 0xc051_eb86
  pub difference : b2_sub a b ≡ vector 0x3fd0_a3d8 0x3fc2_8f5d
  pub opposite : b2_neg a ≡ vector 0x4001_eb85 0x3f61_47ae
  pub multiple : b2_scale b.x a ≡ vector 0x40ed_c0ec 0x404e_2197
  pub dot : b2_dot a b ≡ float 0x4118_ab36
  pub cross : b2_cross a b ≡ float 0x3fd3_5a86
  pub cross_vector_scalar : b2_cross_vec_by_scalar a b.x ≡ vector 0x404e_2197 0xc0ed_c0ec
  pub cross_scalar_vector : b2_cross_scalar_by_vec b.x a ≡ vector 0xc04e_2197 0x40ed_c0ec
  pub length_squared : b2_length_squared a ≡ float 0x409c_a64c
  pub length : b2_length a ≡ float 0x400d_9a22
  pub distance_squared : b2_distance_vec2_squared a b ≡ float 0x409e_f420
  pub rotations : b2_mul_rot q r ≡ rot (float 0xbf50_20c4) (float 0xbe04_1892)
  pub rotations_inverse : b2_mul_t_rot q r ≡ rot (float 0x3f12_b020) (float 0x3f17_4bc6)
  pub rotated : b2_mul_rot_by_vec2 q a ≡ vector 0x3fb3_53f8 0xbfc8_1062
  pub rotated_back : b2_mul_t_rot_by_vec2 q a ≡ vector 0xbe3b_6458 0x4005_d2f1
  pub moved : b2_mul_transform_by_vec2 t a ≡ vector 0x408d_26ea 0xc056_978d
  pub moved_back : b2_mul_t_transform_by_vec2 t a ≡ vector 0x4015_2f1b 0x4088_6a7e
  pub transforms : b2_mul_transform t u
      ≡ placed (vector 0x409c_20c4 0xc08d_a9fc) (rot (float 0xbf50_20c4) (float 0xbe04_1892))
  pub transforms_inverse : b2_mul_t_transform t u
      ≡ placed (vector 0x4026_76c8 0x40ac_e560) (rot (float 0x3f12_b020) (float 0x3f17_4bc6))

pub vector_cases : VectorCases
unfolding b2_min b2_add b2_sub b2_neg b2_scale b2_dot b2_cross b2_cross_vec_by_scalar b2_cross_scalar_by_vec
    b2_length_squared b2_length b2_distance_vec2_squared b2_mul_rot b2_mul_t_rot b2_mul_rot_by_vec2 b2_mul_t_rot_by_vec2
    b2_mul_transform_by_vec2 b2_mul_t_transform_by_vec2 b2_mul_transform b2_mul_t_transform
    b2_sqrt sqrt root_by_steps whole_root root_digits size units neg add sub mul div lt of_bits
vector_cases = record {
  lesser = refl;
  lesser_of_nan = refl;
  lesser_than_nan = refl;
  lesser_of_zeros = refl;
  sum = refl;
  difference = refl;
  opposite = refl;
  multiple = refl;
  dot = refl;
  cross = refl;
  cross_vector_scalar = refl;
  cross_scalar_vector = refl;
  length_squared = refl;
  length = refl;
  distance_squared = refl;
  rotations = refl;
  rotations_inverse = refl;
  rotated = refl;
  rotated_back = refl;
  moved = refl;
  moved_back = refl;
  transforms = refl;
  transforms_inverse = refl;
}

-- ---- a constant as a fraction, and a number in its range by value
slop_dyadic : Dyadic b2_linear_slop (whole 5368709) 30
slop_dyadic = bits_dyadic 0x3ba3_d70a 5368709 30 tt tt

one_within : T (within normal_limit one32)
one_within = value_limit normal_limit_is one_f32 (rw one_val (omega arith))
