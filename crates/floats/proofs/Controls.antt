-- Closed cases, computed by antt, that hold the constants, operations and ranges to values from outside: the exact
-- constants, and what rustc's code for x86-64 answers, as bit patterns (a NaN as 7fc00000). Assumes nothing.
use mathlib.Core.Path.{◌≡◌, refl}
use mathlib.Core.Bool.{true, false}
use Prim.Native.Nat.{ℕ}
use lib.IntN.{pos, negsuc}
use lib.Ieee.{Float, Format, fin, binary32, neg, add, sub, mul, div, le, of_bits, to_bits}
use Rattle.rounding.specs.Literals.{zero32, half32, one32}
use Rattle.floats.specs.B2Common.{b2_max_float, b2_epsilon, epsilon_squared, b2_linear_slop, b2_polygon_radius}
use Rattle.floats.specs.Ranges.{normal_limit, local_normal_limit, shape_limit, contact_limit}
use Rattle.floats.specs.Ranges.{coordinate_in_range, radius_in_range}

-- ---- the constants, m * 2^e
zero_is : zero32 ≡ fin false 0 (pos 0)
unfolding of_bits
zero_is = refl

half_is : half32 ≡ fin false 1 (negsuc 0)
unfolding of_bits
half_is = refl

one_is : one32 ≡ fin false 1 (pos 0)
unfolding of_bits
one_is = refl

max_float_is : b2_max_float ≡ fin false 16777215 (pos 104)
unfolding of_bits
max_float_is = refl

epsilon_is : b2_epsilon ≡ fin false 1 (negsuc 22)
unfolding of_bits
epsilon_is = refl

epsilon_squared_is : epsilon_squared ≡ fin false 1 (negsuc 45)
unfolding of_bits
epsilon_squared_is = refl

linear_slop_is : b2_linear_slop ≡ fin false 5368709 (negsuc 29)
unfolding of_bits
linear_slop_is = refl

polygon_radius_is : b2_polygon_radius ≡ fin false 5368709 (negsuc 28)
unfolding of_bits
polygon_radius_is = refl

normal_limit_is : normal_limit ≡ fin false 1 (pos 1)
unfolding of_bits
normal_limit_is = refl

local_normal_limit_is : local_normal_limit ≡ fin false 1 (pos 3)
unfolding of_bits
local_normal_limit_is = refl

shape_limit_is : shape_limit ≡ fin false 1 (pos 20)
unfolding of_bits
shape_limit_is = refl

contact_limit_is : contact_limit ≡ fin false 1 (pos 30)
unfolding of_bits
contact_limit_is = refl

-- what the contact code makes of them
-- 0.1 * slop
tenth_of_slop : to_bits binary32 (mul binary32 (of_bits binary32 0x3dcc_cccd) b2_linear_slop) ≡ 0x3a03_126f
unfolding mul of_bits to_bits
tenth_of_slop = refl

weld_limit : to_bits binary32 (mul binary32 (mul binary32 half32 b2_linear_slop) (mul binary32 half32 b2_linear_slop))
    ≡ 0x36d1_b717
unfolding mul of_bits to_bits
weld_limit = refl

two_skins : to_bits binary32 (add binary32 b2_polygon_radius b2_polygon_radius) ≡ 0x3ca3_d70a
unfolding add of_bits to_bits
two_skins = refl

-- ---- operations on bit patterns
abbrev on : (Format → Float → Float → Float) → ℕ → ℕ → ℕ
on op a b = to_bits binary32 (op binary32 (of_bits binary32 a) (of_bits binary32 b))

third : on div 0x3f80_0000 0x4040_0000 ≡ 0x3eaa_aaab
unfolding div of_bits to_bits
third = refl

-- 1 + 2^-24
tied_sum_down_to_even : on add 0x3f80_0000 0x3380_0000 ≡ 0x3f80_0000
unfolding add of_bits to_bits
tied_sum_down_to_even = refl

tied_sum_up_to_even : on add 0x3f80_0001 0x3380_0000 ≡ 0x3f80_0002
unfolding add of_bits to_bits
tied_sum_up_to_even = refl

sum_past_the_tie : on add 0x3f80_0000 0x3380_0001 ≡ 0x3f80_0001
unfolding add of_bits to_bits
sum_past_the_tie = refl

-- (1 + 2^-12)²
tied_product_down_to_even : on mul 0x3f80_0800 0x3f80_0800 ≡ 0x3f80_1000
unfolding mul of_bits to_bits
tied_product_down_to_even = refl

tied_product_up_to_even : on mul 0x3f80_0001 0x3fc0_0000 ≡ 0x3fc0_0002
unfolding mul of_bits to_bits
tied_product_up_to_even = refl

tied_product_to_even_digit : on mul 0x3f80_0003 0x3fc0_0000 ≡ 0x3fc0_0004
unfolding mul of_bits to_bits
tied_product_to_even_digit = refl

-- half a unit past the largest f32 is infinite, and less is not
sum_overflows : on add 0x7f7f_ffff 0x7300_0000 ≡ 0x7f80_0000
unfolding add of_bits to_bits
sum_overflows = refl

sum_stays_finite : on add 0x7f7f_ffff 0x72ff_ffff ≡ 0x7f7f_ffff
unfolding add of_bits to_bits
sum_stays_finite = refl

product_overflows : on mul 0x7f7f_ffff 0x4000_0000 ≡ 0x7f80_0000
unfolding mul of_bits to_bits
product_overflows = refl

product_is_subnormal : on mul 0x0080_0000 0x3f00_0000 ≡ 0x0040_0000
unfolding mul of_bits to_bits
product_is_subnormal = refl

-- half of the smallest f32, and of three times that
tied_subnormal_to_zero : on mul 0x0000_0001 0x3f00_0000 ≡ 0x0000_0000
unfolding mul of_bits to_bits
tied_subnormal_to_zero = refl

tied_subnormal_up : on mul 0x0000_0003 0x3f00_0000 ≡ 0x0000_0002
unfolding mul of_bits to_bits
tied_subnormal_up = refl

product_underflows_keeping_sign : on mul 0x8d00_0000 0x0d00_0000 ≡ 0x8000_0000
unfolding mul of_bits to_bits
product_underflows_keeping_sign = refl

difference_is_subnormal : on sub 0x0080_0001 0x0080_0000 ≡ 0x0000_0001
unfolding sub of_bits to_bits
difference_is_subnormal = refl

difference_of_equals : on sub 0x3f80_0000 0x3f80_0000 ≡ 0x0000_0000
unfolding sub of_bits to_bits
difference_of_equals = refl

sum_of_negative_zeros : on add 0x8000_0000 0x8000_0000 ≡ 0x8000_0000
unfolding add of_bits to_bits
sum_of_negative_zeros = refl

zero_by_infinity : on mul 0x0000_0000 0x7f80_0000 ≡ 0x7fc0_0000
unfolding mul of_bits to_bits
zero_by_infinity = refl

one_by_zero : on div 0x3f80_0000 0x0000_0000 ≡ 0x7f80_0000
unfolding div of_bits to_bits
one_by_zero = refl

ends_of_the_range : on sub 0x4980_0000 0xc980_0000 ≡ 0x4a00_0000
unfolding sub of_bits to_bits
ends_of_the_range = refl

-- ---- ranges: the limits are in, the next numbers and a NaN are not; -0 is a radius and the next below is not
limit_is_in_range : coordinate_in_range (of_bits binary32 0xc980_0000) ≡ true
unfolding coordinate_in_range le neg of_bits
limit_is_in_range = refl

next_is_out_of_range : coordinate_in_range (of_bits binary32 0x4980_0001) ≡ false
unfolding coordinate_in_range le neg of_bits
next_is_out_of_range = refl

nan_is_out_of_range : coordinate_in_range (of_bits binary32 0x7fc0_0000) ≡ false
unfolding coordinate_in_range le neg of_bits
nan_is_out_of_range = refl

minus_zero_is_a_radius : radius_in_range (of_bits binary32 0x8000_0000) ≡ true
unfolding radius_in_range le of_bits
minus_zero_is_a_radius = refl

negative_is_no_radius : radius_in_range (of_bits binary32 0x8000_0001) ≡ false
unfolding radius_in_range le of_bits
negative_is_no_radius = refl

limit_is_a_radius : radius_in_range (of_bits binary32 0x4980_0000) ≡ true
unfolding radius_in_range le of_bits
limit_is_a_radius = refl

next_is_no_radius : radius_in_range (of_bits binary32 0x4980_0001) ≡ false
unfolding radius_in_range le of_bits
next_is_no_radius = refl
