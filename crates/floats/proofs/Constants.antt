-- Constants of specs/B2Common by value: 2^-23 and its square, which lengths and areas are compared with, and the skin
-- are whole multiples of a power of two; the skin is a radius in range, and the largest float is finite. Assumes
-- nothing.
use Prim.Native.Nat.{ℕ}
use lib.Dec.{T}
use lib.Ieee.{le, of_bits}
use Rattle.algebra.specs.Integer.{whole}
use Rattle.rounding.specs.Value.{F32}
use Rattle.rounding.proofs.Dyadic.{Dyadic}
use Rattle.rounding.proofs.Literals.{bits_f32, bits_dyadic}
use Rattle.floats.specs.B2Common.{b2_max_float, b2_epsilon, epsilon_squared, b2_polygon_radius}
use Rattle.floats.specs.Ranges.{radius_in_range}

pub epsilon_is : Dyadic b2_epsilon (whole 1) 23
epsilon_is = bits_dyadic 0x3400_0000 1 23 tt tt

pub epsilon_squared_is : Dyadic epsilon_squared (whole 1) 46
epsilon_squared_is = bits_dyadic 0x2880_0000 1 46 tt tt

pub max_float_f32 : F32 b2_max_float
max_float_f32 = bits_f32 0x7f7f_ffff tt

-- ---- the skin, 5368709/2^29
abbrev pub skin_count : ℕ
skin_count = 5368709

pub skin_is : Dyadic b2_polygon_radius (whole skin_count) 29
skin_is = bits_dyadic 0x3c23_d70a skin_count 29 tt tt

pub skin_in_range : T (radius_in_range b2_polygon_radius)
unfolding radius_in_range le of_bits
skin_in_range = tt
