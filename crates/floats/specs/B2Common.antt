-- The constants of b2_common.rs that the collision code uses, by their bit patterns. Definitions only.
use Rattle.std.specs.Prelude.{Float}
use Rattle.std.specs.Float.{binary32}
use Rattle.std.specs.Float.Ieee.{of_bits}

-- (2^24 - 1) * 2^104, the largest finite f32
abbrev pub b2_max_float : Float
b2_max_float = of_bits binary32 0x7f7f_ffff

-- 1/2^23
abbrev pub b2_epsilon : Float
b2_epsilon = of_bits binary32 0x3400_0000

-- its square: 1/2^46
abbrev pub epsilon_squared : Float
epsilon_squared = of_bits binary32 0x2880_0000

-- 0.005, rounded: 5368709/2^30
abbrev pub b2_linear_slop : Float
b2_linear_slop = of_bits binary32 0x3ba3_d70a

-- twice the slop: 5368709/2^29
abbrev pub b2_polygon_radius : Float
b2_polygon_radius = of_bits binary32 0x3c23_d70a
