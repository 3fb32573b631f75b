-- Closed cases, computed by antt, of document 01's ranges: the limits themselves are in, the next f32 beyond one and a
-- NaN are not. Assumes nothing.
use mathlib.Core.Path.{◌≡◌, refl}
use mathlib.Core.Bool.{true, false}
use Prim.Native.Nat.{ℕ}
use lib.Ieee.{neg, le, of_bits}
use Rattle.floats.specs.declared.b2_math.B2Transform.{B2Transform}
use Rattle.floats.specs.B2Math.{rot}
use Rattle.floats.specs.Ranges.{point_in_range, rotation_in_range, transform_in_range, normal_in_range}
use Rattle.floats.specs.Ranges.{local_normal_in_range, contact_number_in_range, contact_point_in_range}
use Rattle.floats.proofs.BitPatterns.{float, vector}

-- a placement at (x, 0), of sine s and cosine 0
abbrev placed : ℕ → ℕ → B2Transform
placed x s = record { p = vector x 0; q = rot (float s) (float 0) }

pub record RangeCases : Type 0 where
  -- 2^20
  pub point : point_in_range (vector 0x4980_0000 0xc980_0000) ≡ true
  pub point_beyond : point_in_range (vector 0 0xc980_0001) ≡ false
  -- 1
  pub rotation : rotation_in_range (rot (float 0xbf80_0000) (float 0x3f80_0000)) ≡ true
  pub sine_beyond : rotation_in_range (rot (float 0x3f80_0001) (float 0)) ≡ false
  pub cosine_beyond : rotation_in_range (rot (float 0) (float 0xbf80_0001)) ≡ false
  pub placement : transform_in_range (placed 0x4980_0000 0x3f80_0000) ≡ true
  pub position_beyond : transform_in_range (placed 0x4980_0001 0) ≡ false
  pub turn_beyond : transform_in_range (placed 0 0x7fc0_0000) ≡ false
  -- 2
  pub normal : normal_in_range (vector 0x4000_0000 0xc000_0000) ≡ true
  pub normal_beyond : normal_in_range (vector 0 0x4000_0001) ≡ false
  -- 8
  pub local_normal : local_normal_in_range (vector 0x4100_0000 0xc100_0000) ≡ true
  pub local_normal_beyond : local_normal_in_range (vector 0xc100_0001 0) ≡ false
  -- 2^30
  pub contact_number : contact_number_in_range (float 0xce80_0000) ≡ true
  pub contact_number_beyond : contact_number_in_range (float 0x4e80_0001) ≡ false
  pub contact_number_nan : contact_number_in_range (float 0x7fc0_0000) ≡ false
  pub contact_point : contact_point_in_range (vector 0x4e80_0000 0xce80_0000) ≡ true
  pub contact_point_beyond : contact_point_in_range (vector 0 0xce80_0001) ≡ false

pub range_cases : RangeCases
unfolding point_in_range rotation_in_range transform_in_range normal_in_range local_normal_in_range
    contact_number_in_range contact_point_in_range neg le of_bits
range_cases = record {
  point = refl;
  point_beyond = refl;
  rotation = refl;
  sine_beyond = refl;
  cosine_beyond = refl;
  placement = refl;
  position_beyond = refl;
  turn_beyond = refl;
  normal = refl;
  normal_beyond = refl;
  local_normal = refl;
  local_normal_beyond = refl;
  contact_number = refl;
  contact_number_beyond = refl;
  contact_number_nan = refl;
  contact_point = refl;
  contact_point_beyond = refl;
}
