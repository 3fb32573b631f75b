-- Walls held to answers from outside, whole, for any given wall: Box2D 2.4.1 and the Rust agree on the accepted ones;
-- refusal 2 is document 01's. Assumes nothing.
use mathlib.Core.Path.{◌≡◌, refl}
use mathlib.Core.Bool.{true, false}
use lib.Ieee.{neg, le, of_bits}
use Rattle.floats.specs.declared.b2_math.B2vec2.{B2vec2}
use Rattle.floats.specs.Ranges.{point_in_range}
use Rattle.shape_definitions.specs.declared.b2_edge_shape.B2edgeShape.{B2edgeShape}
use Rattle.shape_definitions.specs.Edge.{b2_set_one_sided, b2_set_two_sided}
use Rattle.floats.proofs.BitPatterns.{vector}
use Rattle.shape_definitions.proofs.CaseRecords.{wall_turned_down, wall_made}

-- (1, 2), (3, 4), (5, 6), (7, 8), and a point out of range
abbrev v0 : B2vec2
v0 = vector 0x3f80_0000 0x4000_0000

abbrev v1 : B2vec2
v1 = vector 0x4040_0000 0x4080_0000

abbrev v2 : B2vec2
v2 = vector 0x40a0_0000 0x40c0_0000

abbrev v3 : B2vec2
v3 = vector 0x40e0_0000 0x4100_0000

abbrev outside : B2vec2
outside = vector 0 0x4980_0001

pub record WallCases (old : B2edgeShape) : Type 0 where
  pub one_sided : b2_set_one_sided old v0 v1 v2 v3 ≡ wall_made old true v0 v1 v2 v3
  pub two_sided : b2_set_two_sided old v1 v2 ≡ wall_made old false old.m_vertex0 v1 v2 old.m_vertex3
  pub ghost_before : b2_set_one_sided old outside v1 v2 v3 ≡ wall_turned_down 2 old
  pub first_end : b2_set_one_sided old v0 outside v2 v3 ≡ wall_turned_down 2 old
  pub second_end : b2_set_one_sided old v0 v1 outside v3 ≡ wall_turned_down 2 old
  pub ghost_after : b2_set_one_sided old v0 v1 v2 outside ≡ wall_turned_down 2 old
  pub two_sided_first_end : b2_set_two_sided old outside v2 ≡ wall_turned_down 2 old
  pub two_sided_second_end : b2_set_two_sided old v1 outside ≡ wall_turned_down 2 old

pub wall_cases : (old : B2edgeShape) → WallCases old
unfolding b2_set_one_sided b2_set_two_sided point_in_range neg le of_bits
wall_cases old = record {
  one_sided = refl;
  two_sided = refl;
  ghost_before = refl;
  first_end = refl;
  second_end = refl;
  ghost_after = refl;
  two_sided_first_end = refl;
  two_sided_second_end = refl;
}
