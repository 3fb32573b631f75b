-- Boxes held to answers from outside, whole, for any given shape: Box2D 2.4.1 and the Rust agree on each accepted one,
-- as bit patterns; refusals 2 and 6 and their order are document 01's. Assumes nothing.
use mathlib.Core.Path.{◌≡◌, refl}
use mathlib.Core.List.{[], ◌∷◌}
use Prim.Native.Nat.{ℕ}
use lib.Ieee.{neg, add, sub, mul, le, of_bits}
use Rattle.floats.specs.declared.b2_math.B2vec2.{B2vec2}
use Rattle.floats.specs.B2Math.{rot, b2_mul_rot_by_vec2, b2_mul_transform_by_vec2}
use Rattle.floats.specs.Ranges.{coordinate_in_range, point_in_range, rotation_in_range}
use Rattle.shape_definitions.specs.declared.b2_polygon_shape.B2polygonShape.{B2polygonShape}
use Rattle.shape_definitions.specs.declared.b2_polygon_shape.PolygonAnswer.{PolygonAnswer}
use Rattle.shape_definitions.specs.Boxes.{b2_polygon_shape_set_as_box, b2_polygon_shape_set_as_box_angle}
use Rattle.floats.proofs.BitPatterns.{float, vector}
use Rattle.shape_definitions.proofs.CaseRecords.{turned_down, made}

-- both calls, on half-widths, sine and cosine by their bit patterns
abbrev box : B2polygonShape → ℕ → ℕ → PolygonAnswer
box old hx hy = b2_polygon_shape_set_as_box old (float hx) (float hy)

abbrev box_angle : B2polygonShape → ℕ → ℕ → B2vec2 → ℕ → ℕ → PolygonAnswer
box_angle old hx hy center s c =
    b2_polygon_shape_set_as_box_angle old (float hx) (float hy) center (rot (float s) (float c))

pub record BoxCases (old : B2polygonShape) : Type 0 where
  -- half-widths -1.5 and 0.25
  pub straight_box : box old 0xbfc0_0000 0x3e80_0000
      ≡ made old (vector 0 0)
      (vector 0x3fc0_0000 0xbe80_0000 ∷ vector 0xbfc0_0000 0xbe80_0000 ∷ vector 0xbfc0_0000 0x3e80_0000
      ∷ vector 0x3fc0_0000 0x3e80_0000 ∷ [])
      (vector 0 0xbf80_0000 ∷ vector 0x3f80_0000 0 ∷ vector 0 0x3f80_0000
      ∷ vector 0xbf80_0000 0 ∷ [])
  -- half-widths 2.02 and 2.62 about (-0.18, 1.53), sine 0.44 and cosine 0.46, whose squares do not add up to 1
  pub turned_box : box_angle old 0x4001_47ae 0x4027_ae14 (vector 0xbe38_51ec 0x3fc3_d70a) 0x3ee1_47ae 0x3eeb_851f
      ≡ made old (vector 0xbe38_51ec 0x3fc3_d70a)
      (vector 0x3d32_95e0 0xbf10_624c ∷ vector 0x3ff3_74bc 0x3f9b_573e ∷ vector 0xbece_a4a8 0x4067_ef9d
      ∷ vector 0xc010_c49c 0x3fec_56d6 ∷ [])
      (vector 0x3ee1_47ae 0xbeeb_851f ∷ vector 0x3eeb_851f 0x3ee1_47ae ∷ vector 0xbee1_47ae 0x3eeb_851f
      ∷ vector 0xbeeb_851f 0xbee1_47ae ∷ [])
  -- a half-width of no number, half-widths and a centre beyond 2^20
  pub first_half_width : box old 0x7fc0_0000 0 ≡ turned_down 2 old
  pub second_half_width : box old 0 0x4980_0001 ≡ turned_down 2 old
  pub turned_first_half_width : box_angle old 0xc980_0001 0 (vector 0 0) 0 0 ≡ turned_down 2 old
  pub turned_second_half_width : box_angle old 0 0x4980_0001 (vector 0 0) 0 0 ≡ turned_down 2 old
  pub centre : box_angle old 0 0 (vector 0 0xc980_0001) 0 0 ≡ turned_down 2 old
  -- a sine above 1 and a cosine below -1; both a centre and a sine out of range
  pub sine : box_angle old 0 0 (vector 0 0) 0x3f80_0001 0 ≡ turned_down 6 old
  pub cosine : box_angle old 0 0 (vector 0 0) 0 0xbf80_0001 ≡ turned_down 6 old
  pub shape_before_placement : box_angle old 0 0 (vector 0x7f80_0000 0) 0x7fc0_0000 0 ≡ turned_down 2 old

pub box_cases : (old : B2polygonShape) → BoxCases old
unfolding b2_polygon_shape_set_as_box b2_polygon_shape_set_as_box_angle b2_mul_rot_by_vec2 b2_mul_transform_by_vec2
    coordinate_in_range point_in_range rotation_in_range neg add sub mul le of_bits
box_cases old = record {
  straight_box = refl;
  turned_box = refl;
  first_half_width = refl;
  second_half_width = refl;
  turned_first_half_width = refl;
  turned_second_half_width = refl;
  centre = refl;
  sine = refl;
  cosine = refl;
  shape_before_placement = refl;
}
