-- Circles and walls at the limits of their ranges, and one step past them, computed by antt from the definitions.
-- Assumes nothing.
use mathlib.Core.Path.{◌≡◌, refl}
use mathlib.Core.Bool.{Bool, true, false}
use lib.Ieee.{Float, neg, le, of_bits}
use Rattle.floats.specs.declared.b2_math.B2vec2.{B2vec2}
use Rattle.rounding.specs.Literals.{zero32}
use Rattle.floats.specs.B2Math.{vec2}
use Rattle.floats.specs.Ranges.{shape_limit, point_in_range, radius_in_range}
use Rattle.floats.proofs.BitPatterns.{float}
use Rattle.shape_definitions.specs.declared.b2_circle_shape.B2circleShape.{B2circleShape}
use Rattle.shape_definitions.specs.declared.b2_edge_shape.B2edgeShape.{B2edgeShape}
use Rattle.shape_definitions.specs.Circle.{circle_in_range}
use Rattle.shape_definitions.specs.Edge.{edge_in_range}

-- the first f32 past 2^20
abbrev pub past_the_limit : Float
past_the_limit = float 0x4980_0001

abbrev pub farthest : B2vec2
farthest = vec2 (neg shape_limit) shape_limit

abbrev pub outside : B2vec2
outside = vec2 zero32 past_the_limit

abbrev pub circle_of : Float → B2vec2 → B2circleShape
circle_of radius centre = record { m_radius = radius; m_p = centre }

-- a wall with the same ghost point twice
abbrev pub wall_of : Bool → Float → B2vec2 → B2vec2 → B2vec2 → B2edgeShape
wall_of one_sided radius ghost v1 v2 = record {
  m_radius = radius;
  m_vertex0 = ghost;
  m_vertex1 = v1;
  m_vertex2 = v2;
  m_vertex3 = ghost;
  m_one_sided = one_sided;
}

pub record RangeCases (any : B2vec2) : Type 0 where
  pub circle_at_the_limits : circle_in_range (circle_of shape_limit farthest) ≡ true
  pub circle_of_radius_minus_zero : circle_in_range (circle_of (neg zero32) farthest) ≡ true
  pub circle_too_large : circle_in_range (circle_of past_the_limit farthest) ≡ false
  pub circle_too_far : circle_in_range (circle_of zero32 outside) ≡ false
  pub wall_at_the_limits : edge_in_range (wall_of true shape_limit farthest farthest farthest) ≡ true
  pub wall_radius_below_zero : edge_in_range (wall_of false (neg shape_limit) any farthest farthest) ≡ false
  pub first_end_too_far : edge_in_range (wall_of false zero32 any outside farthest) ≡ false
  pub second_end_too_far : edge_in_range (wall_of false zero32 any farthest outside) ≡ false
  pub ghosts_of_two_sided : edge_in_range (wall_of false zero32 any farthest farthest) ≡ true
  pub ghosts_of_one_sided : edge_in_range (wall_of true zero32 outside farthest farthest) ≡ false

pub range_cases : (any : B2vec2) → RangeCases any
unfolding circle_in_range edge_in_range point_in_range radius_in_range neg le of_bits
range_cases any = record {
  circle_at_the_limits = refl;
  circle_of_radius_minus_zero = refl;
  circle_too_large = refl;
  circle_too_far = refl;
  wall_at_the_limits = refl;
  wall_radius_below_zero = refl;
  first_end_too_far = refl;
  second_end_too_far = refl;
  ghosts_of_two_sided = refl;
  ghosts_of_one_sided = refl;
}
