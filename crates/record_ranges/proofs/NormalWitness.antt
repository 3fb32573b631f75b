-- The theorem of normals on a closed case: the outline of (9, -62), (-1, -2) and (-53, 4) as the builder makes it, and
-- a circle on its second corner. All hypotheses hold there, and the normal is that of the face. Assumes nothing.
use Prim.Native.Nat.{zero, suc}
use mathlib.Core.Path.{◌≡◌, refl}
use mathlib.Core.List.{List, [], ◌∷◌}
use native.Mathlib.Omega.{arith}
use lib.Ieee.{binary32, neg, add, sub, mul, div, lt, le, eq, of_bits}
use lib.Ieee.Bits.{of_bits-fits}
use Rattle.sqrt.specs.Sqrt.{root_digits, whole_root, root_by_steps, sqrt}
use Rattle.floats.specs.declared.b2_math.B2vec2.{B2vec2}
use Rattle.floats.specs.B2Math.{b2_sqrt, b2_add, b2_sub, b2_scale, b2_dot, b2_cross, b2_cross_vec_by_scalar}
use Rattle.floats.specs.B2Math.{b2_length_squared, b2_length, b2_distance_vec2_squared, b2_normalize}
use Rattle.floats.specs.B2Math.{b2_mul_t_rot_by_vec2, b2_mul_transform_by_vec2, b2_mul_t_transform_by_vec2}
use Rattle.floats.specs.Ranges.{point_in_range, radius_in_range, rotation_in_range, transform_in_range}
use Rattle.floats.specs.Ranges.{normal_in_range}
use Rattle.floats.proofs.BitPatterns.{float, vector}
use Rattle.shape_definitions.specs.declared.b2_circle_shape.B2circleShape.{B2circleShape}
use Rattle.shape_definitions.specs.declared.b2_polygon_shape.B2polygonShape.{B2polygonShape}
use Rattle.shape_definitions.specs.Outline.{too_near, welded, comes_before, start, closer, next, row, edges}
use Rattle.shape_definitions.specs.Outline.{long_enough, fan}
use Rattle.shape_definitions.specs.Circle.{circle_in_range}
use Rattle.shape_definitions.specs.Polygon.{outline_of_corners, outline_of_welded, b2_polygon_shape_set}
use Rattle.shape_definitions.specs.Refusal.{accepted}
use Rattle.shape_definitions.specs.Validate.{polygon_in_range}
use Rattle.contact_definitions.specs.Answers.{ManifoldAnswer}
use Rattle.contact_definitions.specs.Manifold.{default_manifold, with_local_point, with_count, with_one_point}
use Rattle.contact_definitions.specs.Searches.{some_below, first_greatest}
use Rattle.contact_definitions.specs.B2CollideCircle.{farther, circle_separation, circle_at_corner, circle_at_face}
use Rattle.contact_definitions.specs.B2CollideCircle.{circle_at_best, polygon_circle_manifold}
use Rattle.contact_definitions.specs.B2CollideCircle.{b2_collide_polygon_and_circle}
use Rattle.contact_definitions.specs.CircleNormals.{Pushes, Singles, SinglePlace}
use Rattle.record_definitions.specs.World.{at_origin, blank_outline}
use Rattle.record_ranges.proofs.NoZeroNormal.{set_no_zero_normal}

abbrev points : List B2vec2
points = vector 0x4110_0000 0xc278_0000 ∷ vector 0xbf80_0000 0xc000_0000 ∷ vector 0xc254_0000 0x4080_0000 ∷ []

abbrev outline : B2polygonShape
outline = (b2_polygon_shape_set blank_outline points).shape

abbrev on_corner : B2circleShape
on_corner = record { m_radius = float 0x3f00_0000; m_p = vector 0xbf80_0000 0xc000_0000 }

abbrev answer : ManifoldAnswer
answer = b2_collide_polygon_and_circle default_manifold outline at_origin on_corner at_origin

record Computed : Type 0 where
  built : (b2_polygon_shape_set blank_outline points).refusal ≡ accepted
  taken : answer.refusal ≡ accepted
  counted : answer.manifold.point_count ≡ 1
  normal : answer.manifold.local_normal ≡ vector 0x3f7c_844f 0x3e28_5835

computed : Computed
unfolding root_digits whole_root root_by_steps sqrt b2_sqrt b2_add b2_sub b2_scale b2_dot b2_cross
    b2_cross_vec_by_scalar b2_length_squared b2_length b2_distance_vec2_squared b2_normalize b2_mul_t_rot_by_vec2
    b2_mul_transform_by_vec2 b2_mul_t_transform_by_vec2 point_in_range radius_in_range rotation_in_range
    transform_in_range normal_in_range too_near welded comes_before start closer next row edges long_enough fan
    circle_in_range outline_of_corners outline_of_welded b2_polygon_shape_set polygon_in_range with_local_point
    with_count with_one_point some_below first_greatest farther circle_separation circle_at_corner circle_at_face
    circle_at_best polygon_circle_manifold b2_collide_polygon_and_circle neg add sub mul div lt le eq of_bits
computed = record { built = refl; taken = refl; counted = refl; normal = refl }

singles : Singles points
singles zero in_List = (of_bits-fits binary32 0x4110_0000, of_bits-fits binary32 0xc278_0000)
singles (suc zero) in_List = (of_bits-fits binary32 0xbf80_0000, of_bits-fits binary32 0xc000_0000)
singles (suc (suc zero)) in_List = (of_bits-fits binary32 0xc254_0000, of_bits-fits binary32 0x4080_0000)
singles (suc (suc (suc i))) in_List = absurd (omega arith)

pub corner_pushes : Pushes (vector 0x3f7c_844f 0x3e28_5835)
corner_pushes =
    let unturned : SinglePlace at_origin = (
      (of_bits-fits binary32 0, of_bits-fits binary32 0),
      of_bits-fits binary32 0,
      of_bits-fits binary32 0x3f80_0000,
    ) in
    rw computed.normal at ((set_no_zero_normal blank_outline points singles computed.built).pushes
    default_manifold at_origin on_corner at_origin unturned
    (of_bits-fits binary32 0xbf80_0000, of_bits-fits binary32 0xc000_0000) unturned computed.taken
    (rw computed.counted (omega arith)))
