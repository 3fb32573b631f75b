-- The wall's axis from the least distances on its two sides. Assumes nothing.
use mathlib.Core.Path.{◌≡◌, refl}
use mathlib.Core.List.{[], ◌∷◌}
use Prim.Native.Nat.{ℕ}
use lib.Ieee.{Float, neg}
use Rattle.rounding.specs.Literals.{zero32}
use Rattle.floats.specs.declared.b2_math.B2vec2.{B2vec2}
use Rattle.floats.specs.declared.b2_math.B2Transform.{B2Transform}
use Rattle.floats.specs.B2Common.{b2_max_float}
use Rattle.floats.specs.B2Math.{b2_sub, b2_neg, b2_dot}
use Rattle.shape_definitions.specs.declared.b2_polygon_shape.B2polygonShape.{B2polygonShape}
use Rattle.contact_definitions.specs.declared.axis.Axis.{Axis}
use Rattle.contact_definitions.specs.declared.axis.Axis.TheVariants.{FaceA}
use Rattle.contact_definitions.specs.Searches.{least}
use Rattle.contact_definitions.specs.Axis.{face_a, farthest}
use Rattle.contact_definitions.specs.EdgeAxis.{placed_corner, side_axis, b2_compute_edge_separation}

pub edge_separation_from : (xf : B2Transform) (poly : B2polygonShape) (v1 normal1 : B2vec2) (count : ℕ)
    (front back : Float) (r : Axis)
    → poly.m_count ≡ count
    → front ≡ least (λ i. b2_dot normal1 (b2_sub (placed_corner xf poly i) v1)) count
    → back ≡ least (λ i. b2_dot (b2_neg normal1) (b2_sub (placed_corner xf poly i) v1)) count
    → r ≡ farthest (FaceA (neg b2_max_float) zero32 zero32 0)
    (face_a front normal1 0 ∷ face_a back (b2_neg normal1) 1 ∷ [])
    → r ≡ b2_compute_edge_separation xf poly v1 normal1
unfolding b2_compute_edge_separation side_axis
edge_separation_from xf poly v1 normal1 count front back r count_is front_is back_is r_is =
    rw (r_is, front_is, back_is, ← count_is) refl
