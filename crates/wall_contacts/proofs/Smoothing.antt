-- An axis smoothed, from its normal. Assumes nothing.
use mathlib.Core.Path.{◌≡◌, refl, sym}
use mathlib.Core.Bool.{true, false, true≢false}
use Rattle.floats.specs.declared.b2_math.B2vec2.{B2vec2}
use Rattle.shape_definitions.specs.declared.b2_edge_shape.B2edgeShape.{B2edgeShape}
use Rattle.contact_definitions.specs.declared.axis.Axis.{Axis}
use Rattle.contact_definitions.specs.declared.axis.Axis.TheVariants.{Apart, FaceA, FaceB}
use Rattle.contact_definitions.specs.EdgeAxis.{gauss_region, in_region, smoothed}
use Rattle.wall_contacts.specs.AxisParts.{is_apart, axis_normal}

module _ (edge : B2edgeShape) (edge1 : B2vec2) (edge_axis : Axis) where
  pub smoothed_apart : (axis : Axis) → is_apart axis ≡ true → axis ≡ smoothed edge edge1 edge_axis axis
  unfolding smoothed
  smoothed_apart (Apart s) apart = refl
  smoothed_apart (FaceA s x y i) apart = absurd (true≢false (sym apart))
  smoothed_apart (FaceB s x y i) apart = absurd (true≢false (sym apart))

  pub smoothed_face : (axis : Axis) → is_apart axis ≡ false
      → in_region (gauss_region edge edge1 (axis_normal axis)) edge_axis axis ≡ smoothed edge edge1 edge_axis axis
  unfolding smoothed
  smoothed_face (Apart s) face = absurd (true≢false face)
  smoothed_face (FaceA s x y i) face = refl
  smoothed_face (FaceB s x y i) face = refl
