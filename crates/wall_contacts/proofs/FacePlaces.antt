-- Where the axis search names a face of the outline, it is one of its faces. Assumes nothing.
use mathlib.Core.Path.{◌≡◌, sym, subst}
use mathlib.Core.Bool.{Bool, true, false, cond}
use mathlib.Core.List.{map}
use Prim.Native.Nat.{ℕ, zero, suc, ◌+◌, ◌<◌}
use native.Mathlib.Omega.{arith}
use lib.Ieee.{Float, binary32, neg, sub, lt}
use Rattle.algebra.specs.Loops.{places, scan}
use Rattle.rounding.specs.Literals.{zero32}
use Rattle.floats.specs.declared.b2_math.B2vec2.{B2vec2}
use Rattle.floats.specs.declared.b2_math.B2Transform.{B2Transform}
use Rattle.floats.specs.B2Common.{b2_max_float}
use Rattle.floats.specs.B2Math.{vec2, b2_neg}
use Rattle.shape_definitions.specs.declared.b2_polygon_shape.B2polygonShape.{B2polygonShape}
use Rattle.shape_definitions.specs.declared.b2_edge_shape.B2edgeShape.{B2edgeShape}
use Rattle.contact_definitions.specs.declared.axis.Axis.{Axis}
use Rattle.contact_definitions.specs.declared.axis.Axis.TheVariants.{Apart, FaceA, FaceB}
use Rattle.contact_definitions.specs.declared.b2_collide_edge.GaussRegion.{GaussRegion}
use Rattle.contact_definitions.specs.declared.b2_collide_edge.GaussRegion.TheVariants.{Skip, Admit, Snap}
use Rattle.contact_definitions.specs.Axis.{separation_of, keeps_farther}
use Rattle.contact_definitions.specs.EdgeAxis.{right_of, side_axis, outline_axis, clearly_above}
use Rattle.contact_definitions.specs.EdgeAxis.{b2_compute_edge_separation, b2_compute_polygon_separation, primary_axis}
use Rattle.contact_definitions.specs.EdgeAxis.{gauss_region, in_region, smoothed, edge_polygon_axis}
use Rattle.wall_contacts.specs.AxisParts.{place_below}

picked : (P : Axis → Type 0) (t : Bool) (a b : Axis) → P a → P b → P (cond t a b)
picked P true a b a_has b_has = a_has
picked P false a b a_has b_has = b_has

-- a scan keeps what all that it sees has
scan_keeps : (P : Axis → Type 0) (f : ℕ → Axis) (kept : Axis) (j n : ℕ) → P kept → ((i : ℕ) → i < j + n → P (f i))
    → P (scan keeps_farther kept (map f (places j n)))
scan_keeps P f kept j zero kept_has all_have = kept_has
scan_keeps P f kept j (suc n) kept_has all_have =
    scan_keeps P f (cond (keeps_farther kept (f j)) (f j) kept) (suc j) n
    (picked P (keeps_farther kept (f j)) (f j) kept (all_have j (omega arith)) kept_has)
    (λ i below. all_have i (omega arith))

module _ (xf : B2Transform) (poly : B2polygonShape) where
  below : Axis → Type 0
  below = place_below poly.m_count

  edge_place : (v1 normal1 : B2vec2) → below (b2_compute_edge_separation xf poly v1 normal1)
  unfolding below b2_compute_edge_separation side_axis
  edge_place v1 normal1 =
      let none = FaceA (neg b2_max_float) zero32 zero32 0 in
      let side0 = side_axis xf poly v1 normal1 0 in
      let side1 = side_axis xf poly v1 (b2_neg normal1) 1 in
      let first = cond (keeps_farther none side0) side0 none in
      picked below (keeps_farther first side1) side1 first tt
      (picked below (keeps_farther none side0) side0 none tt tt)

  polygon_place : (v1 v2 : B2vec2) → 0 < poly.m_count → below (b2_compute_polygon_separation xf poly v1 v2)
  unfolding below b2_compute_polygon_separation outline_axis
  polygon_place v1 v2 some =
      scan_keeps below (outline_axis xf poly v1 v2) (FaceB (neg b2_max_float) zero32 zero32 0) 0 poly.m_count some
      (λ i within. omega arith)

  primary_place : (radius : Float) (wall face : Axis) → below wall → below face → below (primary_axis radius wall face)
  unfolding below primary_axis
  primary_place radius wall face wall_below face_below =
      let wall_s = separation_of wall in
      let face_s = separation_of face in
      let above = clearly_above (sub binary32 wall_s radius) (sub binary32 face_s radius) in
      let chosen = cond above face wall in
      let unless_apart = cond (lt radius face_s) (Apart face_s) chosen in
      picked below (lt radius wall_s) (Apart wall_s) unless_apart tt
      (picked below (lt radius face_s) (Apart face_s) chosen tt (picked below above face wall face_below wall_below))

  region_place : (region : GaussRegion) (wall axis : Axis) → below wall → below axis
      → below (in_region region wall axis)
  unfolding below
  region_place Skip wall axis wall_below axis_below = tt
  region_place Admit wall axis wall_below axis_below = axis_below
  region_place Snap wall axis wall_below axis_below = wall_below

  smoothed_place : (edge : B2edgeShape) (edge1 : B2vec2) (wall axis : Axis) → below wall → below axis
      → below (smoothed edge edge1 wall axis)
  unfolding below smoothed
  smoothed_place edge edge1 wall (Apart s) wall_below axis_below = tt
  smoothed_place edge edge1 wall (FaceA s x y i) wall_below axis_below =
      region_place (gauss_region edge edge1 (vec2 x y)) wall (FaceA s x y i) wall_below tt
  smoothed_place edge edge1 wall (FaceB s x y i) wall_below axis_below =
      region_place (gauss_region edge edge1 (vec2 x y)) wall (FaceB s x y i) wall_below axis_below

  axis_place : (radius : Float) (edge : B2edgeShape) (edge1 : B2vec2) → 0 < poly.m_count
      → place_below poly.m_count (edge_polygon_axis radius edge edge1 xf poly)
  unfolding below edge_polygon_axis
  axis_place radius edge edge1 some =
      let wall = b2_compute_edge_separation xf poly edge.m_vertex1 (right_of edge1) in
      let face = b2_compute_polygon_separation xf poly edge.m_vertex1 edge.m_vertex2 in
      let primary = primary_axis radius wall face in
      let wall_below = edge_place edge.m_vertex1 (right_of edge1) in
      let primary_below =
      primary_place radius wall face wall_below (polygon_place edge.m_vertex1 edge.m_vertex2 some) in
      picked below edge.m_one_sided (smoothed edge edge1 wall primary) primary
      (smoothed_place edge edge1 wall primary wall_below primary_below) primary_below

  pub found_place : (radius : Float) (edge : B2edgeShape) (edge1 : B2vec2) (axis : Axis) → 0 < poly.m_count
      → axis ≡ edge_polygon_axis radius edge edge1 xf poly → place_below poly.m_count axis
  found_place radius edge edge1 axis some axis_is =
      subst (place_below poly.m_count) (sym axis_is) (axis_place radius edge edge1 some)
