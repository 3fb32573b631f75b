-- The choices of two bodies within the limits are small enough for the code's tests. Assumes nothing.
use mathlib.Core.Path.{◌≡◌}
use mathlib.Core.Bool.{true}
use Rattle.measured_definitions.specs.declared.MeasuredCircle.{MeasuredCircle}
use Rattle.measured_definitions.specs.declared.MeasuredBox.{MeasuredBox}
use Rattle.measured_definitions.specs.MeasuredCircles.{circle_in_limits, nearest_circles, farthest_circles}
use Rattle.measured_definitions.specs.MeasuredBoxes.{box_in_limits, nearest_boxes, farthest_boxes}
use Rattle.measured_definitions.proofs.Limits.{circle_limits, box_limits}
use Rattle.measured_definitions.proofs.Circles as Circles
use Rattle.measured_definitions.proofs.Boxes as Boxes
use Rattle.measured_bodies.specs.Widths.{ShortCircles, ShortBoxes}
use Rattle.measured_bodies.proofs.ReadBack.{short_circle, short_box}

module _ (a b : MeasuredCircle) (a_in : circle_in_limits a ≡ true) (b_in : circle_in_limits b ≡ true) where
  pub nearest_circles_short : ShortCircles (nearest_circles a b)
  nearest_circles_short =
      let la = (circle_limits a).holds a_in in
      let lb = (circle_limits b).holds b_in in
      let h = Circles.near_choices a b la lb in
      (short_circle a _ la h.0, short_circle b _ lb h.1)

  pub farthest_circles_short : ShortCircles (farthest_circles a b)
  farthest_circles_short =
      let la = (circle_limits a).holds a_in in
      let lb = (circle_limits b).holds b_in in
      let h = Circles.far_choices a b la lb in
      (short_circle a _ la h.0, short_circle b _ lb h.1)

module _ (a b : MeasuredBox) (a_in : box_in_limits a ≡ true) (b_in : box_in_limits b ≡ true) where
  pub nearest_boxes_short : ShortBoxes (nearest_boxes a b)
  nearest_boxes_short =
      let la = (box_limits a).holds a_in in
      let lb = (box_limits b).holds b_in in
      let h = Boxes.near_choices a b la lb in
      (short_box a _ la h.0, short_box b _ lb h.1)

  pub farthest_boxes_short : ShortBoxes (farthest_boxes a b)
  farthest_boxes_short =
      let la = (box_limits a).holds a_in in
      let lb = (box_limits b).holds b_in in
      let h = Boxes.far_choices a b la lb in
      (short_box a _ la h.0, short_box b _ lb h.1)
