-- Closed cases: bodies that share just one point, one step farther apart, a tolerance of one step between them, spans
-- of which one lies in the other, the limits, and 17 of each body. Assumes nothing.
use mathlib.Core.Path.{◌≡◌, refl}
use Rattle.std.proofs.Common.{Ok}
use mathlib.Core.Bool.{true}
use Prim.Native.Nat.{ℕ}
use native.Mathlib.Omega.{arith}
use lib.Dec.{lit≤, lit<}
use lib.IntN.{ℤ, pos, negsuc}
use Rattle.algebra.specs.Integer.{whole, signed}
use Rattle.measured_definitions.specs.declared.Span.{Span}
use Rattle.measured_definitions.specs.declared.MeasuredCircle.{MeasuredCircle}
use Rattle.measured_definitions.specs.declared.MeasuredBox.{MeasuredBox}
use Rattle.measured_definitions.specs.declared.WholeCircle.{WholeCircle}
use Rattle.measured_definitions.specs.declared.WholeBox.{WholeBox}
use Rattle.measured_definitions.specs.declared.CirclePair.{CirclePair}
use Rattle.measured_definitions.specs.declared.Verdict.TheVariants.{SurelyTouching, SurelyApart, Either}
use Rattle.measured_definitions.specs.Bodies.{SharePoint, Disc, disc, Box, box}
use Rattle.measured_definitions.specs.Spans.{Coordinate, Size}
use Rattle.measured_definitions.specs.Verdicts.{refused}
use Rattle.measured_definitions.specs.Circles.{circles_verdict}
use Rattle.measured_definitions.specs.Boxes.{boxes_verdict}
use Rattle.measured_definitions.specs.MeasuredCircles.{measured_circles, circles_answer, circle_in_limits}
use Rattle.measured_definitions.specs.MeasuredCircles.{circles_within, circles_touch, nearest_circles}
use Rattle.measured_definitions.specs.MeasuredCircles.{farthest_circles}
use Rattle.measured_definitions.specs.MeasuredBoxes.{measured_boxes, box_in_limits, boxes_within, boxes_touch}
use Rattle.measured_definitions.specs.MeasuredBoxes.{within, nearest_boxes, farthest_boxes}
use Rattle.measured_definitions.specs.Axes.{in_limits, nearest, farthest}
use Rattle.measured_definitions.proofs.Touch.{discs_meet, discs_share, boxes_meet}

-- ---- sets of points: a disc of radius 5 and the points (3, 4) and (3, 5)
abbrev five : Disc
five = record { centre = record { x = whole 0; y = whole 0 }; radius = 5 }

abbrev point_at : ℕ → ℕ → Disc
point_at x y = record { centre = record { x = whole x; y = whole y }; radius = 0 }

three_four : SharePoint (disc five) (disc (point_at 3 4))
three_four = discs_share five (point_at 3 4) (lit≤ tt)

three_five : ¬ SharePoint (disc five) (disc (point_at 3 5))
three_five s = omega (arith, discs_meet five (point_at 3 5) s)

-- boxes of half-widths 1 and 2 about (0, 0) and (2, -4) share the corner (1, -2); about (3, -4), none
abbrev low_box : ℕ → Box
low_box x = record { centre = record { x = whole x; y = signed true 4 }; hx = 1; hy = 2 }

abbrev middle_box : Box
middle_box = record { centre = record { x = whole 0; y = whole 0 }; hx = 1; hy = 2 }

corner : SharePoint (box middle_box) (box (low_box 2))
corner = record {
  scale = 1;
  point = record { x = whole 1; y = signed true 2 };
  positive = lit< tt;
  in_a = ((lit≤ tt, lit≤ tt), (lit≤ tt, lit≤ tt));
  in_b = ((lit≤ tt, lit≤ tt), (lit≤ tt, lit≤ tt));
}

beside : ¬ SharePoint (box middle_box) (box (low_box 3))
beside s = omega (arith, (boxes_meet middle_box (low_box 3) s).0)

-- ---- the limits themselves are inside, the next number is not
widest : Coordinate (record { lowest = negsuc 1023; highest = pos 1024 })
widest = record { from = lit≤ tt; ordered = lit≤ tt; to = lit≤ tt }

past_the_limit : ¬ Coordinate (record { lowest = negsuc 1024; highest = pos 0 })
past_the_limit h = omega (arith, h.from)

out_of_order : ¬ Coordinate (record { lowest = pos 1; highest = pos 0 })
out_of_order h = omega (arith, h.ordered)

size_below_zero : ¬ Size (record { lowest = negsuc 0; highest = pos 0 })
size_below_zero h = omega (arith, h.from)

-- ---- answers about circles
abbrev span : ℤ → ℤ → Span
span lowest highest = record { lowest = lowest; highest = highest }

abbrev just : ℕ → Span
just n = span (pos n) (pos n)

abbrev circle : Span → Span → Span → MeasuredCircle
circle x y radius = record { x = x; y = y; radius = radius }

abbrev whole_circle : ℕ → ℕ → ℕ → WholeCircle
whole_circle x y radius = record { x = pos x; y = pos y; radius = pos radius }

abbrev pair : WholeCircle → WholeCircle → CirclePair
pair a b = record { a = a; b = b }

-- radius 5 at the origin
abbrev wheel : MeasuredCircle
wheel = circle (just 0) (just 0) (just 5)

-- the whole of the limits
abbrev anywhere : MeasuredCircle
anywhere = circle (span (negsuc 1023) (pos 1024)) (span (negsuc 1023) (pos 1024)) (span (pos 0) (pos 1024))

abbrev Touching : MeasuredCircle → MeasuredCircle → Type 0
Touching a b = measured_circles a b ≡ Ok SurelyTouching

abbrev Apart : MeasuredCircle → MeasuredCircle → Type 0
Apart a b = measured_circles a b ≡ Ok SurelyApart

abbrev OutOfLimits : MeasuredCircle → MeasuredCircle → Type 0
OutOfLimits a b = circles_verdict (measured_circles a b) ≡ refused 17

record CircleCases : Type 0 where
  -- at (3, 4) it shares one point with radius 5; at (3, 5) none; measured as from 4 to 5, either
  one_point : Touching wheel (circle (just 3) (just 4) (just 0))
  one_step_off : Apart wheel (circle (just 3) (just 5) (just 0))
  tolerance : measured_circles wheel (circle (just 3) (span (pos 4) (pos 5)) (just 0))
      ≡ Ok (Either (pair (whole_circle 0 0 5) (whole_circle 3 4 0))
      (pair (whole_circle 0 0 5) (whole_circle 3 5 0)))
  -- from 0 to 10 and from 4 to 5: 10 and 4 are farthest apart, 6, and 4 and 4 nearest
  farthest_touch : Touching (circle (span (pos 0) (pos 10)) (just 0) (just 3))
      (circle (span (pos 4) (pos 5)) (just 0) (just 3))
  farthest_part : measured_circles (circle (span (pos 0) (pos 10)) (just 0) (just 3))
      (circle (span (pos 4) (pos 5)) (just 0) (just 2))
      ≡ Ok (Either (pair (whole_circle 4 0 3) (whole_circle 4 0 2))
      (pair (whole_circle 10 0 3) (whole_circle 4 0 2)))
  -- the largest radii may touch, the smallest surely: from 1 to 4 and 2, at a distance of 6, or of 3
  largest_radii : measured_circles (circle (just 0) (just 0) (span (pos 1) (pos 4))) (circle (just 6) (just 0) (just 2))
      ≡ Ok (Either (pair (whole_circle 0 0 4) (whole_circle 6 0 2))
      (pair (whole_circle 0 0 1) (whole_circle 6 0 2)))
  smallest_radii : Touching (circle (just 0) (just 0) (span (pos 1) (pos 4))) (circle (just 3) (just 0) (just 2))
  -- the limits are inside; 17 past them, or where a lowest exceeds its highest, of A and of B
  all_limits : measured_circles anywhere anywhere
      ≡ Ok (Either
      (pair (record { x = negsuc 1023; y = negsuc 1023; radius = pos 1024 })
      (record { x = negsuc 1023; y = negsuc 1023; radius = pos 1024 }))
      (pair (record { x = negsuc 1023; y = negsuc 1023; radius = pos 0 }) (whole_circle 1024 1024 0)))
  x_of_a : OutOfLimits (circle (span (negsuc 1024) (pos 0)) (just 0) (just 0)) wheel
  y_of_a : OutOfLimits (circle (just 0) (span (pos 1) (pos 0)) (just 0)) wheel
  radius_of_a : OutOfLimits (circle (just 0) (just 0) (span (negsuc 0) (pos 0))) wheel
  x_of_b : OutOfLimits wheel (circle (span (pos 0) (pos 1025)) (just 0) (just 0))
  y_of_b : OutOfLimits wheel (circle (just 0) (span (pos 1) (pos 0)) (just 0))
  radius_of_b : OutOfLimits wheel (circle (just 0) (just 0) (just 1025))
  -- the numbers that a host gets
  touching_number : (circles_answer (measured_circles wheel (circle (just 3) (just 4) (just 0)))).verdict ≡ 1
  apart_number : (circles_answer (measured_circles wheel (circle (just 3) (just 5) (just 0)))).verdict ≡ 2
  either_number : (circles_answer (measured_circles anywhere anywhere)).verdict ≡ 3
  refused_number : (circles_answer (measured_circles wheel (circle (just 0) (just 0) (just 1025)))).refusal ≡ 17
  either_touching : (circles_answer (measured_circles anywhere anywhere)).touching.a.radius ≡ pos 1024
  either_apart : (circles_answer (measured_circles anywhere anywhere)).apart.a.radius ≡ pos 0

circle_cases : CircleCases
unfolding measured_circles circle_in_limits in_limits circles_within circles_touch nearest_circles farthest_circles
    nearest farthest circles_answer
circle_cases = record {
  one_point = refl;
  one_step_off = refl;
  tolerance = refl;
  farthest_touch = refl;
  farthest_part = refl;
  largest_radii = refl;
  smallest_radii = refl;
  all_limits = refl;
  x_of_a = refl;
  y_of_a = refl;
  radius_of_a = refl;
  x_of_b = refl;
  y_of_b = refl;
  radius_of_b = refl;
  touching_number = refl;
  apart_number = refl;
  either_number = refl;
  refused_number = refl;
  either_touching = refl;
  either_apart = refl;
}

-- ---- answers about boxes
abbrev measured_box : Span → Span → Span → Span → MeasuredBox
measured_box x y hx hy = record { x = x; y = y; hx = hx; hy = hy }

abbrev whole_box : ℤ → ℤ → ℕ → ℕ → WholeBox
whole_box x y hx hy = record { x = x; y = y; hx = pos hx; hy = pos hy }

-- half-widths 1 and 2 at the origin
abbrev crate : MeasuredBox
crate = measured_box (just 0) (just 0) (just 1) (just 2)

abbrev below_it : Span → MeasuredBox
below_it x = measured_box x (span (negsuc 3) (negsuc 3)) (just 1) (just 2)

record BoxCases : Type 0 where
  -- at (2, -4) they share a corner, at (3, -4) nothing, nor at (2, -5); measured as from 2 to 3, either
  one_corner : measured_boxes crate (below_it (just 2)) ≡ Ok SurelyTouching
  beside_it : measured_boxes crate (below_it (just 3)) ≡ Ok SurelyApart
  under_it : measured_boxes crate (measured_box (just 2) (span (negsuc 4) (negsuc 4)) (just 1) (just 2))
      ≡ Ok SurelyApart
  tolerance : measured_boxes crate (below_it (span (pos 2) (pos 3)))
      ≡ Ok (Either
      (record { a = whole_box (pos 0) (pos 0) 1 2; b = whole_box (pos 2) (negsuc 3) 1 2 })
      (record { a = whole_box (pos 0) (pos 0) 1 2; b = whole_box (pos 3) (negsuc 3) 1 2 }))
  -- half-widths from 0 to 2: touching with the largest, apart with the smallest
  half_widths : measured_boxes crate (measured_box (just 3) (just 0) (span (pos 0) (pos 2)) (just 0))
      ≡ Ok (Either
      (record { a = whole_box (pos 0) (pos 0) 1 2; b = whole_box (pos 3) (pos 0) 2 0 })
      (record { a = whole_box (pos 0) (pos 0) 1 2; b = whole_box (pos 3) (pos 0) 0 0 }))
  hy_of_a : boxes_verdict (measured_boxes (measured_box (just 0) (just 0) (just 0) (span (negsuc 0) (pos 0))) crate)
      ≡ refused 17
  hx_of_b : boxes_verdict (measured_boxes crate (measured_box (just 0) (just 0) (just 1025) (just 0))) ≡ refused 17
  hy_of_b : boxes_verdict (measured_boxes crate (measured_box (just 0) (just 0) (just 0) (span (pos 1) (pos 0))))
      ≡ refused 17

box_cases : BoxCases
unfolding measured_boxes box_in_limits in_limits boxes_within boxes_touch within nearest_boxes farthest_boxes nearest
    farthest
box_cases = record {
  one_corner = refl;
  beside_it = refl;
  under_it = refl;
  tolerance = refl;
  half_widths = refl;
  hy_of_a = refl;
  hx_of_b = refl;
  hy_of_b = refl;
}
