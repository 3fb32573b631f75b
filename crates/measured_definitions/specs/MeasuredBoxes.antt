-- What the call on two measured boxes answers. Where the farthest choice with the smallest half-widths touches, all do;
-- where the nearest with the largest does not, none do; else these two are the choices. That this is right, BoxesRight,
-- is a theorem. Definitions only.
use Rattle.std.specs.Prelude.{Bool, Result, Ok, Err, cond, ◌&&◌, ℤ, pos, ◌+ℤ◌, ◌-ℤ◌}
use Rattle.std.specs.Int.Signed.{le_z}
use Rattle.shape_definitions.specs.declared.refusal.Refusal.{Refusal}
use Rattle.shape_definitions.specs.declared.refusal.Refusal.TheVariants.{MeasureOutOfLimits}
use Rattle.shape_definitions.specs.Refusal.{accepted, number_of}
use Rattle.measured_definitions.specs.declared.AxisChoice.{AxisChoice}
use Rattle.measured_definitions.specs.declared.MeasuredBox.{MeasuredBox}
use Rattle.measured_definitions.specs.declared.WholeBox.{WholeBox}
use Rattle.measured_definitions.specs.declared.BoxPair.{BoxPair}
use Rattle.measured_definitions.specs.declared.BoxesAnswer.{BoxesAnswer}
use Rattle.measured_definitions.specs.declared.Verdict.{Verdict}
use Rattle.measured_definitions.specs.declared.Verdict.TheVariants.{SurelyTouching, SurelyApart, Either}
use Rattle.measured_definitions.specs.Axes.{coordinate_in_limits, size_in_limits, nearest, farthest}
use Rattle.measured_definitions.specs.Numbers.{no_verdict_number, surely_touching_number, surely_apart_number}
use Rattle.measured_definitions.specs.Numbers.{either_number}

unfoldable pub box_in_limits : MeasuredBox → Bool
box_in_limits a =
    coordinate_in_limits a.x && coordinate_in_limits a.y && size_in_limits a.hx && size_in_limits a.hy

-- no farther apart than reach
unfoldable pub within : ℤ → ℤ → ℤ → Bool
within a b reach = le_z (b -ℤ a) reach && le_z (a -ℤ b) reach

-- on each axis the centres are no farther apart than both half-widths together
unfoldable pub boxes_touch : BoxPair → Bool
boxes_touch w =
    within w.a.x w.b.x (w.a.hx +ℤ w.b.hx) && within w.a.y w.b.y (w.a.hy +ℤ w.b.hy)

abbrev pub box_pair : AxisChoice → AxisChoice → ℤ → ℤ → ℤ → ℤ → BoxPair
box_pair x y hxa hya hxb hyb = record {
  a = record { x = x.a; y = y.a; hx = hxa; hy = hya };
  b = record { x = x.b; y = y.b; hx = hxb; hy = hyb };
}

unfoldable pub nearest_boxes : MeasuredBox → MeasuredBox → BoxPair
nearest_boxes a b =
    box_pair (nearest a.x b.x) (nearest a.y b.y)
    a.hx.highest a.hy.highest b.hx.highest b.hy.highest

unfoldable pub farthest_boxes : MeasuredBox → MeasuredBox → BoxPair
farthest_boxes a b =
    box_pair (farthest a.x b.x) (farthest a.y b.y)
    a.hx.lowest a.hy.lowest b.hx.lowest b.hy.lowest

unfoldable pub boxes_within : MeasuredBox → MeasuredBox → Verdict BoxPair
boxes_within a b =
    let near = nearest_boxes a b in
    let far = farthest_boxes a b in
    cond (boxes_touch far) SurelyTouching (cond (boxes_touch near) (Either near far) SurelyApart)

unfoldable pub measured_boxes : MeasuredBox → MeasuredBox → Result (Verdict BoxPair) Refusal
measured_boxes a b = cond (box_in_limits a && box_in_limits b) (Ok (boxes_within a b)) (Err MeasureOutOfLimits)

-- ---- the numbers and values of each case, for a host
abbrev pub no_box : WholeBox
no_box = record { x = pos 0; y = pos 0; hx = pos 0; hy = pos 0 }

abbrev pub no_boxes : BoxPair
no_boxes = record { a = no_box; b = no_box }

unfoldable pub boxes_answer : Result (Verdict BoxPair) Refusal → BoxesAnswer
boxes_answer (Err why) =
    record { refusal = number_of why; verdict = no_verdict_number; touching = no_boxes; apart = no_boxes }
boxes_answer (Ok SurelyTouching) =
    record { refusal = accepted; verdict = surely_touching_number; touching = no_boxes; apart = no_boxes }
boxes_answer (Ok SurelyApart) =
    record { refusal = accepted; verdict = surely_apart_number; touching = no_boxes; apart = no_boxes }
boxes_answer (Ok (Either t s)) = record { refusal = accepted; verdict = either_number; touching = t; apart = s }
