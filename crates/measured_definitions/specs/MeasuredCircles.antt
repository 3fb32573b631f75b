-- What the call on two measured circles answers. Where the farthest choice with the smallest radii touches, all do;
-- where the nearest with the largest does not, none do; else these two are the choices. That this is right,
-- CirclesRight, is a theorem. Definitions only.
use Rattle.std.specs.Prelude.{Bool, Result, Ok, Err, cond, ◌&&◌, ℤ, pos, ◌+ℤ◌, ◌-ℤ◌, ◌*ℤ◌}
use Rattle.std.specs.Int.Signed.{le_z}
use Rattle.shape_definitions.specs.declared.refusal.Refusal.{Refusal}
use Rattle.shape_definitions.specs.declared.refusal.Refusal.TheVariants.{MeasureOutOfLimits}
use Rattle.shape_definitions.specs.Refusal.{accepted, number_of}
use Rattle.measured_definitions.specs.declared.AxisChoice.{AxisChoice}
use Rattle.measured_definitions.specs.declared.MeasuredCircle.{MeasuredCircle}
use Rattle.measured_definitions.specs.declared.WholeCircle.{WholeCircle}
use Rattle.measured_definitions.specs.declared.CirclePair.{CirclePair}
use Rattle.measured_definitions.specs.declared.CirclesAnswer.{CirclesAnswer}
use Rattle.measured_definitions.specs.declared.Verdict.{Verdict}
use Rattle.measured_definitions.specs.declared.Verdict.TheVariants.{SurelyTouching, SurelyApart, Either}
use Rattle.measured_definitions.specs.Axes.{coordinate_in_limits, size_in_limits, nearest, farthest}
use Rattle.measured_definitions.specs.Numbers.{no_verdict_number, surely_touching_number, surely_apart_number}
use Rattle.measured_definitions.specs.Numbers.{either_number}

unfoldable pub circle_in_limits : MeasuredCircle → Bool
circle_in_limits a = coordinate_in_limits a.x && coordinate_in_limits a.y && size_in_limits a.radius

-- the centres are no farther apart than both radii together
unfoldable pub circles_touch : CirclePair → Bool
circles_touch w =
    let dx = w.b.x -ℤ w.a.x in
    let dy = w.b.y -ℤ w.a.y in
    let reach = w.a.radius +ℤ w.b.radius in
    le_z (dx *ℤ dx +ℤ dy *ℤ dy) (reach *ℤ reach)

abbrev pub circle_pair : AxisChoice → AxisChoice → ℤ → ℤ → CirclePair
circle_pair x y ra rb = record {
  a = record { x = x.a; y = y.a; radius = ra };
  b = record { x = x.b; y = y.b; radius = rb };
}

unfoldable pub nearest_circles : MeasuredCircle → MeasuredCircle → CirclePair
nearest_circles a b =
    circle_pair (nearest a.x b.x) (nearest a.y b.y) a.radius.highest b.radius.highest

unfoldable pub farthest_circles : MeasuredCircle → MeasuredCircle → CirclePair
farthest_circles a b =
    circle_pair (farthest a.x b.x) (farthest a.y b.y) a.radius.lowest b.radius.lowest

unfoldable pub circles_within : MeasuredCircle → MeasuredCircle → Verdict CirclePair
circles_within a b =
    let near = nearest_circles a b in
    let far = farthest_circles a b in
    cond (circles_touch far) SurelyTouching (cond (circles_touch near) (Either near far) SurelyApart)

unfoldable pub measured_circles : MeasuredCircle → MeasuredCircle → Result (Verdict CirclePair) Refusal
measured_circles a b =
    cond (circle_in_limits a && circle_in_limits b) (Ok (circles_within a b)) (Err MeasureOutOfLimits)

-- ---- the numbers and values of each case, for a host
abbrev pub no_circle : WholeCircle
no_circle = record { x = pos 0; y = pos 0; radius = pos 0 }

abbrev pub no_circles : CirclePair
no_circles = record { a = no_circle; b = no_circle }

unfoldable pub circles_answer : Result (Verdict CirclePair) Refusal → CirclesAnswer
circles_answer (Err why) =
    record { refusal = number_of why; verdict = no_verdict_number; touching = no_circles; apart = no_circles }
circles_answer (Ok SurelyTouching) =
    record { refusal = accepted; verdict = surely_touching_number; touching = no_circles; apart = no_circles }
circles_answer (Ok SurelyApart) =
    record { refusal = accepted; verdict = surely_apart_number; touching = no_circles; apart = no_circles }
circles_answer (Ok (Either t s)) = record { refusal = accepted; verdict = either_number; touching = t; apart = s }
